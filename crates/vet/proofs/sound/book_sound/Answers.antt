-- Three classes of one width.
use native.Mathlib.Omega.{arith}
use mathlib.Core.Path.{refl}
use Rattle.model.specs.BookWords.{class_form}
use Rattle.model.specs.Words.{class_width}
use Rattle.model.proofs.Bounds.{fit_shares}
use Rattle.vet.proofs.Tests.{each_test, first_long, second_long, third_long}
use Rattle.vet.proofs.sound.book_sound.Goals as goal

pub class_width-a-requires : goal.class_width-a-requires
class_width-a-requires c = fit_shares c.args.vetted.now.s c.args.vetted.now.fit

pub class_sound-feeders-requires : goal.class_sound-feeders-requires
class_sound-feeders-requires c =
    let h = c.args.vetted.now.s.shares in
    (fit_shares c.args.vetted.now.s c.args.vetted.now.fit, first_long (class_form h) (class_width h) (λ c. omega arith) c.args.book.now c.requires _ _ c.class_width-a.ensures.0 refl)

pub class_sound-peers-requires : goal.class_sound-peers-requires
class_sound-peers-requires c =
    let class-width-2 = c.class_width-a in
    let h = c.args.vetted.now.s.shares in
    (fit_shares c.args.vetted.now.s c.args.vetted.now.fit, second_long (class_form h) (class_width h) (λ c. omega arith) c.args.book.now c.requires _ _ class-width-2.ensures.0 refl)

pub class_sound-own-requires : goal.class_sound-own-requires
class_sound-own-requires c =
    let class-width-2 = c.class_width-a in
    let h = c.args.vetted.now.s.shares in
    (fit_shares c.args.vetted.now.s c.args.vetted.now.fit, third_long (class_form h) (class_width h) (λ c. omega arith) c.args.book.now c.requires _ _ class-width-2.ensures.0 refl)

pub returns : goal.returns
returns c =
    let class-width-2 = c.class_width-a in
    let class-sound = c.class_sound-feeders in
    let class-sound2 = c.class_sound-peers in
    let h = c.args.vetted.now.s.shares in
    each_test (class_form h) (class_width h) (λ c. omega arith) c.args.book.now c.requires _ _ class-width-2.ensures.0 refl _ _ _ class-sound.ensures
    class-sound2.ensures c.class_sound-own.ensures

-- The book decides, or else the registers.
use Prim.Native.Nat.{◌*◌}
use native.Mathlib.Omega.{arith}
use mathlib.Core.Path.{sym, ◌∙◌, ◌≡◌}
use Rattle.runs.specs.Combine.{both, free}
use Rattle.model.specs.Words.{book_form, registers_form, unused_width}
use Rattle.model.proofs.Bounds.{fit_shares}
use Rattle.vet.proofs.Tests.{first_not, first_on}
use Rattle.vet.proofs.sound.body_sound.Goals as goal

pub class_width-a-requires : goal.class_width-a-requires
class_width-a-requires c = fit_shares c.args.vetted.now.s c.args.vetted.now.fit

pub returns-else-book_sound : goal.returns-else-book_sound
returns-else-book_sound c =
    let t = c.args.vetted.now.s in
    let w = c.class_width-a.ensures.0 in
    let e : 3 * c.class_width-a.result ≡ (book_form t).wide = omega arith in
    c.if-book_sound.false ∙ first_not (book_form t) (both (registers_form t) (free (unused_width t))) c.args.body.now _ e (omega arith)
    (sym c.if-book_sound.false ∙ c.book_sound.ensures)

pub returns-then-book_sound : goal.returns-then-book_sound
returns-then-book_sound c =
    let t = c.args.vetted.now.s in
    let w = c.class_width-a.ensures.0 in
    let e : 3 * c.class_width-a.result ≡ (book_form t).wide = omega arith in
    first_on (book_form t) (both (registers_form t) (free (unused_width t))) c.args.body.now _ e (omega arith) (sym c.if-book_sound.true ∙ c.book_sound.ensures)
    _ c.registers_sound.ensures

-- The five limits are read where the front has them.
use lib.Seq.{get_or-drop}
use mathlib.Core.Path.{◌∙◌}
use lib.ListN.{drop}
use Rattle.model.specs.Words.{front_sound}
use Rattle.numbers.proofs.Readers.{limits_first, shares_part}
use Rattle.vet.proofs.sound.front_sound.Goals as goal

pub returns : goal.returns
unfolding front_sound
returns c =
    let front = c.args.front.now in
    let shares = c.shares_of-shares.ensures ∙ shares_part front in
    let limits = c.limits_of.ensures ∙ limits_first (drop 5 front) in
    rw (c.eq.ensures, shares, c.limits_fit-limits.ensures, limits) (simp get_or-drop)

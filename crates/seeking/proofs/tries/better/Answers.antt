use mathlib.Core.Path.{sym, ◌∙◌}
use denote.Enum.Bare.{same_true, same_false}
use Rattle.model.specs.contracts.Verdict.{the_type}
use Rattle.seeking.proofs.Trying.{better_past, better_found, better_not}
use Rattle.seeking.proofs.tries.better.Goals as goal

pub returns-then-not-is_below : goal.returns-then-not-is_below
returns-then-not-is_below c = search better_past

pub returns-then-eq : goal.returns-then-eq
returns-then-eq c = let e = same_true the_type (record {}) _ _ (sym c.eq.ensures ∙ c.if-eq.true) in search better_found

pub returns : goal.returns
returns c = let e = same_false the_type _ _ (sym c.eq.ensures ∙ c.if-eq.false) in search better_not

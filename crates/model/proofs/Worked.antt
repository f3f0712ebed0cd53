-- The rules give every answer and every number of the worked cases: one theorem, by computing.
use mathlib.Core.Path.{◌≡◌, refl}
use Rattle.model.specs.Calls.{compute_rules}
use Rattle.model.specs.SameAnswers.{served, answers_from, state_after}
use Rattle.model.specs.Worked.{takes_by, cases, strikes, slots_in, slots_holding, numbers, dumped, outcome, paper}

pub worked : outcome ≡ paper
unfolding compute_rules takes_by served answers_from state_after cases strikes slots_in slots_holding numbers dumped outcome paper
worked = refl

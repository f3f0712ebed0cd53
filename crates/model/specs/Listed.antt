-- A code that a call brings: what it stands for where it is listed, refusal 1 where it is not.
use Rattle.std.specs.Prelude.{Bool, cond, Result, Ok, Err}
use Rattle.model.specs.declared.Refusal.{Refusal}
use Rattle.model.specs.declared.Refusal.TheVariants.{Unfit}

abbrev pub listed : {A : Type 0} → Bool → A → Result A Refusal
listed fits x = cond fits (Ok x) (Err Unfit)

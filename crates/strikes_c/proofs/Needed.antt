-- What strikes_words_needed answers: settings that are refused, and settings in bounds.
use Prim.Native.Nat.{ℕ}
use mathlib.Core.Path.{◌≡◌, ◌∙◌}
use mathlib.Core.Bool.{false}
use mathlib.Core.List.{List}
use Rattle.runs.proofs.Cases.{by_test}
use Rattle.model.specs.declared.Refusal.{Refusal}
use Rattle.model.specs.Answer.{refusal_number}
use Rattle.model.specs.Calls.{first_met, settings_words_fit}
use Rattle.model.proofs.Refused.{refusal_there}
use Rattle.vet.specs.Vetted.{unfit_alone}
use Rattle.vet.specs.Entries.{Refuses}
use Rattle.strikes.specs.Admitted.{told_number}
use Rattle.strikes_c.specs.Out.{told_out, NeedsWords, needed_status, needed_out}
use Rattle.std.specs.Prelude.{Result, Ok, Err}

module _ (st : List ℕ) where
  refused_with : (e : Refusal) → Refuses (unfit_alone st) e → (settings_words_fit st ≡ false) × (refusal_number e ≡ 1)
  unfolding unfit_alone first_met
  refused_with e h = by_test (settings_words_fit st) (λ f. absurd (refusal_there e (rw f at h))) (λ f. (f, rw f at h))

  pub number_needed : (told : Result ℕ Refusal) (n : ℕ) → NeedsWords st told → n ≡ told_number told → n ≡ needed_status st
  number_needed (Ok need) n h e = rw h.0 e
  number_needed (Err e) n h t = let r = refused_with e h in rw r.0 (t ∙ r.1)

  pub value_needed : (told : Result ℕ Refusal) (out old : ℕ) → NeedsWords st told → out ≡ told_out (λ k. k) told old → out ≡ needed_out st old
  value_needed (Ok need) out old h e = rw h.0 (e ∙ h.1)
  value_needed (Err e) out old h t = let r = refused_with e h in rw r.0 t

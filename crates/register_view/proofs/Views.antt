-- Of the words of a well-formed register, what the code writes is the model's view, and its length that of the model's.
use Prim.Native.Nat.{ℕ, ◌+◌, ◌*◌}
use native.Mathlib.Omega.{arith}
use mathlib.Core.Path.{◌≡◌, refl, ap, ◌∙◌}
use mathlib.Core.List.{List, ◌++◌}
use lib.ListN.{length, length-append}
use Rattle.runs.specs.Over.{written}
use Rattle.runs.proofs.Over.{flat_itself}
use Rattle.runs.proofs.Chunks.{flat_append, length_flat}
use Rattle.model.specs.declared.Usable.{Usable}
use Rattle.model.specs.Widths.{generation_width}
use Rattle.model.specs.Settings.{ring_of}
use Rattle.model.specs.Generation.{Generation}
use Rattle.model.specs.GenerationWords.{encode_generation}
use Rattle.model.specs.Register.{Register}
use Rattle.model.specs.RegisterWords.{register_form}
use Rattle.model.specs.Dump.{held_list}
use Rattle.model.specs.RawViews.{generation_view, register_view}
use Rattle.model.specs.Calls.{written_over}
use Rattle.register.specs.Words.{RegisterWords, RegisterReads}
use Rattle.dump.specs.Parts.{one_held, held_parts}
use Rattle.dump.specs.Outputs.{Holds, Outputs}
use Rattle.dump.proofs.Dumped.{if_held, ring_parts, ring_held, classes_shown, classes_total}
use Rattle.register_view.specs.Views.{Fits, Puts, part_view, nothing_before, register_parts}

-- ---- one generation
part_is : (S : ℕ) (g : Generation) → part_view (encode_generation S g) ≡ if_held g (generation_view g)
unfolding part_view
part_is S g = refl

-- ---- a register
module _ (u : Usable) (reg : Register) (ok : (register_form u).Ok reg) (ws : List ℕ) (is : ws ≡ (register_form u).enc reg) where
  abbrev S : ℕ
  S = u.slots

  abbrev n : ℕ
  n = ring_of u

  abbrev of_feeders : List Generation
  of_feeders = reg.rings.of_feeders

  abbrev of_peers : List Generation
  of_peers = reg.rings.of_peers

  abbrev of_own : List Generation
  of_own = reg.rings.of_own

  -- what is written
  register_is : register_parts (generation_width S) n ws ≡ register_view reg
  unfolding register_view
  register_is =
      rw (
        classes_shown u reg ok ws is nothing_before part_view,
        ring_parts S n of_feeders ok.1.0 part_view generation_view (λ g fits. part_is S g),
        ring_parts S n of_peers ok.1.1.0 part_view generation_view (λ g fits. part_is S g),
        ring_parts S n of_own ok.1.1.1 part_view generation_view (λ g fits. part_is S g),
        flat_append generation_view (held_list of_feeders) (held_list of_peers ++ held_list of_own),
        flat_append generation_view (held_list of_peers) (held_list of_own),
      )

  -- how many words it has
  register_counted : 4 * held_parts (generation_width S) ws ≡ length (register_view reg)
  unfolding register_view
  register_counted =
      let l = length-append (held_list of_feeders) (held_list of_peers ++ held_list of_own) in
      let m = length-append (held_list of_peers) (held_list of_own) in
      rw (
        classes_total u reg ok ws is one_held,
        ring_held S n of_feeders ok.1.0,
        ring_held S n of_peers ok.1.1.0,
        ring_held S n of_own ok.1.1.1,
        length_flat generation_view 4 (λ g. refl),
      ) (omega arith)

  viewed : {out after : List ℕ} {r : ℕ} → Puts 0 (register_parts (generation_width S) n ws) out after r
      → (after ≡ written_over (register_view reg) out) × (r ≡ length (register_view reg))
  unfolding written
  viewed d =
      let e = register_is in
      let k = rw (e, flat_itself) at d.out in
      let m = rw e at d.next in
      let z : 0 + length (register_view reg) ≡ length (register_view reg) = omega arith in
      (rw (← z) k, omega arith)

-- ---- as the code calls it
module _ {u : Usable} {ws : List ℕ} (w : RegisterWords u ws) {k ring : ℕ} {lent : List ℕ} (l : lent ≡ ws) (e : k ≡ u.slots) (r : ring ≡ ring_of u) where
  pub view_counted : {m : ℕ} → m ≡ held_parts (generation_width k) lent → RegisterReads u (λ reg. length (register_view reg)) ws (4 * m)
  view_counted x = record { says = λ reg ok is. ap (λ (m : ℕ). 4 * m) (rw (l, e) at x) ∙ register_counted u reg ok ws is }

  pub view_fits : {out : List ℕ} → Holds register_view u ws out → Fits 0 (register_parts (generation_width k) ring lent) out
  view_fits h =
      let v = w.is.value in
      let room = h.room v w.is.ok w.is.words in
      rw (l, e, r, register_is u v w.is.ok ws w.is.words) (record { room = omega arith })

  pub view_wrote : {out mid after : List ℕ} {n : ℕ} → Puts 0 (register_parts (generation_width k) ring lent) out mid n → after ≡ mid → Outputs register_view u ws out after n
  view_wrote p same =
      let q = rw (l, e, r, ← same) at p in
      record { out = record { says = λ reg ok is. (viewed u reg ok ws is q).0 }; count = record { says = λ reg ok is. (viewed u reg ok ws is q).1 } }

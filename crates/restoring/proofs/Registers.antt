-- What each leaf does to a register, and that it stays well formed. Assumes nothing.
use Prim.Native.Nat.{ℕ, ◌-◌, ◌<◌, ◌≤◌}
use mathlib.Core.Path.{◌≡◌, refl, sym, ap, subst, ◌∙◌}
use mathlib.Core.Bool.{Bool, true, false}
use mathlib.Core.List.{List, []}
use Rattle.std.specs.Prelude.{Option, None}
use borrow.Rule.Slice.PartMut.{mid_of, put_mid}
use Rattle.runs.specs.Turns.{silent}
use Rattle.model.specs.RegisterWords.{register_form}
use Rattle.model.specs.declared.Class.{Class}
use Rattle.model.specs.declared.Room.{Room}
use Rattle.model.specs.declared.Room.TheVariants.{At, Collides, Full as NoSlots}
use Rattle.model.specs.declared.Settings.{Settings}
use Rattle.model.specs.declared.Usable.{Usable}
use Rattle.model.specs.Settings.{usable_at}
use Rattle.model.specs.Class.{pick}
use Rattle.model.specs.Generation.{as_read}
use Rattle.model.specs.Register.{Register, strike}
use Rattle.model.specs.Judge.{make_room}
use Rattle.model.specs.Dump.{failed}
use Rattle.model.proofs.Bounds.{fit_usable, slots_small}
use Rattle.model.proofs.Judging.{read_positive}
use Rattle.model.proofs.RingsKept.{RegisterOk, strike_ok, failed_ok, floor_ok}
use Rattle.numbers.specs.declared.starts.RegisterExtent.{RegisterExtent}
use Rattle.numbers.specs.RegisterAt.{RegisterAt}
use Rattle.register.specs.Rules.{failed_at, floor_gone, raised_with}
use Rattle.register.specs.Words.{RegisterReads, RegisterTurns}
use Rattle.taking.specs.Words.{RunWords}
use Rattle.restoring.specs.declared.heads.Head.{Head}
use Rattle.restoring.specs.Rules.{room_in, fits_in, held_at, held_in}
use Rattle.restoring.specs.Words.{Acts}
use Rattle.restoring.proofs.Acting.{register_acts, acts_words}

-- ---- a fingerprint
module _ (u : Usable) (h : Head) (fp : ℕ) where
  stays_at : (reg : Register) (m : Room) → ((i : ℕ) → m ≡ At i → ⊥) → (reg ≡ held_at h fp reg m) × (false ≡ fits_in m)
  unfolding held_at fits_in
  stays_at reg (At i) n = absurd (n i refl)
  stays_at reg Collides n = (refl, refl)
  stays_at reg NoSlots n = (refl, refl)

  struck_at : (reg : Register) (i : ℕ) → (strike h.class h.bucket.0 (as_read fp) h.newest reg ≡ held_at h fp reg (At i)) × (true ≡ fits_in (At i))
  unfolding held_at fits_in
  struck_at reg i = (refl, refl)

  pub hold_stays : (ws : List ℕ) (print : ℕ) (m : Room) → print ≡ as_read fp
      → RegisterReads u (λ reg. make_room u.slots h.bucket.0 print (pick h.class reg.rings)) ws m → ((i : ℕ) → m ≡ At i → ⊥)
      → RegisterTurns u (held_in u h fp) (λ reg. fits_in (room_in u h fp reg)) ws ws false
  hold_stays ws print m e f o = record {
    does = λ reg ok is.
        let q : m ≡ room_in u h fp reg = f.says reg ok is ∙ ap (λ (n : ℕ). make_room u.slots h.bucket.0 n (pick h.class reg.rings)) e in
        let z = stays_at reg m o in
        (is ∙ ap (register_form u).enc (z.0 ∙ ap (held_at h fp reg) q), z.1 ∙ ap fits_in q);
  }

  pub hold_strikes : (ws last : List ℕ) (print : ℕ) (m : Room) (i : ℕ) → print ≡ as_read fp → m ≡ At i
      → RegisterReads u (λ reg. make_room u.slots h.bucket.0 print (pick h.class reg.rings)) ws m
      → RegisterTurns u (strike h.class h.bucket.0 print h.newest) silent ws last (tt {0})
      → RegisterTurns u (held_in u h fp) (λ reg. fits_in (room_in u h fp reg)) ws last true
  hold_strikes ws last print m i e a f t = record {
    does = λ reg ok is.
        let q : At i ≡ room_in u h fp reg = sym a ∙ f.says reg ok is ∙ ap (λ (n : ℕ). make_room u.slots h.bucket.0 n (pick h.class reg.rings)) e in
        let z = struck_at reg i in
        let y = (t.does reg ok is).0 in (
          y ∙ ap (λ (n : ℕ). (register_form u).enc (strike h.class h.bucket.0 n h.newest reg)) e
              ∙ ap (register_form u).enc (z.0 ∙ ap (held_at h fp reg) q),
          z.1 ∙ ap fits_in q,
        );
  }

  held_fine : u.slots ≤ 1_024 → (reg : Register) (m : Room) → room_in u h fp reg ≡ m → RegisterOk u reg → RegisterOk u (held_at h fp reg m)
  unfolding held_at
  held_fine small reg (At i) e ok = strike_ok u h.class h.bucket.0 (as_read fp) h.newest i reg small (read_positive fp) e ok
  held_fine small reg Collides e ok = ok
  held_fine small reg NoSlots e ok = ok

failed_fine : (u : Usable) (c : Class) (b newest : ℕ) (reg : Register) → RegisterOk u reg → RegisterOk u (failed_at c b newest reg)
unfolding failed
failed_fine u c b newest reg ok = failed_ok u c (record { bucket = b; newest = newest; prints = [] }) reg ok

-- ---- in the run
module _ (s : Settings) (r : ℕ) (q : r < s.registers) (p : RegisterExtent) (l : RegisterAt s r p) (ws last : List ℕ) (w : RunWords s ws) where
  abbrev part : List ℕ
  part = mid_of p.start (p.end - p.start) ws

  abbrev after : List ℕ
  after = put_mid p.start (p.end - p.start) ws last

  pub hold_acts : (h : Head) (fp : ℕ) (v : Bool) → RegisterTurns p.u (held_in p.u h fp) (λ reg. fits_in (room_in p.u h fp reg)) part last v
      → RunWords s after × Acts s r (λ reg k. held_in (usable_at s r) h fp reg) (λ reg k. k) (λ reg k. fits_in (room_in (usable_at s r) h fp reg)) ws after v
  hold_acts h fp v t =
      let small = slots_small (usable_at s r) (fit_usable s r w.fit q) in
      let t2 = subst (λ (u : Usable). RegisterTurns p.u (held_in u h fp) (λ reg. fits_in (room_in u h fp reg)) part last v) l.usable t in
      let a = register_acts s r q p l ws (held_in (usable_at s r) h fp) (λ reg. fits_in (room_in (usable_at s r) h fp reg)) last v
      (λ reg ok. held_fine (usable_at s r) h fp small reg _ refl ok) t2 in
      (acts_words s r q ws after w a, a)

  pub fail_acts : (h : Head) → RegisterTurns p.u (failed_at h.class h.bucket.0 h.newest) silent part last (tt {0})
      → RunWords s after × Acts s r (λ reg k. failed_at h.class h.bucket.0 h.newest reg) (λ reg k. k) (λ reg. silent) ws after (tt {0})
  fail_acts h t =
      let a = register_acts s r q p l ws (failed_at h.class h.bucket.0 h.newest) silent last (tt {0})
      (failed_fine (usable_at s r) h.class h.bucket.0 h.newest) t in
      (acts_words s r q ws after w a, a)

  pub forget_acts : ((u : Usable) → RegisterTurns u floor_gone silent part last (tt {0}))
      → RunWords s after × Acts s r (λ reg k. floor_gone reg) (λ reg k. k) (λ reg. silent) ws after (tt {0})
  forget_acts t =
      let a = register_acts s r q p l ws floor_gone silent last (tt {0}) (λ reg ok. floor_ok (usable_at s r) None reg ok) (t p.u) in
      (acts_words s r q ws after w a, a)

  pub raise_acts : (f : Option ℕ) → ((u : Usable) → RegisterTurns u (raised_with f) silent part last (tt {0}))
      → RunWords s after × Acts s r (λ reg k. raised_with f reg) (λ reg k. k) (λ reg. silent) ws after (tt {0})
  raise_acts f t =
      let a = register_acts s r q p l ws (raised_with f) silent last (tt {0}) (λ reg ok. floor_ok (usable_at s r) _ reg ok) (t p.u) in
      (acts_words s r q ws after w a, a)

-- A class's ring within its register's words: what is read there is read of the register, and what is done there is done to it.
-- Assumes nothing.
use Prim.Native.Nat.{ℕ, ◌+◌, ◌-◌, ◌*◌, ◌<◌, ◌≤◌}
use native.Mathlib.Omega.{arith}
use mathlib.Core.Path.{◌≡◌, sym, ap, subst, ◌∙◌}
use mathlib.Core.List.{List}
use lib.ListN.{length}
use borrow.Rule.Slice.PartMut.{mid_of, put_mid, mid_len}
use Rattle.runs.proofs.Turns.{lies_at, part_is, part_reads, part_turns, stays}
use Rattle.model.specs.declared.Class.{Class}
use Rattle.model.specs.declared.Room.{Room}
use Rattle.model.specs.declared.Usable.{Usable}
use Rattle.model.specs.Settings.{ring_of}
use Rattle.model.specs.Class.{class_number, pick}
use Rattle.model.specs.Register.{Ring, Register, in_ring}
use Rattle.model.specs.RegisterWords.{ring_form, register_form}
use Rattle.model.specs.Words.{ring_width, ring_start}
use Rattle.model.specs.Judge.{make_room}
use Rattle.model.proofs.Words.{ring_exact}
use Rattle.model.proofs.RegisterWords.{register_exact}
use Rattle.model.proofs.Parts.{ring_part}
use Rattle.numbers.proofs.Placing.{ring_within}
use Rattle.ring.specs.Ring.{RingWords, RingReads, RingTurns}
use Rattle.register.specs.Words.{RegisterWords, RegisterReads, RegisterTurns, RingsOf, RingAt}

-- ---- where a class's ring lies, among rings of the register's sizes
pub placed : (u : Usable) (c : Class) (S n w k start : ℕ) → RingsOf u S n w → k ≡ class_number c → start ≡ 24 + k * w
    → RingAt u c S n start (start + w)
placed u c S n w k start l e at =
    let from : start ≡ ring_start u c = rw (at, e, l.width) in
    let h = ring_within u c in
    let v = l.width in
    record { slots = l.slots; ring = l.ring; start = from; end = rw l.width; within = omega arith }

module _ (u : Usable) (c : Class) (S n a e : ℕ) (l : RingAt u c S n a e) where
  -- a position of the register's rings
  pub ring_below : (i : ℕ) → i < ring_of u → i < n
  ring_below i h = rw l.ring h

  -- what a function on the ring asks
  pub ring_asks : (ws : List ℕ) → RegisterWords u ws → RingWords S n (mid_of a (e - a) ws)
  ring_asks ws w =
      let h : e ≤ length ws = omega (arith, w.long, l.within) in
      let k : e - a ≡ ring_width u = omega (arith, l.end) in
      rw (l.slots, l.ring) (record {
        long = mid_len a e ws h ∙ k;
        is = part_is (ring_part u c).lies a e l.start l.end w.is;
      })

  pub ring_reads : {R : Type 0} {out : Ring → R} {ws : List ℕ} {r : R}
      → RingReads S n out (mid_of a (e - a) ws) r → RegisterReads u (λ reg. out (pick c reg.rings)) ws r
  ring_reads t = part_reads (ring_part u c).lies a e l.start l.end (rw (l.slots, l.ring) at t)

  pub ring_turns : {R : Type 0} {f : Ring → Ring} {out : Ring → R} {ws last : List ℕ} {r : R}
      → RingTurns S n f out (mid_of a (e - a) ws) last r
      → RegisterTurns u (in_ring c f) (λ reg. out (pick c reg.rings)) ws (put_mid a (e - a) ws last) r
  ring_turns t = part_turns (ring_part u c) a e l.start l.end (rw (l.slots, l.ring) at t)

  -- the room in the ring, with the register's most slots
  pub room_reads : (b fp : ℕ) {ws : List ℕ} {r : Room}
      → RingReads S n (make_room S b fp) (mid_of a (e - a) ws) r
      → RegisterReads u (λ reg. make_room u.slots b fp (pick c reg.rings)) ws r
  room_reads b fp {ws} {r} t =
      subst (λ (S : ℕ). RegisterReads u (λ reg. make_room S b fp (pick c reg.rings)) ws r) l.slots (ring_reads t)

  -- and back: these words are those of one ring alone
  pub room_in_ring : (b fp : ℕ) (ws : List ℕ) (r : Room) → RegisterWords u ws
      → RegisterReads u (λ reg. make_room u.slots b fp (pick c reg.rings)) ws r
      → RingReads S n (make_room S b fp) (mid_of a (e - a) ws) r
  room_in_ring b fp ws r w t =
      rw (l.slots, l.ring) (record {
        says = λ x ok is.
            let reg = w.is.value in
            let seen = lies_at (ring_part u c).lies a e l.start l.end reg w.is.ok ws w.is.words in
            let back = ((ring_exact u).forth (pick c reg.rings) ((ring_part u c).lies.fine reg w.is.ok)).1 in
            let same : pick c reg.rings ≡ x = sym back ∙ ap (ring_form u).read (sym seen ∙ is) ∙ ((ring_exact u).forth x ok).1 in
            t.says reg w.is.ok w.is.words ∙ ap (make_room u.slots b fp) same;
      })

-- ---- a register's words stay such words
pub still_words : {R : Type 0} {f : Register → Register} {out : Register → R} (u : Usable) (ws last : List ℕ) {r : R}
    → ((reg : Register) → (register_form u).Ok reg → (register_form u).Ok (f reg))
    → RegisterTurns u f out ws last r → RegisterWords u ws → RegisterWords u last
still_words u ws last keeps t w =
    let i = stays keeps t w.is in
    let k : length last ≡ (register_form u).wide = ap length i.words ∙ (register_exact u (ring_exact u)).width i.value i.ok in
    record { fit = w.fit; long = omega (arith, k); least = omega (arith, k); is = i }

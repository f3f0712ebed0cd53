-- A register's own dump, restored onto it, leaves it as it is (specs/SameDump). Assumes nothing.
use Prim.Native.Nat.{ℕ, suc, ◌+◌, ◌-◌, ◌%◌, ◌<◌, max}
use native.Mathlib.Omega.{arith}
use mathlib.Core.Path.{◌≡◌, refl, ap, sym, ◌∙◌, subst}
use mathlib.Core.Bool.{Bool, true, false, cond, not}
use mathlib.Core.List.{List, [], ◌∷◌, ◌++◌, map}
use Rattle.std.specs.Prelude.{Option, Some, None}
use lib.Dec.{eqb}
use lib.ListN.{length, get_or}
use lib.Seq.{get_or-set_same, set-get_or}
use borrow.Author.Tests.{eqb-false, eq-eqb, ne_eqb, leb-false}
use Rattle.model.specs.Answer.{Whole, Partly}
use Rattle.model.specs.declared.Class.{Class}
use Rattle.model.specs.declared.Class.TheVariants.{Feeders, Peers, Own}
use Rattle.model.specs.declared.Deliverer.TheVariants.{Restored}
use Rattle.model.specs.declared.Room.{Room}
use Rattle.model.specs.declared.Room.TheVariants.{At, Collides, Full as NoSlots}
use Rattle.model.specs.declared.Settings.{Settings}
use Rattle.model.specs.declared.Usable.{Usable}
use Rattle.model.specs.declared.Shares.{Shares}
use Rattle.runs.specs.Combine.{EachOk}
use Rattle.runs.proofs.Cases.{by_test, split_if, both_true, no}
use Rattle.model.specs.Numbers.{cap64, raise}
use Rattle.model.specs.Settings.{ring_of, settings_of, usable_at}
use Rattle.model.specs.Class.{Each, pick, swap}
use Rattle.model.specs.Generation.{Generation, empty, count, held, among, as_read, oldest_with, insert}
use Rattle.model.specs.Book.{Book, second_of, granted, draw_says, drawn}
use Rattle.model.specs.Register.{Ring, Register, with_rings, generation_at, with_generation, holds, strike}
use Rattle.model.specs.Dump.{fingerprints, held_list, dumped_floor, Dump, read_dump, Holding, hold_room, hold_one, hold_all, Restoring, restore_class}
use Rattle.model.specs.Dump.{begun, raised_to_dumped, restore}
use Rattle.model.specs.GenerationWords.{GenerationOk}
use Rattle.model.specs.RegisterWords.{register_form}
use Rattle.model.specs.Words.{State}
use Rattle.model.specs.Codes.{went_through}
use Rattle.model.specs.Calls.{On, Restore, no_register, register_at, bytes_read, after_restored, restored, done_on, step, is_open, no_such_register, held_in, after}
use Rattle.model.specs.BringsBack.{bytes_of}
use Rattle.model.specs.SameDump.{all_held, OwnDumpLeaves}
use Rattle.model.proofs.Growth.{held_kept, among_count, ok_ways, ok_found}
use Rattle.model.proofs.RingsKept.{RegisterOk, from_form}
use Rattle.model.proofs.Judging.{read_positive}
use Rattle.model.proofs.Simulates.{entered, vetted_ok, reply_is, after_vetted, after_holds, through_zero}
use Rattle.model.proofs.DumpRead.{as_dumped, dumped_of, dump_of, dump_back}
use Rattle.model.proofs.Filling.{Positive, one_more, prints_positive, prints_among, read_as}
use Rattle.model.proofs.SmallWords.{dump_small}
use Rattle.model.proofs.RoundTrip.{wrote}
use Rattle.model.proofs.BringsBack.{holding_is}
use Rattle.model.proofs.SameDump.{whole_before, first_leaves}

-- ---- one generation: what it holds is inserted under its own bucket and newest stamp
insert_again : (S n i : ℕ) (g : Generation) → GenerationOk S n i g → (fp : ℕ) → 0 < fp → among fp g.slots ≡ true
    → insert g.bucket fp g.newest g ≡ g
unfolding insert
insert_again S n i g ok fp pos t =
    let s = held_kept g.slots fp pos (ok_found S n i g ok) t in
    let some_held = among_count fp g.slots pos t in
    let a = ok.aged in
    let o : oldest_with g.newest g ≡ g.oldest = rw (ne_eqb (count g.slots) 0 (λ z. omega arith)) (omega arith) in
    let m : max g.newest g.newest ≡ g.newest = omega arith in
    λ j. record { bucket = g.bucket; oldest = o j; newest = m j; slots = s j }

swap_pick : {A : Type 0} (c : Class) (e : Each A) → swap c (pick c e) e ≡ e
swap_pick Feeders e = refl
swap_pick Peers e = refl
swap_pick Own e = refl

-- a generation of a ring, at its bucket's position
record Lies (S n : ℕ) (ring : Ring) (g : Generation) : Type 0 where
  there : generation_at ring g.bucket ≡ g
  position : ℕ
  ok : GenerationOk S n position g

module _ (S n : ℕ) (reg : Register) (c : Class) (g : Generation) (l : Lies S n (pick c reg.rings) g) where
  abbrev ring : Ring
  ring = pick c reg.rings

  strike_again : (fp : ℕ) → 0 < fp → holds g.bucket fp ring ≡ true → strike c g.bucket fp g.newest reg ≡ reg
  unfolding strike holds
  strike_again fp pos h =
      let b = g.bucket in
      let t : among fp g.slots ≡ true =
      ap (λ (x : Generation). among fp x.slots) (sym l.there) ∙ (both_true (eqb (generation_at ring b).bucket b) (among fp (generation_at ring b).slots) h).1 in
      let one : insert b fp g.newest (generation_at ring b) ≡ generation_at ring b =
      ap (insert b fp g.newest) l.there ∙ insert_again S n l.position g l.ok fp pos t ∙ sym l.there in
      let same : with_generation ring b (insert b fp g.newest (generation_at ring b)) ≡ ring =
      ap (with_generation ring b) one ∙ set-get_or ring (b % length ring) empty in
      ap (λ (x : Ring). with_rings (swap c x reg.rings) reg) same ∙ ap (λ (e : Each Ring). with_rings e reg) (swap_pick c reg.rings)

  module _ (u : Usable) (b : Shares) where
    room_leaves : (fp : ℕ) (h : Holding) (k : Book) (m : Room) → h.register ≡ reg → holds g.bucket (as_read fp) ring ≡ true
        → (hold_room c (as_dumped g) fp h k m).register ≡ reg
    unfolding hold_room
    room_leaves fp h k (At i) e t = ap (strike c g.bucket (as_read fp) g.newest) e ∙ strike_again (as_read fp) (read_positive fp) t
    room_leaves fp h k Collides e t = e
    room_leaves fp h k NoSlots e t = e

    one_leaves : (fp : ℕ) (h : Holding) → h.register ≡ reg → holds g.bucket (as_read fp) ring ≡ true
        → (hold_one u b c (as_dumped g) fp h).register ≡ reg
    unfolding hold_one
    one_leaves fp h e t =
        let second = second_of g.bucket u.bucket in
        split_if (λ (x : Holding). x.register ≡ reg) (not h.fits) (λ p. e)
        (λ p. split_if (λ (x : Holding). x.register ≡ reg) (granted (draw_says b (Restored c) second h.book))
        (λ q. room_leaves fp h (drawn b (Restored c) second h.book) _ e t) (λ q. e))

    all_leaves : (fps : List ℕ) (h : Holding) → h.register ≡ reg → all_held g.bucket fps ring ≡ true
        → (hold_all u b c (as_dumped g) fps h).register ≡ reg
    unfolding hold_all all_held
    all_leaves [] h e t = e
    all_leaves (fp ∷ fps) h e t =
        let p = both_true (holds g.bucket (as_read fp) ring) (all_held g.bucket fps ring) t in
        all_leaves fps (hold_one u b c (as_dumped g) fp h) (one_leaves fp h e p.0) p.1

  -- what it lists, it holds
  prints_held : (fps : List ℕ) → Positive fps → ((x : ℕ) → 0 < x → among x fps ≡ true → among x g.slots ≡ true) → all_held g.bucket fps ring ≡ true
  unfolding all_held holds among
  prints_held [] pos t = refl
  prints_held (fp ∷ fps) (one_more h pos) t =
      let b = g.bucket in
      let e = eq-eqb (generation_at ring b).bucket b (ap (λ (x : Generation). x.bucket) l.there) in
      let f : among (as_read fp) (generation_at ring b).slots ≡ true =
      ap (λ (x : Generation). among (as_read fp) x.slots) l.there ∙ rw (read_as fp h) (t fp h (rw (eq-eqb fp fp refl))) in
      rw (e, f) (prints_held fps pos (λ x p q. t x p (by_test (eqb x fp) (λ z. rw z) (λ z. rw (z, q)))))

  own_held : all_held g.bucket (fingerprints g.slots) ring ≡ true
  own_held = prints_held (fingerprints g.slots) (prints_positive g.slots) (λ x p q. sym (prints_among x g.slots p) ∙ q)

-- ---- a class: all its held generations lie at their positions
data AllLie (S n : ℕ) (ring : Ring) : List Generation → Type 0 where
  no_more : AllLie S n ring []
  one_lies : {g : Generation} {gs : List Generation} → Lies S n ring g → AllLie S n ring gs → AllLie S n ring (g ∷ gs)

held_lie : (S n i : ℕ) (gs ring : Ring) → EachOk (GenerationOk S n) i gs → length ring ≡ n
    → ((j : ℕ) → j < length gs → get_or ring (i + j) empty ≡ get_or gs j empty) → AllLie S n ring (held_list gs)
unfolding EachOk held_list count
held_lie S n i [] ring ok long same = no_more
held_lie S n i (g ∷ gs) ring ok long same =
    let rest = held_lie S n (suc i) gs ring ok.1 long (λ j h. let e : suc i + j ≡ i + suc j = omega arith in rw e (same (suc j) (omega arith))) in
    by_test (eqb (held g) 0) (λ e. rw e rest)
    (λ e. rw e (ok_ways S n i g ok.0 (λ none_there z. absurd (eqb-false (held g) 0 e (rw none_there)))
    (λ power some_held few position reached.
    let first : get_or ring (i + 0) empty ≡ g = same 0 (omega arith) in
    let z : i + 0 ≡ i = omega arith in
    one_lies (record { there = rw (long, position) (rw z at first); position = i; ok = ok.0 }) rest)))

module _ (u : Usable) (b : Shares) (reg : Register) where
  class_leaves : (c : Class) (gs : List Generation) (r : Restoring) → AllLie u.slots (ring_of u) (pick c reg.rings) gs → r.register ≡ reg
      → (restore_class u b c (map as_dumped gs) r).whole ≡ true → (restore_class u b c (map as_dumped gs) r).register ≡ reg
  unfolding restore_class
  class_leaves c [] r own e w = e
  class_leaves c (g ∷ gs) r (one_lies l own) e w =
      let d = as_dumped g in
      let held_first = all_leaves u.slots (ring_of u) reg c g l u b d.prints (begun r) e (own_held u.slots (ring_of u) reg c g l) in
      class_leaves c gs _ own (first_leaves u b c d (map as_dumped gs) r w ∙ held_first) w

  own_class : (c : Class) (r : Restoring) → RegisterOk u reg → r.register ≡ reg
      → (restore_class u b c (dumped_of (pick c reg.rings)) r).whole ≡ true → (restore_class u b c (dumped_of (pick c reg.rings)) r).register ≡ reg
  unfolding dumped_of
  own_class c r ok e w =
      let ring = pick c reg.rings in
      let lie = held_lie u.slots (ring_of u) 0 ring ring (ok.rings c).each (ok.rings c).long (λ j h. let z : 0 + j ≡ j = omega arith in rw z) in
      class_leaves c (held_list ring) r lie e w

-- ---- the whole register: its own floor raises nothing
raised_again : (f : Option ℕ) → cond (eqb (dumped_floor f) 0) f (raise f (dumped_floor f - 1)) ≡ f
unfolding dumped_floor raise cap64
raised_again None = refl
raised_again (Some f) = rw (ne_eqb (cap64 (suc f)) 0 (λ z. omega arith)) (ap Some (omega arith))

restore_leaves : (u : Usable) (b : Shares) (reg : Register) (k : Book) → RegisterOk u reg → (restore u b (dump_of reg) reg k).whole ≡ true
    → (restore u b (dump_of reg) reg k).register ≡ reg
unfolding restore raised_to_dumped
restore_leaves u b reg k ok w =
    let d = dump_of reg in
    let r₀ : Restoring = record { register = raised_to_dumped d.floor reg; book = k; whole = true } in
    let r₁ = restore_class u b Feeders d.classes.of_feeders r₀ in
    let r₂ = restore_class u b Peers d.classes.of_peers r₁ in
    let w₂ = whole_before u b Own d.classes.of_own r₂ w in
    let w₁ = whole_before u b Peers d.classes.of_peers r₁ w₂ in
    let e₀ : r₀.register ≡ reg = rw (raised_again reg.floor) in
    let e₁ = own_class u b reg Feeders r₀ ok e₀ w₁ in
    let e₂ = own_class u b reg Peers r₁ ok e₁ w₂ in
    own_class u b reg Own r₂ ok e₂ w

-- ---- on a state
said_whole : (w : Bool) (m n : ℕ) → cond w (Whole m) (Partly m) ≡ Whole n → w ≡ true
said_whole true m n e = refl
said_whole false m n e = no (cc)

restored_leaves : (s : Settings) (r : ℕ) (t : State) (o : Option Dump) (n : ℕ) → o ≡ Some (dump_of (register_at r t))
    → (register_form (usable_at s r)).Ok (register_at r t) → r < length t.registers → (restored s r t o).answer ≡ Whole n
    → register_at r (restored s r t o).state ≡ register_at r t
unfolding restored after_restored
restored_leaves s r t None n read ok low e = no (cc)
restored_leaves s r t (Some d) n read ok low e =
    let same : d ≡ dump_of (register_at r t) = cc in
    let w = restore (usable_at s r) s.shares d (register_at r t) t.book in
    let whole = said_whole w.whole (bytes_read d) n e in
    get_or-set_same t.registers r w.register no_register low
    ∙ ap (λ (x : Dump). (restore (usable_at s r) s.shares x (register_at r t) t.book).register) same
    ∙ restore_leaves (usable_at s r) s.shares (register_at r t) t.book (from_form (usable_at s r) (register_at r t) ok)
    (subst (λ (x : Dump). (restore (usable_at s r) s.shares x (register_at r t) t.book).whole ≡ true) same whole)

-- ---- on words
pub own_dump_leaves : OwnDumpLeaves
unfolding step done_on is_open no_such_register went_through
own_dump_leaves d more n e =
    let st = d.settings in
    let ws = d.words in
    let r = d.register in
    let s = settings_of st in
    let now = held_in s ws in
    let call = On r (Restore (bytes_of d ++ more)) in
    let z = through_zero st ws call (ap went_through e) in
    let k = entered st ws call z in
    let low = leb-false s.registers r k.register in
    let w = wrote st ws r d.output d.told d.small d.said in
    let long = (vetted_ok st ws w.vetted).1.1.0.0 in
    let read : read_dump (bytes_of d ++ more) ≡ Some (dump_of (register_at r now)) =
    ap (λ (x : List ℕ). read_dump (x ++ more)) w.bytes ∙ dump_back (register_at r now) more (dump_small (usable_at s r) (register_at r now) w.ok w.words) in
    ap (register_at r) (sym (holding_is st (after st ws call) (after_vetted st ws call z)) ∙ after_holds st ws call z)
    ∙ restored_leaves s r now (read_dump (bytes_of d ++ more)) n read w.ok (omega arith) (sym (reply_is st ws call z) ∙ e)
    ∙ ap (register_at r) (holding_is st ws w.vetted)

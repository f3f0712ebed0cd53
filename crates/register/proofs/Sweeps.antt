-- A sweep, ring by ring, and the three ways that a sweep takes. Assumes nothing.
use Prim.Native.Nat.{ℕ, ◌+◌, ◌-◌, ◌≤◌, ◌<◌, max}
use native.Mathlib.Numerals.{add-one}
use native.Mathlib.Omega.{arith}
use mathlib.Core.Path.{◌≡◌, refl, sym, ap, ◌∙◌}
use mathlib.Core.Bool.{Bool, true, false}
use mathlib.Core.List.{List, [], ◌∷◌}
use lib.Dec.{leb}
use lib.ListN.{get_or, drop, drop_of_length-le}
use lib.Seq.{drop-cons}
use borrow.Author.Tests.{le-leb, lt-leb}
use Rattle.runs.proofs.Turns.{then_with}
use Rattle.runs.specs.Turns.{silent}
use Rattle.model.specs.declared.Class.{Class}
use Rattle.model.specs.declared.Class.TheVariants.{Feeders, Peers, Own}
use Rattle.model.specs.declared.Usable.{Usable}
use Rattle.model.specs.Settings.{ring_of}
use Rattle.model.specs.Class.{classes, pick}
use Rattle.model.specs.Register.{Register, in_ring, sweep_ring, sweep_rings, swept_to, through_of, sweep}
use Rattle.model.specs.RegisterWords.{register_form}
use Rattle.model.proofs.RingsKept.{from_form, to_form, swapped_ok, swept_ok, sweep_ok}
use Rattle.std.specs.Prelude.{Option, None}
use Rattle.ring.specs.Sweep.{swept_ring, swept_says, raised_by}
use Rattle.ring.proofs.Sweeping.{sweep_floor}
use Rattle.register.specs.Rules.{raised_with, swept_class}
use Rattle.register.specs.Words.{RegisterWords, RegisterReads, RegisterTurns}
use Rattle.register.proofs.InRings.{still_words}

-- ---- a swept ring is well formed
module _ (u : Usable) where
  in_ring_ok : (c : Class) (a through : ℕ) (reg : Register) → (register_form u).Ok reg → (register_form u).Ok (in_ring c (swept_ring a through) reg)
  in_ring_ok c a through reg ok =
      let r = from_form u reg ok in
      to_form u (in_ring c (swept_ring a through) reg) (record {
        spare = r.spare;
        rings = swapped_ok u c (swept_ring a through (pick c reg.rings)) reg r
            (swept_ok u.slots (ring_of u) a through None (pick c reg.rings) (r.rings c));
      })

  class_ok : (c : Class) (a through : ℕ) (reg : Register) → (register_form u).Ok reg → (register_form u).Ok (swept_class c a through reg)
  class_ok c a through reg ok = in_ring_ok c a through reg ok

  -- ---- one class
  pub class_turns : (c : Class) (a through : ℕ) (ws mid last : List ℕ) (d : Option ℕ)
      → RegisterTurns u (in_ring c (swept_ring a through)) (λ reg. swept_says a through (pick c reg.rings)) ws mid d
      → RegisterTurns u (raised_with d) silent mid last (tt {0})
      → RegisterTurns u (swept_class c a through) silent ws last (tt {0})
  class_turns c a through ws mid last d one two = then_with (in_ring_ok c a through) one raised_with (λ d. silent) two

  pub class_words : (c : Class) (a through : ℕ) (ws last : List ℕ) → RegisterTurns u (swept_class c a through) silent ws last (tt {0})
      → RegisterWords u ws → RegisterWords u last
  class_words c a through ws last t w = still_words u ws last (class_ok c a through) t w

  -- ---- all three
  pub all_three : (a through : ℕ) (reg : Register)
      → swept_to through (swept_class Own a through (swept_class Peers a through (swept_class Feeders a through reg))) ≡ sweep_rings a through reg
  unfolding sweep_rings
  all_three a through reg =
      let one = sweep_ring a through reg.floor reg.rings.of_feeders in
      let two = sweep_ring a through one.floor reg.rings.of_peers in
      let x = sweep_floor a through reg.floor reg.rings.of_feeders in
      let y = sweep_floor a through one.floor reg.rings.of_peers in
      let z = sweep_floor a through two.floor reg.rings.of_own in
      let high = ap (raised_by (swept_says a through reg.rings.of_own))
      (ap (raised_by (swept_says a through reg.rings.of_peers)) (sym x.1) ∙ sym y.1) ∙ sym z.1 in
      λ i. record {
        swept = through;
        floor = high i;
        pending = reg.pending;
        spare = reg.spare;
        rings = record { of_feeders = sym x.0 i; of_peers = sym y.0 i; of_own = sym z.0 i };
      }

  -- ---- the loop over them: of every register that the words were at first, it stands on the way of their sweeps, at class i
  module _ (a through : ℕ) where
    unfoldable pub swept_among : List Class → Register → Register
    swept_among [] reg = reg
    swept_among (c ∷ cs) reg = swept_among cs (swept_class c a through reg)

    pub record OnWay (reg : Register) (i : ℕ) (words : List ℕ) : Type 0 where
      pub at : Register
      pub ok : (register_form u).Ok at
      pub are : words ≡ (register_form u).enc at
      pub left : swept_to through (swept_among (drop i classes) at) ≡ sweep_rings a through reg

    pub record Sweeping (ws : List ℕ) (i : ℕ) (words : List ℕ) : Type 0 where
      pub good : RegisterWords u words
      pub way : (reg : Register) → (register_form u).Ok reg → ws ≡ (register_form u).enc reg → OnWay reg i words

    module _ (ws : List ℕ) where
      pub sweeping_start : RegisterWords u ws → Sweeping ws 0 ws
      unfolding swept_among
      sweeping_start good = record {
        good = good;
        way = λ reg ok is. record { at = reg; ok = ok; are = is; left = all_three a through reg };
      }

      module _ (i : ℕ) (words : List ℕ) (s : Sweeping ws i words) where
        pub sweeping_on : i < 3 → (last : List ℕ) → RegisterWords u last
            → RegisterTurns u (swept_class (get_or classes i Feeders) a through) silent words last (tt {0}) → Sweeping ws (i + 1) last
        unfolding swept_among
        sweeping_on h last good t = record {
          good = good;
          way = λ reg ok is.
              let o = s.way reg ok is in
              let c = get_or classes i Feeders in
              record {
                at = swept_class c a through o.at;
                ok = class_ok c a through o.at o.ok;
                are = (t.does o.at o.ok o.are).0;
                left = rw add-one (rw (drop-cons classes i Feeders h) at o.left);
              };
        }

        pub sweeping_end : 3 ≤ i → (last : List ℕ) → RegisterTurns u (swept_to through) silent words last (tt {0})
            → RegisterTurns u (sweep_rings a through) silent ws last (tt {0})
        unfolding swept_among
        sweeping_end h last t = record {
          does = λ reg ok is.
              let o = s.way reg ok is in
              let q = rw (drop_of_length-le classes {i = i} h) at o.left in
              ((t.does o.at o.ok o.are).0 ∙ ap (register_form u).enc q, refl);
        }

  -- ---- sweep: the three ways
  module _ (ms : ℕ) where
    pub idle : (reg : Register) → reg.pending ≡ true → reg ≡ sweep u ms reg
    unfolding sweep
    idle reg e = rw e

    pub back : (reg : Register) → reg.pending ≡ false → leb (through_of u ms) reg.swept ≡ true → swept_to (through_of u ms) reg ≡ sweep u ms reg
    unfolding sweep
    back reg e t = rw (e, t)

    pub on : (reg : Register) → reg.pending ≡ false → leb (through_of u ms) reg.swept ≡ false
        → sweep_rings (max reg.swept (through_of u ms - ring_of u)) (through_of u ms) reg ≡ sweep u ms reg
    unfolding sweep
    on reg e t = rw (e, t)

    pub sweep_idle : (ws : List ℕ) (pending : Bool) → RegisterReads u (λ reg. reg.pending) ws pending → pending ≡ true → RegisterTurns u (sweep u ms) silent ws ws (tt {0})
    sweep_idle ws pending p t = record { does = λ reg ok is. (is ∙ ap (register_form u).enc (idle reg (sym (p.says reg ok is) ∙ t)), refl) }

    pub sweep_back : (ws last : List ℕ) (through : ℕ) (pending : Bool) → RegisterReads u (λ reg. reg.pending) ws pending → pending ≡ false → through ≡ through_of u ms
        → through ≤ get_or ws 6 0 → RegisterTurns u (swept_to through) silent ws last (tt {0}) → RegisterTurns u (sweep u ms) silent ws last (tt {0})
    sweep_back ws last through pending p n e h t = record {
      does = λ reg ok is.
          let s : get_or ws 6 0 ≡ reg.swept = ap (λ (l : List ℕ). get_or l 6 0) is in
          let k : leb (through_of u ms) reg.swept ≡ true = le-leb (through_of u ms) reg.swept (omega arith) in
          let z = rw e at (t.does reg ok is).0 in
          (z ∙ ap (register_form u).enc (back reg (sym (p.says reg ok is) ∙ n) k), refl);
    }

    -- swept up to that bucket already: the words publish it, and nothing changes
    pub sweep_same : (ws : List ℕ) (through : ℕ) (pending : Bool) → RegisterReads u (λ reg. reg.pending) ws pending → pending ≡ false → through ≡ through_of u ms
        → through ≡ get_or ws 6 0 → RegisterTurns u (sweep u ms) silent ws ws (tt {0})
    sweep_same ws through pending p n e h =
        sweep_back ws ws through pending p n e (omega arith) (record {
          does = λ reg ok is.
              let s : get_or ws 6 0 ≡ reg.swept = ap (λ (l : List ℕ). get_or l 6 0) is in
              (is ∙ ap (λ (b : ℕ). (register_form u).enc (swept_to b reg)) (sym (h ∙ s)), refl);
        })

    pub sweep_on : (ws last : List ℕ) (a through : ℕ) (pending : Bool) → RegisterReads u (λ reg. reg.pending) ws pending → pending ≡ false → through ≡ through_of u ms
        → get_or ws 6 0 < through → a ≡ max (get_or ws 6 0) (through - ring_of u)
        → RegisterTurns u (sweep_rings a through) silent ws last (tt {0}) → RegisterTurns u (sweep u ms) silent ws last (tt {0})
    sweep_on ws last a through pending p n e h k t = record {
      does = λ reg ok is.
          let s : get_or ws 6 0 ≡ reg.swept = ap (λ (l : List ℕ). get_or l 6 0) is in
          let b : leb (through_of u ms) reg.swept ≡ false = lt-leb (through_of u ms) reg.swept (omega arith) in
          let z = rw (k, s, e) at (t.does reg ok is).0 in
          (z ∙ ap (register_form u).enc (on reg (sym (p.says reg ok is) ∙ n) b), refl);
    }

    pub swept_words : (ws last : List ℕ) → RegisterTurns u (sweep u ms) silent ws last (tt {0}) → RegisterWords u ws → RegisterWords u last
    swept_words ws last t w =
        still_words u ws last (λ reg ok. to_form u (sweep u ms reg) (sweep_ok u ms reg (from_form u reg ok))) t w

-- One class expired within the whole run, and the three of them one after the other.
use Prim.Native.Nat.{ℕ, ◌+◌, ◌-◌, ◌<◌, ◌≤◌}
use native.Mathlib.Numerals.{add-one}
use native.Mathlib.Omega.{arith}
use mathlib.Core.Path.{◌≡◌, refl, ap, subst, ◌∙◌}
use mathlib.Core.List.{List, [], ◌∷◌}
use lib.ListN.{get_or, drop, drop_of_length-le}
use lib.Seq.{drop-cons}
use borrow.Rule.Slice.PartMut.{mid_of, put_mid}
use Rattle.runs.proofs.Turns.{then}
use Rattle.runs.specs.Turns.{silent}
use Rattle.model.specs.declared.Class.{Class}
use Rattle.model.specs.declared.Class.TheVariants.{Feeders}
use Rattle.model.specs.declared.Settings.{Settings}
use Rattle.model.specs.declared.Shares.{Shares}
use Rattle.model.specs.Numbers.{top32, cap32, ceil}
use Rattle.model.specs.Class.{classes, pick}
use Rattle.model.specs.Book.{Book, Held, expire_class, expire}
use Rattle.model.specs.BookWords.{class_form}
use Rattle.model.specs.Words.{State, state_form, class_width, class_start}
use Rattle.model.specs.Calls.{step, Expire, least_published}
use Rattle.model.proofs.Choice.{swap_cases}
use Rattle.model.proofs.Places.{expire_ok}
use Rattle.model.proofs.BookKept.{BookOk}
use Rattle.model.proofs.SoundnessKept.{book_in, with_book_ok}
use Rattle.book.specs.ClassRules.{ClassTurns}
use Rattle.taking.specs.Words.{RunWords, StateReads, StateTurns}
use Rattle.taking.proofs.InRun.{run_words, class_turns}
use Rattle.expiring.specs.Rules.{book_expired, class_expired}

-- ---- one class: the state stays well formed
book_expired_ok : (b : Shares) (c : Class) (t : ℕ) → t ≤ top32 → (k : Book) → BookOk b k → BookOk b (book_expired c t k)
book_expired_ok b c t low k ok =
    let h = expire_class t (pick c k.classes) in
    let new : (class_form b c).Ok h = expire_ok b c (pick c k.classes) (ok.classes c) t low in
    record {
      limits = ok.limits;
      classes = λ d. swap_cases (λ (x : Held). (class_form b d).Ok x) c d h k.classes (λ e. subst (λ (x : Class). (class_form b x).Ok h) e new) (ok.classes d);
    }

-- a second that is capped
pub second_low : (n t : ℕ) → t ≡ cap32 n → t ≤ top32
unfolding cap32
second_low n t capped = omega arith

module _ (s : Settings) where
  class_expired_ok : (c : Class) (t : ℕ) → t ≤ top32 → (x : State) → (state_form s).Ok x → (state_form s).Ok (class_expired c t x)
  unfolding class_expired
  class_expired_ok c t low x ok = with_book_ok s (book_expired c t x.book) x (book_expired_ok s.shares c t low x.book (book_in s x ok)) ok

  module _ (c : Class) (a e : ℕ) (start : a ≡ class_start s c) (end : e ≡ a + class_width s.shares) (ws last : List ℕ) where
    class_passes : (t : ℕ) → ClassTurns s.shares c (expire_class t) (λ h. tt {0}) (mid_of a (e - a) ws) last (tt {0})
        → StateTurns s (class_expired c t) silent ws (put_mid a (e - a) ws last) (tt {0})
    unfolding class_expired
    class_passes t turn = class_turns s c a e start end turn

    pub class_done : (t : ℕ) → t ≤ top32 → RunWords s ws → ClassTurns s.shares c (expire_class t) (λ h. tt {0}) (mid_of a (e - a) ws) last (tt {0})
        → RunWords s (put_mid a (e - a) ws last) × StateTurns s (class_expired c t) silent ws (put_mid a (e - a) ws last) (tt {0})
    class_done t low w turn =
        let x = w.is.value in
        let all = class_passes t turn in (
          run_words s ws (put_mid a (e - a) ws last) w (class_expired c t x) (class_expired_ok c t low x w.is.ok) (all.does x w.is.ok w.is.words).0,
          all,
        )

  -- ---- all of them, one after the other
  module _ (t : ℕ) (first : List ℕ) where
    unfoldable pub expired_each : List Class → State → State
    expired_each [] x = x
    expired_each (c ∷ cs) x = expired_each cs (class_expired c t x)

    -- those from an index on are left
    pub record Expiring (i : ℕ) (ws : List ℕ) : Type 0 where
      pub words : RunWords s ws
      pub left : (last : List ℕ) → StateTurns s (expired_each (drop i classes)) silent ws last (tt {0})
          → StateTurns s (expired_each classes) silent first last (tt {0})

    pub expiring_start : RunWords s first → Expiring 0 first
    expiring_start w = record { words = w; left = λ last turn. turn }

    pub expiring_on : t ≤ top32 → (i : ℕ) (ws next : List ℕ) → Expiring i ws → i < 3
        → RunWords s next × StateTurns s (class_expired (get_or classes i Feeders) t) silent ws next (tt {0}) → Expiring (i + 1) next
    unfolding expired_each
    expiring_on low i ws next at h done = record {
      words = done.0;
      left = λ last turn.
          let both = then (class_expired_ok (get_or classes i Feeders) t low) done.1 (rw add-one at turn) in
          at.left last (rw (drop-cons classes i Feeders h) both);
    }

    -- one after the other they are all at once
    all_are : (x : State) (ms least : ℕ) → t ≡ cap32 (ceil least 1_000) → least ≡ least_published s 0 x.registers ms
        → expired_each classes x ≡ (step s (Expire ms) x).state
    unfolding step expire class_expired expired_each
    all_are x ms least second is = ap (λ (m : ℕ). expired_each classes x) second ∙ rw (second, is) refl

    pub expiring_end : (i : ℕ) (ws : List ℕ) → Expiring i ws → 3 ≤ i → (ms least : ℕ) → t ≡ cap32 (ceil least 1_000)
        → StateReads s (λ x. least_published s 0 x.registers ms) first least → StateTurns s (λ x. (step s (Expire ms) x).state) silent first ws (tt {0})
    unfolding expired_each
    expiring_end i ws at h ms least second reads =
        let none : StateTurns s (expired_each (drop i classes)) silent ws ws (tt {0}) =
        rw (drop_of_length-le classes {i = i} h) (record { does = λ x ok is. (is, refl) }) in
        let all = at.left ws none in
        record { does = λ x ok is. ((all.does x ok is).0 ∙ ap (state_form s).enc (all_are x ms least second (reads.says x ok is)), refl) }

-- A restored draw, and one given back, said of a register and a book. Assumes nothing.
use Prim.Native.Nat.{ℕ, ◌+◌, ◌-◌, ◌<◌, ◌≤◌}
use mathlib.Core.Path.{◌≡◌, refl, ap, ◌∙◌}
use mathlib.Core.Bool.{Bool}
use mathlib.Core.List.{List}
use borrow.Rule.Slice.PartMut.{mid_of, put_mid}
use Rattle.runs.specs.Turns.{Reads, silent}
use Rattle.runs.proofs.Cases.{by_test}
use Rattle.model.specs.declared.Class.{Class}
use Rattle.model.specs.declared.Class.TheVariants.{Feeders, Peers, Own}
use Rattle.model.specs.declared.Deliverer.TheVariants.{Restored}
use Rattle.model.specs.declared.Draw.{Draw}
use Rattle.model.specs.declared.Settings.{Settings}
use Rattle.model.specs.Settings.{usable_at}
use Rattle.model.specs.Class.{Each, pick, swap, class_of}
use Rattle.model.specs.Numbers.{top32}
use Rattle.model.specs.Book.{Book, Held, granted, draw_test, draw_says, drawn, undrawn}
use Rattle.model.specs.Words.{state_form, FrontOk, encode_front, class_width, class_start}
use Rattle.model.proofs.Bounds.{fit_shares}
use Rattle.model.proofs.BookKept.{BookOk, pairs_some, second_short, drawn_ok, undrawn_ok}
use Rattle.model.proofs.SoundnessKept.{book_in, with_book_ok}
use Rattle.book.specs.declared.front.Terms.{Terms}
use Rattle.book.specs.FrontRules.{terms_of}
use Rattle.book.specs.ClassRules.{ClassIs, ClassTurns, drawn_class, returned}
use Rattle.taking.specs.Words.{RunWords}
use Rattle.taking.proofs.InRun.{class_asks, class_turns}
use Rattle.taking.proofs.Draws.{terms_say}
use Rattle.restoring.specs.declared.heads.Head.{Head}
use Rattle.restoring.specs.Rules.{Suits, may_draw, drawn_if}
use Rattle.restoring.specs.Words.{put, Acts}
use Rattle.restoring.proofs.Acting.{acts_words}

swap_own : {A : Type 0} (c : Class) (e : Each A) → swap c (pick c e) e ≡ e
swap_own Feeders e = refl
swap_own Peers e = refl
swap_own Own e = refl

module _ (s : Settings) (r : ℕ) (q : r < s.registers) (h : Head) (ws : List ℕ) (w : RunWords s ws) (a e : ℕ) (start : a ≡ class_start s h.class)
    (end : e ≡ a + class_width s.shares) where
  pub share_asks : ClassIs s.shares (class_of (Restored h.class)) (mid_of a (e - a) ws)
  unfolding class_of
  share_asks = class_asks s h.class a e start end ws w

  pub return_acts : (last : List ℕ) → ClassTurns s.shares (class_of (Restored h.class)) (returned (Restored h.class) h.second.0) (λ x. tt {0}) (mid_of a (e - a) ws) last (tt {0})
      → RunWords s (put_mid a (e - a) ws last) × Acts s r (λ reg k. reg) (λ reg k. undrawn (Restored h.class) h.second.0 k) (λ reg. silent) ws (put_mid a (e - a) ws last) (tt {0})
  unfolding class_of undrawn
  return_acts last t =
      let acts : Acts s r (λ reg k. reg) (λ reg k. undrawn (Restored h.class) h.second.0 k) (λ reg. silent) ws (put_mid a (e - a) ws last) (tt {0}) = record {
        does = λ x reg k n.
            let y = (class_turns s h.class a e start end t).does (put r reg k x) n.ok n.words in
            let b = undrawn_ok s.shares (Restored h.class) h.second.0 k (book_in s (put r reg k x) n.ok) in
            (record { there = n.there; ok = with_book_ok s (undrawn (Restored h.class) h.second.0 k) (put r reg k x) b n.ok; words = y.0 }, refl);
      } in
      (acts_words s r q ws (put_mid a (e - a) ws last) w acts, acts)

  module _ (terms : Terms) (front : Reads (encode_front s) FrontOk terms_of (mid_of 0 (20 - 0) ws) terms) where
    -- the class after the draw, in its book
    drawn_is : (k : Book) → terms ≡ record { limits = k.limits; closed = k.closed }
        → record {
          limits = k.limits;
          closed = k.closed;
          classes = swap h.class
              (drawn_class s.shares terms.limits terms.closed (Restored h.class) h.second.0 (pick h.class k.classes)) k.classes;
        }
        ≡ drawn_if s.shares h k
    unfolding class_of drawn_class drawn draw_says
    drawn_is k x =
        rw x
        (by_test (granted (draw_test s.shares k.limits k.closed (Restored h.class) h.second.0 (pick h.class k.classes).places))
        (λ z. rw z) (λ z. rw z (ap (λ (m : Each Held). record { limits = k.limits; closed = k.closed; classes = m }) (swap_own h.class k.classes))))

    drawn_fine : Suits s r h → (k : Book) → BookOk s.shares k → BookOk s.shares (drawn_if s.shares h k)
    drawn_fine u k ok =
        let short : h.second.0 ≤ top32 = rw u.second (second_short h.bucket.0 (usable_at s r).bucket) in
        by_test (may_draw s.shares h k)
        (λ z. rw z (drawn_ok s.shares (Restored h.class) h.second.0 k (pairs_some s.shares (fit_shares s w.fit)) short z ok)) (λ z. rw z ok)

    says_is : (k : Book) → terms ≡ record { limits = k.limits; closed = k.closed }
        → granted (draw_test s.shares terms.limits terms.closed (Restored h.class) h.second.0 (pick h.class k.classes).places) ≡ may_draw s.shares h k
    unfolding class_of draw_says
    says_is k x = rw x

    pub draw_acts : Suits s r h → (last : List ℕ) (d : Draw) (v : Bool)
        → ClassTurns s.shares (class_of (Restored h.class)) (drawn_class s.shares terms.limits terms.closed (Restored h.class) h.second.0)
        (λ x. draw_test s.shares terms.limits terms.closed (Restored h.class) h.second.0 x.places) (mid_of a (e - a) ws) last d → v ≡ granted d
        → RunWords s (put_mid a (e - a) ws last)
        × Acts s r (λ reg k. reg) (λ reg k. drawn_if s.shares h k) (λ reg k. may_draw s.shares h k) ws (put_mid a (e - a) ws last) v
    unfolding class_of
    draw_acts u last d v t g =
        let acts : Acts s r (λ reg k. reg) (λ reg k. drawn_if s.shares h k) (λ reg k. may_draw s.shares h k) ws (put_mid a (e - a) ws last) v = record {
          does = λ x reg k n.
              let y = (class_turns s h.class a e start end t).does (put r reg k x) n.ok n.words in
              let m = terms_say s ws w terms front (put r reg k x) n.ok n.words in
              let b = drawn_fine u k (book_in s (put r reg k x) n.ok) in (
                record {
                  there = n.there;
                  ok = with_book_ok s (drawn_if s.shares h k) (put r reg k x) b n.ok;
                  words = y.0 ∙ ap (λ (z : Book). (state_form s).enc (put r reg z x)) (drawn_is k m);
                },
                g ∙ ap granted y.1 ∙ says_is k m,
              );
        } in
        (acts_words s r q ws (put_mid a (e - a) ws last) w acts, acts)

-- A ticket's share in the whole run: looked up, and entered where it is granted. Assumes nothing.
use Prim.Native.Nat.{ℕ, ◌+◌, ◌-◌}
use mathlib.Core.Path.{◌≡◌, refl, sym, ap, ◌∙◌}
use mathlib.Core.Bool.{Bool, true, false, cond}
use mathlib.Core.List.{List}
use borrow.Rule.Slice.PartMut.{mid_of, put_mid}
use Rattle.std.proofs.Common.{Result, Ok, Err}
use Rattle.runs.specs.Turns.{Reads, silent}
use Rattle.runs.proofs.Turns.{part_reads}
use Rattle.model.specs.declared.Deliverer.{Deliverer}
use Rattle.model.specs.declared.Draw.{Draw}
use Rattle.model.specs.declared.Draw.TheVariants.{Granted as Had}
use Rattle.model.specs.declared.Limits.{Limits}
use Rattle.model.specs.declared.Settings.{Settings}
use Rattle.model.specs.declared.Shares.{Shares}
use Rattle.model.specs.Settings.{limits_fit}
use Rattle.model.specs.Class.{class_of}
use Rattle.model.specs.Book.{granted, draw_test, draw_says, drawn, places_of}
use Rattle.model.specs.Words.{State, FrontOk, encode_front, state_form, class_width, class_start}
use Rattle.model.proofs.Parts.{front_part}
use Rattle.model.proofs.Bounds.{fit_shares}
use Rattle.model.proofs.BookKept.{pairs_some, drawn_ok}
use Rattle.model.proofs.SoundnessKept.{book_in, with_book_ok}
use Rattle.book.specs.declared.Spot.{Spot}
use Rattle.book.specs.declared.front.Terms.{Terms}
use Rattle.book.specs.FrontRules.{terms_of}
use Rattle.book.specs.ClassRules.{ClassIs, ClassReads, ClassTurns, spot_of, Found, Roomy, entered}
use Rattle.book.proofs.Entering.{not_granted, found_of, roomy_of}
use Rattle.taking.specs.declared.tickets.Ticket.{Ticket}
use Rattle.taking.specs.Rules.{by_draw, share_in, share_for, draw_for, Granted, drawn_by}
use Rattle.taking.specs.Words.{StateReads, StateTurns, RunWords}
use Rattle.taking.proofs.InRun.{class_asks, class_reads, class_turns, class_known, run_words}

-- ---- a draw that is granted, and one that is not
pub was_granted : (x spot : Spot) (d : Draw) (b : Bool) → ◌≡◌ {A = Result Spot Draw} (Ok spot) (cond b (Ok x) (Err d)) → (b ≡ true) × (spot ≡ x)
was_granted x spot d true e = (refl, cc)
was_granted x spot d false e = absurd (cc)

pub was_refused : (x : Spot) (c d : Draw) (b : Bool) → ◌≡◌ {A = Result Spot Draw} (Err c) (cond b (Ok x) (Err d)) → (b ≡ false) × (c ≡ d)
was_refused x c d true e = absurd (cc)
was_refused x c d false e = (refl, cc)

-- ---- in a class's words
module _ (b : Shares) (who : Deliverer) (sec : ℕ) (ws : List ℕ) (spot : Spot) (f : ClassReads b (class_of who) (λ h. spot_of who sec h.places) ws spot) where
  pub draw_asks : ClassIs b (class_of who) ws → Found b who ws spot
  draw_asks w = found_of b who sec ws w spot f

  module _ (l : Limits) (closed : Bool) (d : Draw) (t : ClassReads b (class_of who) (λ h. draw_test b l closed who spot.second h.places) ws d) where
    share_reads : (v : Result Spot Draw) → v ≡ by_draw spot d → ClassReads b (class_of who) (λ h. share_in b l closed who sec h.places) ws v
    share_reads v e = record {
      says = λ h ok is.
          let x = f.says h ok is in
          let y : spot.second ≡ sec = ap (λ (z : Spot). z.second) x in
          let z : d ≡ draw_test b l closed who sec h.places = t.says h ok is ∙ ap (λ (n : ℕ). draw_test b l closed who n h.places) y in
          e ∙ ap (λ (p : Spot). by_draw p d) x ∙ ap (by_draw (spot_of who sec h.places)) z;
    }

    pub granted_reads : d ≡ Had → ClassReads b (class_of who) (λ h. share_in b l closed who sec h.places) ws (Ok spot)
    granted_reads e = share_reads (Ok spot) (rw e refl)

    pub refused_reads : (d ≡ Had → ⊥) → ClassReads b (class_of who) (λ h. share_in b l closed who sec h.places) ws (Err d)
    refused_reads n = share_reads (Err d) (rw (not_granted d n) refl)

-- ---- what the front says of draws
module _ (s : Settings) (ws : List ℕ) (w : RunWords s ws) (terms : Terms) (front : Reads (encode_front s) FrontOk terms_of (mid_of 0 (20 - 0) ws) terms) where
  pub terms_say : (t : State) → (state_form s).Ok t → ws ≡ (state_form s).enc t → terms ≡ record { limits = t.book.limits; closed = t.book.closed }
  terms_say t ok is = (part_reads (front_part s).lies 0 20 refl refl front).says t ok is

  pub limits_are_fit : limits_fit terms.limits ≡ true
  limits_are_fit = ap (λ (x : Terms). limits_fit x.limits) (terms_say w.is.value w.is.ok w.is.words) ∙ w.is.ok.0.limits

-- ---- in the run
module _ (s : Settings) (k : Ticket) (ws : List ℕ) (w : RunWords s ws) where
  module _ (terms : Terms) (front : Reads (encode_front s) FrontOk terms_of (mid_of 0 (20 - 0) ws) terms) where
    pub look_reads : (a e : ℕ) (start : a ≡ class_start s (class_of k.who)) (end : e ≡ a + class_width s.shares) (v : Result Spot Draw)
        → ClassReads s.shares (class_of k.who) (λ h. share_in s.shares terms.limits terms.closed k.who k.second.0 h.places) (mid_of a (e - a) ws) v
        → StateReads s (share_for s k) ws v
    look_reads a e start end v t = record {
      says = λ x ok is.
          (class_reads s (class_of k.who) a e start end t).says x ok is
          ∙ rw (terms_say s ws w terms front x ok is);
    }

  -- ---- entered
  module _ (spot : Spot) (g : Granted s k ws spot) where
    seen : (granted (draw_for s k w.is.value) ≡ true) × (spot ≡ spot_of k.who k.second.0 (places_of (class_of k.who) w.is.value.book))
    seen = was_granted _ _ _ (granted (draw_for s k w.is.value)) (g.says w.is.value w.is.ok w.is.words)

    spot_seen : spot ≡ spot_of k.who k.second.0 (places_of (class_of k.who) w.is.value.book)
    spot_seen = seen.1

    may : true ≡ granted (draw_says s.shares k.who k.second.0 w.is.value.book)
    unfolding draw_says
    may = sym seen.0

    second_seen : spot.second ≡ k.second.0
    second_seen = ap (λ (z : Spot). z.second) spot_seen

    module _ (a e : ℕ) (start : a ≡ class_start s (class_of k.who)) (end : e ≡ a + class_width s.shares) where
      pub enter_asks : Roomy s.shares k.who (mid_of a (e - a) ws) spot
      unfolding draw_says
      enter_asks =
          let x = w.is.value.book in
          let c = class_of k.who in
          let d = draw_test s.shares x.limits x.closed k.who k.second.0 (places_of c x) in
          roomy_of s.shares k.who k.second.0 (mid_of a (e - a) ws) (class_asks s c a e start end ws w) spot
          (class_known s c a e start end (λ h. spot_of k.who k.second.0 h.places) ws spot w spot_seen)
          x.limits x.closed d
          (class_known s c a e start end (λ h. draw_test s.shares x.limits x.closed k.who spot.second h.places) ws d w
          (ap (λ (n : ℕ). draw_test s.shares x.limits x.closed k.who n (places_of c x)) (sym second_seen)))
          (sym may)

      pub enter_turns : (last : List ℕ) → ClassTurns s.shares (class_of k.who) (entered s.shares k.who spot.second) (λ h. tt {0}) (mid_of a (e - a) ws) last (tt {0})
          → StateTurns s (drawn_by s k) silent ws (put_mid a (e - a) ws last) (tt {0})
      unfolding drawn
      enter_turns last t = class_turns s (class_of k.who) a e start end (rw second_seen at t)

    pub drawn_fine : (state_form s).Ok (drawn_by s k w.is.value)
    drawn_fine =
        let x = w.is.value in
        let b = drawn_ok s.shares k.who k.second.0 x.book (pairs_some s.shares (fit_shares s w.fit)) k.short (sym may) (book_in s x w.is.ok) in
        with_book_ok s (drawn s.shares k.who k.second.0 x.book) x b w.is.ok

    pub enter_words : (last : List ℕ) → StateTurns s (drawn_by s k) silent ws last (tt {0}) → RunWords s last
    enter_words last t = run_words s ws last w (drawn_by s k w.is.value) drawn_fine (t.does w.is.value w.is.ok w.is.words).0

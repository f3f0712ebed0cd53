-- The whole list was tried after the sweep that was seen: what is left is the stamp that the rules give. Assumes nothing.
use Prim.Native.Nat.{ℕ, ◌+◌, ◌<◌, ◌≤◌}
use native.Mathlib.Numerals.{add-one}
use mathlib.Core.Path.{◌≡◌, refl, sym, ◌∙◌, ap}
use mathlib.Core.Bool.{Bool}
use mathlib.Core.List.{List, [], ◌∷◌, ◌++◌}
use lib.ListN.{get_or, drop, drop_of_length-le}
use lib.Seq.{drop-cons}
use Rattle.std.specs.Prelude.{Option, None}
use Rattle.model.specs.declared.Class.{Class}
use Rattle.model.specs.declared.Class.TheVariants.{Feeders, Peers, Own}
use Rattle.model.specs.declared.Usable.{Usable}
use Rattle.model.specs.Codes.{same_verdict}
use Rattle.model.specs.Register.{Register, sweep}
use Rattle.model.specs.Judge.{Ask, window_for}
use Rattle.model.specs.Reason.{rules, first_rule, reason, batch_verdict}
use Rattle.model.specs.Stamp.{batch_at, edge_stamps, window_stamps, ring_stamps, stamps, better, least_from, stamp_for}
use Rattle.model.specs.Words.{State, state_form}
use Rattle.model.specs.Calls.{register_at}
use Rattle.model.proofs.Reasons.{batch_says}
use Rattle.register.specs.declared.peeking.Seen.{Seen}
use Rattle.register.specs.Rules.{asked_by}
use Rattle.register.specs.Seen.{left_by}
use Rattle.model.specs.Class.{classes}
use Rattle.register.proofs.Foreseen.{left_is}
use Rattle.taking.specs.Words.{StateReads}
use Rattle.taking.specs.Reasons.{seen_at, reason_seen}
use Rattle.seeking.specs.declared.quest.Quest.{Quest}
use Rattle.seeking.specs.Seeking.{usable_for, asked_at, verdict_seen, gives, least_seen, edges_seen, ring_seen, sought_by}
use Rattle.seeking.proofs.Unswept.{swept_stamps}

-- a list after another
least_append : (meets : ℕ → Bool) (xs ys : List ℕ) (best : Option ℕ) → least_from meets (xs ++ ys) best ≡ least_from meets ys (least_from meets xs best)
unfolding least_from
least_append meets [] ys best = refl
least_append meets (x ∷ xs) ys best = least_append meets xs ys (better meets x best)

module _ (q : Quest) (t : State) where
  abbrev u : Usable
  u = usable_for q

  abbrev reg : Register
  reg = register_at q.on.r t

  abbrev a : Ask
  a = asked_by q.ask

  abbrev after : Register
  after = sweep u a.ms reg

  -- what was seen is what the sweep would do
  module _ (seen : q.seen ≡ seen_at q.on.s q.on.r a.ms t) where
    left : left_by q.seen reg ≡ after
    unfolding seen_at
    left = ap (λ (x : Seen). left_by x reg) seen ∙ left_is u a.ms reg

    same_floor : q.seen.floor ≡ after.floor
    unfolding left_by
    same_floor = ap (λ (x : Register). x.floor) left

    -- so the verdict is that of `take_batch`
    same_at : (x : ℕ) → verdict_seen q x t ≡ batch_at u q.on.s.shares reg t.book a x
    unfolding verdict_seen batch_at reason_seen reason
    same_at x =
        ap (λ (y : Register). batch_verdict u (asked_at q x) (first_rule (rules u q.on.s.shares y t.book (asked_at q x)))) left
        ∙ sym (batch_says u q.on.s.shares reg t.book (asked_at q x))

    same_gives : gives q t ≡ (λ x. same_verdict q.wanted (batch_at u q.on.s.shares reg t.book a x))
    same_gives = λ i x. same_verdict q.wanted (same_at x i)

    -- and the stamps are those of the register after the sweep
    all_tried : least_from (gives q t) (ring_stamps u reg.rings.of_own)
        (least_from (gives q t) (ring_stamps u reg.rings.of_peers)
        (least_from (gives q t) (ring_stamps u reg.rings.of_feeders)
        (least_from (gives q t) (window_stamps u a.ms) (least_from (gives q t) (edge_stamps (window_for u a.who) a.ms q.seen.floor) None))))
        ≡ sought_by q.on.s q.on.r a q.wanted t
    unfolding sought_by stamp_for stamps
    all_tried =
        let own = swept_stamps u a.ms reg Own in
        let peers = swept_stamps u a.ms reg Peers in
        let feeders = swept_stamps u a.ms reg Feeders in
        rw (← same_gives, least_append, least_append, least_append, least_append, own, peers, feeders, same_floor) refl

-- ---- the rings of the classes, one after the other
unfoldable pub rings_seen : Quest → List Class → Option ℕ → State → Option ℕ
rings_seen q [] best t = best
rings_seen q (c ∷ cs) best t = rings_seen q cs (ring_seen q c best t) t

module _ (q : Quest) (ws : List ℕ) (first : Option ℕ) where
  -- those from an index on are left
  pub record Ringing (i : ℕ) (best : Option ℕ) : Type 0 where
    pub left : (t : State) → (state_form q.on.s).Ok t → ws ≡ (state_form q.on.s).enc t → rings_seen q (drop i classes) best t ≡ rings_seen q classes first t

  pub ringing_start : Ringing 0 first
  ringing_start = record { left = λ t ok is. refl }

  module _ (i : ℕ) (best : Option ℕ) (at : Ringing i best) where
    pub ringing_on : i < 3 → (next : Option ℕ) → StateReads q.on.s (ring_seen q (get_or classes i Feeders) best) ws next → Ringing (i + 1) next
    unfolding rings_seen
    ringing_on h next reads = record {
      left = λ t ok is. rw (add-one, reads.says t ok is) (rw (drop-cons classes i Feeders h) at (at.left t ok is));
    }

    pub ringing_end : 3 ≤ i → StateReads q.on.s (rings_seen q classes first) ws best
    unfolding rings_seen
    ringing_end h = record { says = λ t ok is. rw (drop_of_length-le classes {i = i} h) at (at.left t ok is) }

-- ---- every part of the list, one after the other
pub sought_told : (q : Quest) (ws : List ℕ) (edges window all : Option ℕ) → StateReads q.on.s (seen_at q.on.s q.on.r q.ask.now.0) ws q.seen
    → StateReads q.on.s (edges_seen q) ws edges → StateReads q.on.s (least_seen q (window_stamps (usable_for q) q.ask.now.0) edges) ws window
    → StateReads q.on.s (rings_seen q classes window) ws all → StateReads q.on.s (sought_by q.on.s q.on.r (asked_by q.ask) q.wanted) ws all
unfolding edges_seen least_seen ring_seen rings_seen
sought_told q ws edges window all at e w rings = record {
  says = λ t ok is. rings.says t ok is ∙ rw (w.says t ok is, e.says t ok is) (all_tried q t (at.says t ok is));
}

-- The least stamp of the list, found one stamp at a time. Each law is said of every state that the words may be, as the contracts are. Assumes
-- nothing.
use Prim.Native.Nat.{ℕ, suc, ◌+◌, ◌-◌, ◌^◌, ◌≤◌, ◌<◌, min}
use native.Mathlib.Omega.{arith}
use native.Mathlib.Numerals.{add-one}
use mathlib.Core.Path.{◌≡◌, refl, sym, ◌∙◌, ap}
use mathlib.Core.Bool.{Bool, true, false}
use mathlib.Core.List.{List, [], ◌∷◌}
use lib.ListN.{length, get_or, drop, drop_of_length-le}
use lib.Seq.{drop-cons}
use borrow.Author.Tests.{eq-eqb, ne_eqb}
use borrow.Rule.Slice.PartMut.{mid_of}
use Rattle.std.specs.Prelude.{Option, Some, None}
use Rattle.runs.proofs.Turns.{reads_as}
use Rattle.model.specs.declared.Class.{Class}
use Rattle.model.specs.declared.Reason.{Reason}
use Rattle.model.specs.declared.Verdict.{Verdict}
use Rattle.model.specs.declared.Window.{Window}
use Rattle.model.specs.declared.Usable.{Usable}
use Rattle.model.specs.Numbers.{cap64}
use Rattle.model.specs.Settings.{ring_of, usable_at}
use Rattle.model.specs.Class.{pick}
use Rattle.model.specs.Codes.{verdict_number, reason_verdict}
use Rattle.model.specs.Generation.{empty}
use Rattle.model.specs.Register.{through_of}
use Rattle.model.specs.Judge.{window_for, front_past, ahead_for}
use Rattle.model.specs.Reason.{batch_verdict}
use Rattle.model.specs.Stamp.{first_stamp, floor_stamps, edge_stamps, bucket_stamps, window_stamps, ring_stamps, below, better, least_from}
use Rattle.model.specs.Words.{State, state_form}
use Rattle.model.specs.Calls.{register_at}
use Rattle.model.proofs.SoundnessKept.{register_in}
use Rattle.model.proofs.ToldApart.{verdicts_apart}
use Rattle.numbers.specs.RegisterAt.{RegisterAt}
use Rattle.ring.specs.Ring.{bucket_in}
use Rattle.register.specs.Words.{RegisterReads}
use Rattle.taking.proofs.InRun.{register_reads}
use Rattle.taking.specs.Words.{StateReads}
use Rattle.taking.specs.Reasons.{reason_seen}
use Rattle.seeking.specs.declared.quest.Quest.{Quest}
use Rattle.seeking.specs.Seeking.{usable_for, asked_at, verdict_seen, gives, better_seen, least_seen, edges_seen, around_bucket, bucket_seen, ring_seen}

-- ---- the verdict at a stamp
pub verdict_told : (q : Quest) (x : ℕ) (ws : List ℕ) (why : Reason) (w : Window) (past : Bool) (v last : Verdict) → RegisterAt q.on.s q.on.r q.on.extent
    → StateReads q.on.s (reason_seen q.on.s q.on.r q.seen (asked_at q x)) ws why → w ≡ window_for q.on.extent.u q.ask.who
    → past ≡ front_past w x q.ask.now.0 → v ≡ reason_verdict why → last ≡ ahead_for past v → StateReads q.on.s (verdict_seen q x) ws last
unfolding verdict_seen batch_verdict
verdict_told q x ws why w past v last at t window front named turned =
    reads_as t (λ state ok is e. turned ∙ rw (front, window, at.usable, named, e))

-- ---- a stamp more
module _ (q : Quest) (x : ℕ) (best : Option ℕ) (ws : List ℕ) (low : Bool) (is_low : low ≡ below x best) where
  pub better_past : low ≡ false → StateReads q.on.s (better_seen q x best) ws best
  unfolding better_seen better
  better_past e = record { says = λ state ok is. rw (← is_low, e) refl }

  module _ (v : Verdict) (lower : low ≡ true) (t : StateReads q.on.s (verdict_seen q x) ws v) where
    pub better_found : q.wanted ≡ v → StateReads q.on.s (better_seen q x best) ws (Some x)
    unfolding better_seen better
    better_found e =
        reads_as t (λ state ok is says.
        let m : gives q state x ≡ true = eq-eqb _ _ (ap verdict_number (e ∙ says)) in
        rw (← is_low, lower, m) refl)

    pub better_not : (q.wanted ≡ v → ⊥) → StateReads q.on.s (better_seen q x best) ws best
    unfolding better_seen better
    better_not e =
        reads_as t (λ state ok is says.
        let m : gives q state x ≡ false = ne_eqb _ _ (λ f. e (verdicts_apart _ _ f ∙ sym says)) in
        rw (← is_low, lower, m) refl)

-- ---- the floor
pub floor_none : (q : Quest) (best : Option ℕ) (ws : List ℕ) → q.seen.floor ≡ None
    → StateReads q.on.s (least_seen q (floor_stamps q.seen.floor) best) ws best
unfolding least_seen least_from floor_stamps
floor_none q best ws e = record { says = λ state ok is. rw e refl }

pub floor_some : (q : Quest) (best last : Option ℕ) (ws : List ℕ) (x f : ℕ) → q.seen.floor ≡ Some f → x ≡ min (f + 1) (2 ^ 64 - 1)
    → StateReads q.on.s (better_seen q x best) ws last → StateReads q.on.s (least_seen q (floor_stamps q.seen.floor) best) ws last
unfolding least_seen least_from floor_stamps better_seen cap64
floor_some q best last ws x f e i t = reads_as t (λ state ok is says. says ∙ rw (e, i) refl)

-- ---- the four edges
front_capped : (ms ahead : ℕ) → min (min (ms + ahead) (2 ^ 64 - 1) + 1) (2 ^ 64 - 1) ≡ cap64 (ms + ahead + 1)
unfolding cap64
front_capped ms ahead = omega arith

pub edges_told : (q : Quest) (ws : List ℕ) (w : Window) (x front y : ℕ) (edges last : Option ℕ) → RegisterAt q.on.s q.on.r q.on.extent
    → w ≡ window_for q.on.extent.u q.ask.who → x ≡ q.ask.now.0 - w.behind → front ≡ min (q.ask.now.0 + w.ahead) (2 ^ 64 - 1)
    → y ≡ min (front + 1) (2 ^ 64 - 1)
    → StateReads q.on.s (least_seen q (0 ∷ x ∷ y ∷ []) None) ws edges → StateReads q.on.s (least_seen q (floor_stamps q.seen.floor) edges) ws last
    → StateReads q.on.s (edges_seen q) ws last
unfolding edges_seen edge_stamps least_seen least_from
edges_told q ws w x front y edges last at window i j k a b = record {
  says = λ state ok is.
      let ms = q.ask.now.0 in
      let e = b.says state ok is in
      let f = a.says state ok is in
      let here : w ≡ window_for (usable_for q) q.ask.who = window ∙ ap (λ (u : Usable). window_for u q.ask.who) at.usable in
      e ∙ rw (f, k, j, i, here, front_capped ms (window_for (usable_for q) q.ask.who).ahead) refl;
}

-- ---- a list: the loop has tried k of its stamps
pub record Listed (q : Quest) (ws xs : List ℕ) (first : Option ℕ) (k : ℕ) (best : Option ℕ) : Type 0 where
  pub left : (state : State) → (state_form q.on.s).Ok state → ws ≡ (state_form q.on.s).enc state
      → least_from (gives q state) (drop k xs) best ≡ least_from (gives q state) xs first

module _ (q : Quest) (ws xs : List ℕ) (first : Option ℕ) where
  pub list_start : Listed q ws xs first 0 first
  list_start = record { left = λ state ok is. refl }

  pub list_on : (k : ℕ) (best next : Option ℕ) → Listed q ws xs first k best → k < length xs → StateReads q.on.s (better_seen q (get_or xs k 0) best) ws next
      → Listed q ws xs first (k + 1) next
  unfolding least_from better_seen
  list_on k best next l h t = record {
    left = λ state ok is.
        let e = rw (drop-cons xs k 0 h) at (l.left state ok is) in
        rw (add-one, t.says state ok is) e;
  }

  pub list_end : (k : ℕ) (best : Option ℕ) → Listed q ws xs first k best → length xs ≤ k → StateReads q.on.s (least_seen q xs first) ws best
  unfolding least_seen least_from
  list_end k best l h = record { says = λ state ok is. rw (drop_of_length-le xs {i = k} h) at (l.left state ok is) }

-- ---- the buckets of a window: the loop has tried k of them
pub record Windowed (q : Quest) (ws : List ℕ) (through n : ℕ) (first : Option ℕ) (k : ℕ) (best : Option ℕ) : Type 0 where
  pub within : k ≤ n
  pub left : (state : State) → (state_form q.on.s).Ok state → ws ≡ (state_form q.on.s).enc state
      → least_from (gives q state) (bucket_stamps (usable_for q) (through + k) (n - k)) best ≡ least_from (gives q state) (bucket_stamps (usable_for q) through n) first

module _ (q : Quest) (ws : List ℕ) (through n : ℕ) (first : Option ℕ) where
  pub window_start : Windowed q ws through n first 0 first
  window_start =
      let a : through + 0 ≡ through = omega arith in
      let b : n - 0 ≡ n = omega arith in
      record { within = omega arith; left = λ state ok is. rw (a, b) refl }

  module _ (k : ℕ) (best : Option ℕ) (l : Windowed q ws through n first k best) where
    pub window_on : k < n → (x : ℕ) (next : Option ℕ) → RegisterAt q.on.s q.on.r q.on.extent → x ≡ first_stamp q.on.extent.u (through + k)
        → StateReads q.on.s (better_seen q x best) ws next → Windowed q ws through n first (k + 1) next
    unfolding bucket_stamps least_from better_seen
    window_on h x next at i t =
        let one : n - k ≡ suc (n - suc k) = omega arith in
        let two : through + suc k ≡ suc (through + k) = omega arith in
        let here : x ≡ first_stamp (usable_for q) (through + k) = i ∙ ap (λ (u : Usable). first_stamp u (through + k)) at.usable in
        record {
          within = omega arith;
          left = λ state ok is. rw (add-one, two, t.says state ok is, here) (rw one at (l.left state ok is));
        }

    pub window_end : n ≤ k → RegisterAt q.on.s q.on.r q.on.extent → through ≡ through_of q.on.extent.u q.ask.now.0 → n ≡ ring_of q.on.extent.u
        → StateReads q.on.s (least_seen q (window_stamps (usable_for q) q.ask.now.0) first) ws best
    unfolding window_stamps bucket_stamps least_seen least_from
    window_end h at e m = record {
      says = λ state ok is.
          let z : n - k ≡ 0 = omega arith in
          let from : through ≡ through_of (usable_for q) q.ask.now.0 = e ∙ ap (λ (u : Usable). through_of u q.ask.now.0) at.usable in
          let all : n ≡ ring_of (usable_for q) = m ∙ ap ring_of at.usable in
          rw z at (l.left state ok is) ∙ rw (from, all) refl;
    }

-- ---- a bucket and the one after it
pub around_told : (q : Quest) (ws : List ℕ) (b x y : ℕ) (best last : Option ℕ) → RegisterAt q.on.s q.on.r q.on.extent → x ≡ first_stamp q.on.extent.u (b + 0)
    → y ≡ first_stamp q.on.extent.u (b + 1) → StateReads q.on.s (least_seen q (x ∷ y ∷ []) best) ws last
    → StateReads q.on.s (least_seen q (around_bucket (usable_for q) b) best) ws last
unfolding least_seen
around_told q ws b x y best last at i j t = record {
  says = λ state ok is.
      let z : b + 0 ≡ b = omega arith in
      let first : x ≡ first_stamp (usable_for q) (b + 0) = i ∙ ap (λ (u : Usable). first_stamp u (b + 0)) at.usable in
      let after : y ≡ first_stamp (usable_for q) (b + 1) = j ∙ ap (λ (u : Usable). first_stamp u (b + 1)) at.usable in
      t.says state ok is ∙ rw (first, after, z) refl;
}

-- ---- the bucket at a position
pub here_below : (q : Quest) (i : ℕ) → i < ring_of (usable_at q.on.s q.on.r) → RegisterAt q.on.s q.on.r q.on.extent → i < ring_of q.on.extent.u
here_below q i h at = rw at.usable h

pub bucket_told : (q : Quest) (c : Class) (i : ℕ) (ws : List ℕ) (b : ℕ) → RegisterAt q.on.s q.on.r q.on.extent
    → RegisterReads q.on.extent.u (λ reg. bucket_in i (pick c reg.rings)) (mid_of q.on.extent.start (q.on.extent.end - q.on.extent.start) ws) b
    → StateReads q.on.s (bucket_seen q c i) ws b
unfolding bucket_seen
bucket_told q c i ws b at t = register_reads q.on.s q.on.r at.below q.on.extent at t

-- ---- a ring: the loop has tried i of its positions
pub ring_below : (q : Quest) (n i : ℕ) → i < n → n ≡ ring_of q.on.extent.u → RegisterAt q.on.s q.on.r q.on.extent → i < ring_of (usable_at q.on.s q.on.r)
ring_below q n i h e at = let m : n ≡ ring_of (usable_at q.on.s q.on.r) = e ∙ ap ring_of at.usable in omega arith

pub record Ringed (q : Quest) (c : Class) (ws : List ℕ) (n : ℕ) (first : Option ℕ) (i : ℕ) (best : Option ℕ) : Type 0 where
  pub within : i ≤ n
  pub left : (state : State) → (state_form q.on.s).Ok state → ws ≡ (state_form q.on.s).enc state
      → least_from (gives q state) (ring_stamps (usable_for q) (drop i (pick c (register_at q.on.r state).rings))) best
      ≡ least_from (gives q state) (ring_stamps (usable_for q) (pick c (register_at q.on.r state).rings)) first

module _ (q : Quest) (c : Class) (ws : List ℕ) (n : ℕ) (first : Option ℕ) where
  pub ring_start : Ringed q c ws n first 0 first
  ring_start = record { within = omega arith; left = λ state ok is. refl }

  -- the ring has so many positions
  long : (state : State) → (state_form q.on.s).Ok state → RegisterAt q.on.s q.on.r q.on.extent → n ≡ ring_of q.on.extent.u
      → length (pick c (register_at q.on.r state).rings) ≡ n
  long state ok at e = ((register_in q.on.s q.on.r state at.below ok).rings c).long ∙ sym (e ∙ ap ring_of at.usable)

  module _ (i : ℕ) (best : Option ℕ) (l : Ringed q c ws n first i best) (at : RegisterAt q.on.s q.on.r q.on.extent) (is-ring : n ≡ ring_of q.on.extent.u) where
    pub ring_on : i < n → (b : ℕ) (next : Option ℕ) → StateReads q.on.s (bucket_seen q c i) ws b
        → StateReads q.on.s (least_seen q (around_bucket (usable_for q) b) best) ws next → Ringed q c ws n first (i + 1) next
    unfolding ring_stamps least_from least_seen bucket_seen
    ring_on h b next s t = record {
      within = omega arith;
      left = λ state ok is.
          let ring = pick c (register_at q.on.r state).rings in
          let m = long state ok at is-ring in
          let e = rw (drop-cons ring i empty (omega arith)) at (l.left state ok is) in
          rw (add-one, t.says state ok is, s.says state ok is) e;
    }

    pub ring_end : n ≤ i → StateReads q.on.s (ring_seen q c first) ws best
    unfolding ring_seen ring_stamps least_from
    ring_end h = record {
      says = λ state ok is.
          let ring = pick c (register_at q.on.r state).rings in
          let m = long state ok at is-ring in
          rw (drop_of_length-le ring {i = i} (omega arith)) at (l.left state ok is);
    }

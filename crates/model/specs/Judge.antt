-- "Judge and take", first paragraph: buckets, windows, judge, take and their batch forms.
use Rattle.std.specs.Prelude.{ℕ, ◌+◌, ◌%◌, Bool, cond, not, ◌&&◌, ◌||◌, leb, ltb, eqb, length, if◌then◌else◌}
use Rattle.model.specs.declared.Deliverer.{Deliverer}
use Rattle.model.specs.declared.Deliverer.TheVariants.{Feeder, Peer, Relay, Restored}
use Rattle.model.specs.declared.Verdict.{Verdict}
use Rattle.model.specs.declared.Verdict.TheVariants.{New, Duplicate, Late, Ahead, Full, Unjudged}
use Rattle.model.specs.declared.Room.{Room}
use Rattle.model.specs.declared.Room.TheVariants.{At, Collides, Full as NoSlots}
use Rattle.model.specs.declared.Window.{Window}
use Rattle.model.specs.declared.Usable.{Usable}
use Rattle.model.specs.declared.Shares.{Shares}
use Rattle.model.specs.Numbers.{ceil, cap64, under}
use Rattle.model.specs.Settings.{retained}
use Rattle.model.specs.Class.{class_of, pick}
use Rattle.model.specs.Generation.{Generation, held, among, as_read, slots_for}
use Rattle.model.specs.Book.{Book, second_of, granted, draw_says, drawn}
use Rattle.model.specs.Register.{Ring, Register, generation_at, holds, any_class, strike, sweep}

-- a ticket, who delivers it, and the reading with its judging flag
pub record Ask : Type 0 where
  pub fp : ℕ
  pub stamp : ℕ
  pub ms : ℕ
  pub judging : Bool
  pub who : Deliverer

-- "Bucket of a stamp: ceil((stamp + retained, capped) / bucket)."
unfoldable pub bucket_of : Usable → ℕ → ℕ
bucket_of u stamp = ceil (cap64 (stamp + retained u)) u.bucket

-- ---- windows: "Feeders use `origin`, all others `copy`."
unfoldable pub window_for : Usable → Deliverer → Window
window_for u (Feeder id) = u.origin
window_for u (Peer id) = u.copy
window_for u Relay = u.copy
window_for u (Restored c) = u.copy

-- "A window holds if stamp + behind ≥ reading and stamp ≤ reading + ahead, uncapped"
unfoldable pub in_window : Window → ℕ → ℕ → Bool
in_window w stamp ms = leb ms (stamp + w.behind) && leb stamp (ms + w.ahead)

-- "the front is past if stamp > reading + ahead"
unfoldable pub front_past : Window → ℕ → ℕ → Bool
front_past w stamp ms = ltb (ms + w.ahead) stamp

-- ---- judge
-- "Unjudged (pending, or flag off; nothing altered)"
unfoldable pub unjudged : Register → Ask → Bool
unjudged reg a = reg.pending || not a.judging

-- "Duplicate if any class holds the fingerprint in that bucket; else Late if stamp ≤ floor or the deliverer's window fails; else New"
unfoldable pub verdict : Usable → Register → Ask → Verdict
verdict u reg a =
    if any_class (holds (bucket_of u a.stamp) (as_read a.fp)) reg.rings then Duplicate
    else if under a.stamp reg.floor || not (in_window (window_for u a.who) a.stamp a.ms) then Late
    else New

-- a verdict and the register after it
pub record Judgement : Type 0 where
  pub says : Verdict
  pub register : Register

-- "Judge sweeps, then .."
unfoldable pub judge : Usable → Register → Ask → Judgement
judge u reg a =
    let after = sweep u a.ms reg in
    if unjudged reg a then record { says = Unjudged; register = reg } else record { says = verdict u after a; register = after }

-- "`judge_batch` turns Late into Ahead if the stamp is past the window's front"
unfoldable pub ahead_for : Bool → Verdict → Verdict
ahead_for past New = New
ahead_for past Duplicate = Duplicate
ahead_for past Late = cond past Ahead Late
ahead_for past Ahead = Ahead
ahead_for past Full = Full
ahead_for past Unjudged = Unjudged

unfoldable pub judge_batch : Usable → Register → Ask → Judgement
judge_batch u reg a =
    let j = judge u reg a in
    record { says = ahead_for (front_past (window_for u a.who) a.stamp a.ms) j.says; register = j.register }

-- ---- the room for a fingerprint
-- "If another bucket's held generation has its position .. Late; if the generation would need more than S slots, likewise Full"
unfoldable pub collides : ℕ → Generation → Bool
collides b g = not (eqb g.bucket b) && not (eqb (held g) 0)

unfoldable pub make_room : ℕ → ℕ → ℕ → Ring → Room
make_room most b fp ring =
    let g = generation_at ring b in
    if collides b g then Collides
    else if leb (slots_for (among fp g.slots) g.slots) most then At (b % length ring)
    else NoSlots

-- ---- take
pub record Taken : Type 0 where
  pub says : Verdict
  pub register : Register
  pub book : Book

-- with a share to be had: drawn and inserted; or "it gives the share back" and the book is as it was
unfoldable pub take_room : Usable → Shares → Ask → Register → Book → Room → Taken
take_room u b a reg book (At i) = record {
  says = New;
  register = strike (class_of a.who) (bucket_of u a.stamp) (as_read a.fp) a.stamp reg;
  book = drawn b a.who (second_of (bucket_of u a.stamp) u.bucket) book;
}
take_room u b a reg book Collides = record { says = Late; register = reg; book = book }
take_room u b a reg book NoSlots = record { says = Full; register = reg; book = book }

-- judged New: "`take` then draws a share (Full if none)"
unfoldable pub take_share : Usable → Shares → Ask → Register → Book → Taken
take_share u b a reg book =
    let room = make_room u.slots (bucket_of u a.stamp) (as_read a.fp) (pick (class_of a.who) reg.rings) in
    if granted (draw_says b a.who (second_of (bucket_of u a.stamp) u.bucket) book) then take_room u b a reg book room
    else record { says = Full; register = reg; book = book }

unfoldable pub take_judged : Usable → Shares → Ask → Book → Register → Verdict → Taken
take_judged u b a book reg New = take_share u b a reg book
take_judged u b a book reg Duplicate = record { says = Duplicate; register = reg; book = book }
take_judged u b a book reg Late = record { says = Late; register = reg; book = book }
take_judged u b a book reg Ahead = record { says = Ahead; register = reg; book = book }
take_judged u b a book reg Full = record { says = Full; register = reg; book = book }
take_judged u b a book reg Unjudged = record { says = Unjudged; register = reg; book = book }

unfoldable pub take : Usable → Shares → Register → Book → Ask → Taken
take u b reg book a = let j = judge u reg a in take_judged u b a book j.register j.says

-- "`take_batch` answers as `judge_batch` unless that is New, and then as `take`"
unfoldable pub take_batch : Usable → Shares → Register → Book → Ask → Taken
take_batch u b reg book a = let j = judge_batch u reg a in take_judged u b a book j.register j.says

-- the rules of this file, for a theorem that computes
unfoldable pub compute_judge : ℕ
unfolding bucket_of window_for in_window front_past unjudged verdict judge ahead_for judge_batch collides make_room take_room take_share take_judged take take_batch
compute_judge = 0

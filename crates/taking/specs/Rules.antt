-- The model's rules of a take, as the functions of this crate name them.
use Rattle.std.specs.Prelude.{ℕ, ◌≤◌, ◌≡◌, Bool, cond, List, Result, Ok, Err}
use Rattle.model.specs.declared.Deliverer.{Deliverer}
use Rattle.model.specs.declared.Draw.{Draw}
use Rattle.model.specs.declared.Limits.{Limits}
use Rattle.model.specs.declared.Manner.{Manner}
use Rattle.model.specs.declared.Manner.TheVariants.{Judged, JudgedBatch, Taken as TakenManner, TakenBatch}
use Rattle.model.specs.declared.Room.{Room}
use Rattle.model.specs.declared.Room.TheVariants.{At, Collides, Full as NoSlots}
use Rattle.model.specs.declared.Settings.{Settings}
use Rattle.model.specs.declared.Shares.{Shares}
use Rattle.model.specs.declared.Usable.{Usable}
use Rattle.model.specs.declared.Verdict.{Verdict}
use Rattle.model.specs.declared.Verdict.TheVariants.{New, Late, Full}
use Rattle.model.specs.Numbers.{top32}
use Rattle.model.specs.Settings.{usable_at}
use Rattle.model.specs.Class.{class_of, pick}
use Rattle.model.specs.Generation.{as_read}
use Rattle.model.specs.Book.{Place, second_of, granted, draw_test, drawn, places_of}
use Rattle.model.specs.Register.{Register, strike}
use Rattle.model.specs.Judge.{Ask, bucket_of, Judgement, judge, judge_batch, make_room, Taken, take_judged}
use Rattle.model.specs.Words.{State}
use Rattle.model.specs.Calls.{register_at, with_register, with_book}
use Rattle.book.specs.declared.Spot.{Spot}
use Rattle.book.specs.ClassRules.{spot_of}
use Rattle.taking.specs.declared.tickets.Ticket.{Ticket}
use Rattle.taking.specs.Words.{StateReads}

-- ---- a ticket
-- a ticket as it follows from a question
pub record Suits (u : Usable) (a : Ask) (k : Ticket) : Type 0 where
  pub who : k.who ≡ a.who
  pub fp : k.fp.word ≡ as_read a.fp
  pub stamp : k.stamp ≡ a.stamp
  pub bucket : k.bucket.0 ≡ bucket_of u a.stamp
  pub second : k.second.0 ≡ second_of (bucket_of u a.stamp) u.bucket

-- ---- its share: where it may be entered, or the rule that stands against it
abbrev pub by_draw : Spot → Draw → Result Spot Draw
by_draw spot d = cond (granted d) (Ok spot) (Err d)

abbrev pub share_in : Shares → Limits → Bool → Deliverer → ℕ → List Place → Result Spot Draw
share_in b l closed who s ps = by_draw (spot_of who s ps) (draw_test b l closed who s ps)

abbrev pub share_for : Settings → Ticket → State → Result Spot Draw
share_for s k t =
    share_in s.shares t.book.limits t.book.closed k.who k.second.0 (places_of (class_of k.who) t.book)

-- what the book says to the draw
abbrev pub draw_for : Settings → Ticket → State → Draw
draw_for s k t = draw_test s.shares t.book.limits t.book.closed k.who k.second.0 (places_of (class_of k.who) t.book)

-- looked up in these words, and granted
abbrev pub Granted : Settings → Ticket → List ℕ → Spot → Type 0
Granted s k ws spot = StateReads s (share_for s k) ws (Ok spot)

abbrev pub drawn_by : Settings → Ticket → State → State
drawn_by s k t = with_book (drawn s.shares k.who k.second.0 t.book) t

-- ---- its room
abbrev pub room_for : Settings → ℕ → Ticket → State → Room
room_for s r k t = make_room (usable_at s r).slots k.bucket.0 k.fp.word (pick (class_of k.who) (register_at r t).rings)

abbrev pub struck_by : ℕ → Ticket → State → State
struck_by r k t = with_register r (strike (class_of k.who) k.bucket.0 k.fp.word k.stamp (register_at r t)) t

abbrev pub room_verdict : Room → Verdict
room_verdict (At i) = New
room_verdict Collides = Late
room_verdict NoSlots = Full

-- ---- judged, and taken
-- judge's rule for a ticket that is asked about in this manner: a take judges first
unfoldable pub judged_by : Usable → Manner → Ask → Register → Judgement
judged_by u Judged a reg = judge u reg a
judged_by u JudgedBatch a reg = judge_batch u reg a
judged_by u TakenManner a reg = judge u reg a
judged_by u TakenBatch a reg = judge_batch u reg a

abbrev pub judged_state : Settings → ℕ → Manner → Ask → State → State
judged_state s r m a t = with_register r (judged_by (usable_at s r) m a (register_at r t)).register t

abbrev pub judged_says : Settings → ℕ → Manner → Ask → State → Verdict
judged_says s r m a t = (judged_by (usable_at s r) m a (register_at r t)).says

-- with a share to be had: by the room that there is
unfoldable pub room_state : Settings → ℕ → Ticket → State → Room → State
room_state s r k t (At i) = struck_by r k (drawn_by s k t)
room_state s r k t Collides = t
room_state s r k t NoSlots = t

abbrev pub taken_room : Settings → ℕ → Ticket → State → State
taken_room s r k t = room_state s r k t (room_for s r k t)

abbrev pub room_says : Settings → ℕ → Ticket → State → Verdict
room_says s r k t = room_verdict (room_for s r k t)

-- by its share
abbrev pub taken_share : Settings → ℕ → Ticket → State → State
taken_share s r k t = cond (granted (draw_for s k t)) (taken_room s r k t) t

abbrev pub share_says : Settings → ℕ → Ticket → State → Verdict
share_says s r k t = cond (granted (draw_for s k t)) (room_says s r k t) Full

-- what a take of the model leaves of a state
abbrev pub left : ℕ → Taken → State → State
left r k t = with_book k.book (with_register r k.register t)

-- a register as judge left it, with the verdict
abbrev pub rest_of : Settings → ℕ → Ask → Verdict → State → Taken
rest_of s r a v t = take_judged (usable_at s r) s.shares a t.book (register_at r t) v

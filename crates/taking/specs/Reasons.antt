-- The rules behind a take's verdict, as the functions of this crate name them.
use Rattle.std.specs.Prelude.{ℕ, cond}
use Rattle.model.specs.declared.Draw.{Draw}
use Rattle.model.specs.declared.Draw.TheVariants as Draws
use Rattle.model.specs.declared.Reason.{Reason}
use Rattle.model.specs.declared.Reason.TheVariants.{Accepted, Closed, OwnShare, ClassLimit, EqualPart, TwiceLimit, Places, Pairs, Position, Slots}
use Rattle.model.specs.declared.Room.{Room}
use Rattle.model.specs.declared.Room.TheVariants.{At, Collides, Full as NoSlots}
use Rattle.model.specs.declared.Settings.{Settings}
use Rattle.model.specs.Settings.{usable_at}
use Rattle.model.specs.Class.{class_of}
use Rattle.model.specs.Book.{granted}
use Rattle.model.specs.Judge.{Ask}
use Rattle.model.specs.Codes.{draw_reason, room_reason}
use Rattle.model.specs.Reason.{rules, first_rule, reason}
use Rattle.model.specs.Words.{State}
use Rattle.model.specs.Calls.{register_at}
use Rattle.register.specs.declared.peeking.Seen.{Seen}
use Rattle.register.specs.Seen.{Sees, seen_by, left_by, judge_rule, room_left}
use Rattle.taking.specs.declared.tickets.Ticket.{Ticket}
use Rattle.taking.specs.Rules.{draw_for}

-- ---- what was seen of a register
abbrev pub SeenAt : Settings → ℕ → Seen → Type 0
SeenAt s r seen = Sees (usable_at s r) seen

unfoldable pub seen_at : Settings → ℕ → ℕ → State → Seen
seen_at s r ms t = seen_by (usable_at s r) ms (register_at r t)

-- ---- the rules of judge, of the share and of the room, on the register that the sweep would leave
unfoldable pub judge_reason : Settings → ℕ → Seen → Ask → State → Reason
judge_reason s r seen a t = judge_rule (usable_at s r) seen a (register_at r t)

unfoldable pub room_seen : Settings → ℕ → Seen → Ticket → State → Room
room_seen s r seen k t = room_left (usable_at s r) seen (class_of k.who) k.bucket.0 k.fp.word (register_at r t)

unfoldable pub share_reason : Settings → ℕ → Seen → Ticket → State → Reason
share_reason s r seen k t =
    cond (granted (draw_for s k t)) (room_reason (room_seen s r seen k t)) (draw_reason (draw_for s k t))

-- ---- all rules, on the register that the sweep would leave; and after judge's sweep
unfoldable pub reason_seen : Settings → ℕ → Seen → Ask → State → Reason
reason_seen s r seen a t = first_rule (rules (usable_at s r) s.shares (left_by seen (register_at r t)) t.book a)

unfoldable pub reason_at : Settings → ℕ → Ask → State → Reason
reason_at s r a t = reason (usable_at s r) s.shares (register_at r t) t.book a

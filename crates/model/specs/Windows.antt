-- "Feeders use `origin`, all others `copy`." "A window holds if stamp + behind ≥ reading and stamp ≤ reading + ahead, uncapped."
-- For each kind of deliverer: a ticket that is New lies in its window, and one that lies in its window and above the floor is not Late.
use Rattle.std.specs.Prelude.{ℕ, ◌+◌, ◌≤◌, ◌≡◌, false}
use Rattle.model.specs.declared.Class.{Class}
use Rattle.model.specs.declared.Deliverer.{Deliverer}
use Rattle.model.specs.declared.Deliverer.TheVariants.{Feeder, Peer, Relay, Restored}
use Rattle.model.specs.declared.Verdict.TheVariants.{New, Late}
use Rattle.model.specs.declared.Window.{Window}
use Rattle.model.specs.declared.Usable.{Usable}
use Rattle.model.specs.Numbers.{under}
use Rattle.model.specs.Register.{Register}
use Rattle.model.specs.Judge.{Ask, verdict}

pub record Holds (w : Window) (stamp ms : ℕ) : Type 0 where
  pub not_behind : ms ≤ stamp + w.behind
  pub not_ahead : stamp ≤ ms + w.ahead

-- this deliverer's tickets are judged by this window, on any register
pub record JudgedBy (who : Deliverer) (u : Usable) (w : Window) : Type 0 where
  pub inside : (reg : Register) (a : Ask) → a.who ≡ who → verdict u reg a ≡ New → Holds w a.stamp a.ms
  pub outside : (reg : Register) (a : Ask) → a.who ≡ who → under a.stamp reg.floor ≡ false → verdict u reg a ≡ Late
      → Holds w a.stamp a.ms → ⊥

pub record Windows : Type 0 where
  pub feeder : (u : Usable) (id : ℕ) → JudgedBy (Feeder id) u u.origin
  pub peer : (u : Usable) (id : ℕ) → JudgedBy (Peer id) u u.copy
  pub relay : (u : Usable) → JudgedBy Relay u u.copy
  pub restored : (u : Usable) (c : Class) → JudgedBy (Restored c) u u.copy

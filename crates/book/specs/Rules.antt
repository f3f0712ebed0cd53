-- The rules of a draw on numbers that the words give at once, and a place's deliverer by its words.
use Rattle.std.specs.Prelude.{ℕ, ◌*◌, ◌/◌, Bool, not, ◌&&◌, ◌||◌, eqb, leb, ltb, if◌then◌else◌}
use Rattle.model.specs.declared.Deliverer.{Deliverer}
use Rattle.model.specs.declared.Deliverer.TheVariants.{Feeder, Peer, Relay, Restored}
use Rattle.model.specs.declared.Draw.{Draw}
use Rattle.model.specs.declared.Draw.TheVariants.{Granted, Closed, OwnShare, ClassLimit, EqualPart, TwiceLimit, Places, Pairs}
use Rattle.model.specs.declared.Limits.{Limits}
use Rattle.model.specs.Class.{class_of}
use Rattle.model.specs.Book.{together, below_share, fair}

-- is a place free, and a pair?
unfoldable pub room_by : ℕ → ℕ → ℕ → Bool → ℕ → ℕ → Draw
room_by held holders places hit used pairs =
    if not (not (eqb held 0) || ltb holders places) then Places else if not (hit || ltb used pairs) then Pairs else Granted

-- a draw that would leave its deliverer `own` units, among n holders, and the class u units
unfoldable pub decided : Limits → Bool → Deliverer → ℕ → ℕ → ℕ → ℕ → Draw → Draw
decided l closed who held own n u room =
    let t = together l (class_of who) in
    if closed then Closed
    else if not (below_share l who held) then OwnShare
    else if leb u t then room
    else if not (fair who) then ClassLimit
    else if ltb (t / n) own then EqualPart
    else if ltb (2 * t) u then TwiceLimit
    else room

-- a place's kind and number are those of a deliverer of its class: Relay and Restored have one place each
abbrev pub names_by : Deliverer → ℕ → ℕ → Bool
names_by (Feeder id) kind number = eqb kind 0 && eqb number id
names_by (Peer id) kind number = eqb kind 1 && eqb number id
names_by Relay kind number = eqb kind 2
names_by (Restored c) kind number = eqb kind 3

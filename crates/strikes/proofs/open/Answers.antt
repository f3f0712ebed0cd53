use Rattle.strikes.specs.Calls.{done}
use Rattle.strikes.proofs.Opening.{open_unfit, open_limits_unlisted, open_starts_unlisted, open_short, open_long, was_opened}
use Rattle.strikes.proofs.open.Goals as goal

pub returns-in_err-s : goal.returns-in_err-s
returns-in_err-s c = open_unfit _ _ _ _ done _ _ c.from_residual.ensures.1 c.in_err-s.ensures

pub returns-in_err-wanted : goal.returns-in_err-wanted
returns-in_err-wanted c = open_limits_unlisted _ _ _ _ done _ _ c.from_residual-in_err-wanted.ensures.1 c.in_err-wanted.ensures

pub returns-in_err-started : goal.returns-in_err-started
returns-in_err-started c = open_starts_unlisted _ _ _ _ done _ _ c.from_residual-in_err-started.ensures.1 c.in_ok-s.ensures.read c.in_err-started.ensures

pub returns-then-room-need : goal.returns-then-room-need
returns-then-room-need c = open_short _ _ _ _ c.in_ok-s.ensures c.in_ok-wanted.ensures c.in_ok-started.ensures c.if-room-need.true

pub open-requires : goal.open-requires
open-requires c =
    let limited = c.in_ok-wanted.ensures in
    let started = c.in_ok-started.ensures in
    let ready = c.in_ok-s.ensures in
    let long = c.if-room-need.false in
    (search, open_long _ _ _ _ ready limited started long)

pub returns : goal.returns
returns c = was_opened _ _ _ _ c.in_ok-s.ensures c.in_ok-wanted.ensures c.in_ok-started.ensures c.if-room-need.false search

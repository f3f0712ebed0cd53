use Rattle.taking.proofs.Draws.{draw_asks, granted_reads, refused_reads}
use Rattle.taking.proofs.shares.look.Goals as goal

pub draw-requires : goal.draw-requires
draw-requires c = (draw_asks c.args.b c.args.who c.args.second.0 c.args.part.now _ c.find-spot.ensures c.requires.0, c.requires.1)

pub returns-in-Granted : goal.returns-in-Granted
returns-in-Granted c =
    granted_reads c.args.b c.args.who c.args.second.0 c.args.part.now _ c.find-spot.ensures c.args.terms.limits c.args.terms.closed _ c.draw.ensures c.in-Granted.is

pub returns-in_default : goal.returns-in_default
returns-in_default c =
    refused_reads c.args.b c.args.who c.args.second.0 c.args.part.now _ c.find-spot.ensures c.args.terms.limits c.args.terms.closed _ c.draw.ensures
    c.in_default.not-Granted

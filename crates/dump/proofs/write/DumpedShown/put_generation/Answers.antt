-- A generation that holds nothing writes nothing; otherwise the three words that lead it, and then its fingerprints.
use Rattle.dump.proofs.Dumping.{part_none, lead_fits, prints_fit, part_puts}
use Rattle.dump.proofs.write.DumpedShown.put_generation.Goals as goal

pub returns-then-head-eq0-clause-puts : goal.returns-then-head-eq0-clause-puts
returns-then-head-eq0-clause-puts g c =
    part_none g.E.Element.encoded g.met.E.Element.encoded_long c.args.part.now _ c.of-head.ensures _ _ c.if-head-eq0.true

pub put_all-requires : goal.put_all-requires
put_all-requires g c =
    lead_fits g.E.Element.encoded g.met.E.Element.encoded_long c.args.part.now _ c.of-head.ensures _ c.if-head-eq0.false c.requires.fits

pub put_prints-requires : goal.put_prints-requires
put_prints-requires g c =
    prints_fit g.E.Element.encoded g.met.E.Element.encoded_long c.args.part.now _ c.of-head.ensures _ c.if-head-eq0.false c.requires.fits
    c.put_all.ensures.puts

pub returns-clause-puts : goal.returns-clause-puts
returns-clause-puts g c =
    part_puts g.E.Element.encoded g.met.E.Element.encoded_long c.args.part.now _ c.of-head.ensures _ c.if-head-eq0.false c.requires.fits
    c.put_all.ensures.puts c.put_prints.ensures.puts

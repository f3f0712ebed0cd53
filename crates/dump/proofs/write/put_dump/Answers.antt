-- The floor, and then the three classes.
use Rattle.std.proofs.Common.{rules}
use Rattle.model.specs.Widths.{generation_width}
use Rattle.dump.proofs.Dumping.{told, floor_fits, classes_fit, dump_puts}
use Rattle.dump.proofs.write.put_dump.Goals as goal

pub put-requires : goal.put-requires
put-requires c =
    floor_fits (generation_width c.args.rings.shape.slots) c.args.rings.shape.ring c.args.rings.words.now c.requires (told _ _ c.floor.ensures.value (search rules))

pub show-requires : goal.show-requires
show-requires c =
    classes_fit (generation_width c.args.rings.shape.slots) c.args.rings.shape.ring c.args.rings.words.now c.requires (told _ _ c.floor.ensures.value (search rules))
    c.put.ensures.puts

pub returns-clause-puts : goal.returns-clause-puts
returns-clause-puts c =
    dump_puts (generation_width c.args.rings.shape.slots) c.args.rings.shape.ring c.args.rings.words.now c.requires (told _ _ c.floor.ensures.value (search rules))
    c.put.ensures.puts c.show.ensures.puts

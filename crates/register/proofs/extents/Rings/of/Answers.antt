use mathlib.Core.Path.{refl}
use Rattle.numbers.proofs.Placing.{ring_few}
use Rattle.register.proofs.extents.Rings.of.Goals as goal

pub invariant_of-result : goal.invariant_of-result
invariant_of-result c =
    let u = c.args.u in
    let s = c.of-shape.ensures in
    rw (c.words.ensures, s.slots, s.ring) (record {
      sizes = record { slots = refl; ring = refl; width = refl; few_words = ring_few u c.requires };
    })

use Rattle.register.proofs.Sweeps.{class_turns, class_words}
use Rattle.register.proofs.InRings.{ring_asks, ring_turns}
use Rattle.register.proofs.rings.sweep_class.Goals as goal

pub sweep-went-requires : goal.sweep-went-requires
sweep-went-requires c = search ring_asks

pub returns : goal.returns
returns c =
    let u = c.args.rings.u in
    let b = c.args.buckets in
    let t = class_turns u c.args.class b.from.0 b.through.0 _ _ _ _ (ring_turns _ _ _ _ _ _ c.words.ensures c.sweep-went.ensures.ring_turns) (c.raise_by.ensures.register_turns u) in
    (class_words u c.args.class b.from.0 b.through.0 _ _ t c.requires, t)

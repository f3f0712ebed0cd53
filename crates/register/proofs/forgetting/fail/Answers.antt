use Rattle.register.proofs.Forgets.{fails}
use Rattle.register.proofs.InRings.{ring_asks}
use Rattle.register.proofs.forgetting.fail.Goals as goal

pub drop_bucket-went-requires : goal.drop_bucket-went-requires
drop_bucket-went-requires c = let l = rw c.of-rings.ensures at c.words.ensures in search ring_asks

pub returns : goal.returns
returns c =
    let l = rw c.of-rings.ensures at c.words.ensures in
    fails c.args.u c.args.class c.args.bucket.0 c.args.newest _ _ _ _ l _ _ _ _ _ c.requires
    c.drop_bucket-went.ensures.ring_turns c.raise_by.ensures.register_turns c.raise_floor.ensures.register_turns

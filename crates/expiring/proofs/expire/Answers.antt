use Rattle.expiring.proofs.Passing.{second_low, expiring_start, expiring_on, expiring_end}
use Rattle.expiring.proofs.expire.Goals as goal

pub loop-class-init : goal.loop-class-init
loop-class-init c = expiring_start c.args.s _ _ c.requires

pub expire_class-requires : goal.expire_class-requires
expire_class-requires c = (c.loop-class.invariant.words, second_low _ _ c.from-t.ensures)

pub loop-class-preserved : goal.loop-class-preserved
loop-class-preserved c =
    expiring_on c.args.s _ _ (second_low _ _ c.from-t.ensures) _ _ _ c.loop-class.invariant c.loop-class-test.true c.expire_class.ensures

pub returns : goal.returns
returns c = expiring_end c.args.s _ _ _ _ c.loop-class.invariant c.loop-class-test.false _ _ c.from-t.ensures c.least_published-least.ensures

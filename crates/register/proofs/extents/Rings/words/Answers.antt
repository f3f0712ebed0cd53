use native.Mathlib.Omega.{arith}
use mathlib.Core.Path.{refl}
use Rattle.numbers.proofs.Placing.{product_few}
use Rattle.register.proofs.InRings.{placed}
use Rattle.model.specs.Most.{ring_most}
use Rattle.register.proofs.extents.Rings.words.Goals as goal

pub overflow_mul-start : goal.overflow_mul-start
overflow_mul-start c = let k = product_few c.args.class _ _ ring_most c.from-number.ensures c.args.self.sizes.few_words in omega arith

pub overflow_add-start : goal.overflow_add-start
overflow_add-start c = let k = product_few c.args.class _ _ ring_most c.from-number.ensures c.args.self.sizes.few_words in omega arith

pub overflow_add-result : goal.overflow_add-result
overflow_add-result c = let k = product_few c.args.class _ _ ring_most c.from-number.ensures c.args.self.sizes.few_words in omega arith

pub returns : goal.returns
returns c = placed _ _ _ _ _ _ _ c.args.self.sizes c.from-number.ensures refl

use native.Mathlib.Omega.{arith}
use Rattle.grammar.proofs.Trees.{tests}
use Rattle.tree.proofs.Tree.row_from.Goals as goal

pub overflow_mul-result : goal.overflow_mul-result
overflow_mul-result c = omega (arith, (tests _ c.args.self.tested).head.inside, c.requires, c.ranges.self.0)

pub overflow_add-result : goal.overflow_add-result
overflow_add-result c = omega (arith, (tests _ c.args.self.tested).head.inside, c.requires, c.ranges.self.0)

pub returns : goal.returns
returns c = omega (arith, (tests _ c.args.self.tested).head.inside, c.requires)

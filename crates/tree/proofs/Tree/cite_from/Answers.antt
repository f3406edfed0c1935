use native.Mathlib.Omega.{arith}
use Rattle.grammar.proofs.Trees.{tests}
use Rattle.tree.proofs.Tree.cite_from.Goals as goal

pub overflow_mul-result-2 : goal.overflow_mul-result-2
overflow_mul-result-2 c = omega (arith, (tests _ c.args.self.tested).head.inside, c.requires, c.ranges.self.0)

pub overflow_add-result-2 : goal.overflow_add-result-2
overflow_add-result-2 c = omega (arith, (tests _ c.args.self.tested).head.inside, c.requires, c.ranges.self.0, c.node_count.ensures.0)

pub returns : goal.returns
returns c = omega (arith, (tests _ c.args.self.tested).head.inside, c.requires, c.node_count.ensures.0)

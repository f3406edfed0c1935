use native.Mathlib.Omega.{arith}
use Rattle.grammar.proofs.Trees.{tests}
use Rattle.tree.proofs.Tree.node_count.Goals as goal

pub get16-requires : goal.get16-requires
get16-requires c = let k = (tests _ c.args.self.tested).head in omega (arith, k.long)

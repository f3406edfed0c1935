use native.Mathlib.Omega.{arith}
use Rattle.grammar.proofs.Trees.{tests}
use Rattle.tree.proofs.Tree.cite_count.Goals as goal

pub get16-requires : goal.get16-requires
get16-requires c = let k = (tests _ c.args.self.tested).head in omega (arith, k.long)

pub returns : goal.returns
returns c = let k = (tests _ c.args.self.tested).head in (c.get16.ensures.0, omega (arith, k.few, c.get16.ensures.0))

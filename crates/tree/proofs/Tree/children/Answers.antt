use native.Mathlib.Omega.{arith}
use Rattle.grammar.proofs.Sizes.{few-nodes}
use Rattle.tree.proofs.Walks.{root, children_next}
use Rattle.tree.proofs.Tree.children.Goals as goal

pub overflow_add-result : goal.overflow_add-result
overflow_add-result c = let r = root _ c.args.self.tested in omega (arith, c.requires.0, r.size, few-nodes _ r.fits)

pub invariant_of-result : goal.invariant_of-result
invariant_of-result c =
    let b = c.requires in
    record { within = omega (arith, b.0); counted = children_next _ c.args.self.tested _ b.0 b.1 c.number_at.ensures.0 }

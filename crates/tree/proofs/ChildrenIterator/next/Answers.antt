use Prim.Native.Nat.{ℕ, ◌+◌, ◌-◌, ◌≤◌, ◌<◌}
use mathlib.Core.Path.{◌≡◌}
use native.Mathlib.Omega.{arith}
use Rattle.grammar.specs.Rows.{many, span, firsts}
use Rattle.grammar.specs.Bytes.{nodes, forest_at, tree_at}
use Rattle.grammar.proofs.Sizes.{few-nodes}
use Rattle.tree.specs.declared.Children.{Children}
use Rattle.tree.proofs.Walks.{root, row_next}
use Rattle.tree.proofs.ChildrenIterator.next.Goals as goal

rest : (c : Children) → (c.left ≡ 0 → ⊥) → {size : ℕ} → size ≡ span (tree_at c.tree.bytes.now c.row)
    → record { row : c.row < nodes c.tree.bytes.now; within : c.row + size ≤ nodes c.tree.bytes.now; counted : many (firsts (c.left - 1) (forest_at c.tree.bytes.now (c.row + size))) ≡ c.left - 1 }
rest c some e = let n = row_next c.tree.bytes.now c.tree.tested c.left c.row c.within c.counted (omega (arith, some)) in record { row = n.0; within = rw e n.1; counted = rw e n.2 }

pub size_at-requires : goal.size_at-requires
size_at-requires c = let s = c.args.self.now in (row_next _ s.tree.tested s.left s.row s.within s.counted (omega (arith, c.if-self-eq0.false))).0

pub overflow_add-self : goal.overflow_add-self
overflow_add-self c = let s = c.args.self.now in let r = root _ s.tree.tested in omega (arith, (rest s c.if-self-eq0.false c.size_at.ensures.0).within, r.size, few-nodes _ r.fits)

pub invariant_of-self : goal.invariant_of-self
invariant_of-self c = let n = rest c.args.self.now c.if-self-eq0.false c.size_at.ensures.0 in record { within = n.within; counted = n.counted }

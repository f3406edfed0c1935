use Rattle.std.proofs.Common.{◌≡◌}
use Rattle.presence.proofs.Walks.{Mixing}
use Rattle.presence.proofs.Evaluation.mixed.Given as goal

abbrev pub invariant-loop-child : goal.invariant-loop-child
invariant-loop-child l = (l.child-iterator.tree.bytes.now ≡ l.self.tree.bytes.now) × Mixing l.self.tree.bytes.now l.row l.child-iterator.left l.child-iterator.row l.gate l.free

use Rattle.std.proofs.Common.{◌≡◌}
use Rattle.presence.proofs.Walks.{Marking}
use Rattle.presence.proofs.mark_row.Given as goal

abbrev pub invariant-loop-child : goal.invariant-loop-child
invariant-loop-child l = (l.child-iterator.tree.bytes.now ≡ l.tree.bytes.now) × Marking l.tree.bytes.now l.row l.child-iterator.left l.child-iterator.row l.mark

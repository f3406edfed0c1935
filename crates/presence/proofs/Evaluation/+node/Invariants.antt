use Rattle.std.proofs.Common.{◌≡◌}
use Rattle.grammar.specs.Rows.{span}
use Rattle.grammar.specs.Bytes.{tree_at}
use Rattle.presence.proofs.Walks.{Evaluating}
use Rattle.presence.proofs.Evaluation.+node.Given as goal

abbrev pub decreases-node : goal.decreases-node
decreases-node l = span (tree_at l.self.now.tree.bytes.now l.row)

abbrev pub invariant-loop-at : goal.invariant-loop-at
invariant-loop-at l = (l.at-iterator.tree.bytes.now ≡ l.self.tree.bytes.now) × Evaluating l.self.tree.bytes.now l.self.answers.now l.kind l.row l.at-iterator.left l.at-iterator.row l.tally

use Rattle.std.proofs.Common.{◌≡◌}
use Rattle.grammar.specs.Rows.{span}
use Rattle.grammar.specs.Bytes.{tree_at}
use Rattle.verdicts.specs.Judged.{counts_in}
use Rattle.verdicts.proofs.Laws as laws
use Rattle.verdicts.proofs.+judge_node.Given as goal

abbrev pub decreases-judge_node : goal.decreases-judge_node
decreases-judge_node l = span (tree_at l.tree.bytes.now l.row)

abbrev pub invariant-loop-child : goal.invariant-loop-child
invariant-loop-child l =
    (l.child-iterator.tree.bytes.now ≡ l.tree.bytes.now)
    × laws.State (counts_in l.truths) l.tree.bytes.now l.row l.child-iterator.left l.child-iterator.row l.tally l.from l.initial.list l.list l.at

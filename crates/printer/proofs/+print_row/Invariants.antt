use Rattle.std.proofs.Common.{◌≡◌}
use Rattle.grammar.specs.Rows.{span}
use Rattle.grammar.specs.Bytes.{tree_at}
use Rattle.printer.proofs.Walks as walks
use Rattle.printer.proofs.+print_row.Given as goal

abbrev pub decreases-print_row : goal.decreases-print_row
decreases-print_row l = span (tree_at l.tree.bytes.now l.row)

abbrev pub invariant-loop-child : goal.invariant-loop-child
invariant-loop-child l =
    (l.child-iterator.tree.bytes.now ≡ l.tree.bytes.now) × walks.State l.tree.bytes.now l.row l.at l.initial.out l.out l.kind l.first l.child-iterator.left l.child-iterator.row l.w

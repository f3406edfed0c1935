use Rattle.presence.specs.Marks.{Marked}
use Rattle.presence.proofs.mark_rows.Given as goal

abbrev pub invariant-loop-row : goal.invariant-loop-row
invariant-loop-row l = Marked l.tree.bytes.now l.row l.marks

use Prim.Native.Nat.{◌≤◌}
use Rattle.packages.proofs.Laws.{Counted}
use Rattle.packages.proofs.count_rows.Given as goal

abbrev pub invariant-loop-n : goal.invariant-loop-n
invariant-loop-n l = (l.rows ≤ l.n) × Counted l.tree.bytes.now l.n l.rows

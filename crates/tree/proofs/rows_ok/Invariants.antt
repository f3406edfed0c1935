use Prim.Native.Nat.{◌+◌, ◌-◌, ◌*◌, ◌≤◌}
use mathlib.Core.Path.{◌≡◌}
use Rattle.grammar.specs.Bytes.{head_size, row_size, rows_from, rows_ok}
use Rattle.tree.proofs.rows_ok.Given as goal

abbrev pub invariant-loop-i : goal.invariant-loop-i
invariant-loop-i l = (l.before ≤ l.i) × (rows_ok l.before l.c (rows_from l.tree (l.n - l.i) (head_size + row_size * l.i)) ≡ rows_ok 0 l.c (rows_from l.tree l.n head_size))

use Prim.Native.Nat.{◌+◌, ◌-◌, ◌*◌, ◌≤◌}
use mathlib.Core.Path.{◌≡◌}
use lib.ListN.{length}
use Rattle.grammar.specs.Bytes.{row_size, rows_from, tiles}
use Rattle.tree.proofs.tiles_at.Given as goal

abbrev pub invariant-loop : goal.invariant-loop
invariant-loop l =
    (l.size ≤ l.z) × (l.p + row_size * (l.left - l.z + l.size) ≤ length l.tree) × (tiles (l.m - l.counter) l.size (rows_from l.tree (l.left - l.z + l.size) l.p) ≡ tiles l.m l.z (rows_from l.tree l.left l.at))

use Prim.Native.Nat.{◌+◌, ◌*◌}
use mathlib.Core.Path.{◌≡◌}
use lib.ListN.{take}
use Rattle.std.specs.Prelude.{map}
use Rattle.fields.specs.Appended.{Appended}
use Rattle.grammar.specs.Bytes.{row_bytes}
use Rattle.writer.proofs.put_rows.Given as goal

abbrev pub invariant-loop-row : goal.invariant-loop-row
invariant-loop-row g l = record {
  ends : l.w ≡ l.at + 6 * l.row-index;
  written : Appended (row_bytes (map g.R.TreeRow.stands_for (take l.row-index l.rows))) l.at l.initial.out l.out l.w;
}

use native.Mathlib.Omega.{arith}
use Rattle.fields.proofs.Appends as appends
use mathlib.Core.Path.{sym}
use Rattle.writer.proofs.Rows.{rows_none, rows_next, ends-row}
use Rattle.writer.proofs.put_rows.Goals as goal

pub loop-row-init : goal.loop-row-init
loop-row-init g c = record { ends = omega arith; written = appends.same (sym (rows_none g.R.TreeRow.stands_for c.args.rows.now)) (appends.nothing _ _) }

pub loop-row-preserved : goal.loop-row-preserved
loop-row-preserved g c =
    let l = c.loop-row in record {
      ends = omega (arith, l.invariant.ends, ends-row _ c.put_row-w.ensures);
      written = appends.same (rows_next g.R.TreeRow.stands_for c.args.rows.now l.row-index c.row-item.result (omega arith)) (appends.both l.invariant.written (rw c.row-item.is at c.put_row-w.ensures));
    }

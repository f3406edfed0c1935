use native.Mathlib.Omega.{arith}
use Rattle.packages.proofs.Laws.{count_next, count_end}
use Rattle.packages.proofs.count_rows.Goals as goal

pub loop-n-preserved : goal.loop-n-preserved
loop-n-preserved c = (omega (arith, c.rows_at-rows.ensures.1), count_next _ _ _ _ (omega (arith, c.cite_count-n-end.ensures.0)) c.loop-n.invariant.1 c.rows_at-rows.ensures.0)

pub returns : goal.returns
returns c = (count_end _ _ _ (omega (arith, c.cite_count-n-end.ensures.0)) c.loop-n.invariant.1, omega (arith, c.cite_count-n-end.ensures.1))

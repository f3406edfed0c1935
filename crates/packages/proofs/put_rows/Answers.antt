use native.Mathlib.Omega.{arith}
use Rattle.packages.proofs.Laws.{going_room, going_next, going_end}
use Rattle.packages.proofs.put_rows.Goals as goal

pub put_at-w-requires : goal.put_at-w-requires
put_at-w-requires c = let b = c.requires in let l = c.cite_count-n-end.ensures in (omega (arith, l.0), omega (arith, l.1), going_room c.loop-n.invariant (omega (arith, l.0)) b)

pub loop-n-preserved : goal.loop-n-preserved
loop-n-preserved c = going_next c.loop-n.invariant (omega (arith, c.cite_count-n-end.ensures.0)) c.put_at-w.ensures c.put_at-w.auto.out

pub returns : goal.returns
returns c = going_end c.loop-n.invariant (omega (arith, c.cite_count-n-end.ensures.0))

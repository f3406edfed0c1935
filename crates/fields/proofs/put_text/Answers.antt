use native.Mathlib.Omega.{arith}
use Rattle.fields.proofs.Appends.{text_next, text_done}
use Rattle.fields.proofs.put_text.Goals as goal

pub loop-i-preserved : goal.loop-i-preserved
loop-i-preserved c = text_next _ _ _ _ _ c.loop-i-test.true (omega (arith, c.requires, c.loop-i.auto.out, c.loop-i-test.true)) c.loop-i.invariant

pub returns : goal.returns
returns c = text_done _ _ _ _ c.loop-i.i (omega (arith, c.loop-i-test.false, c.loop-i.auto.i-end)) c.loop-i.invariant

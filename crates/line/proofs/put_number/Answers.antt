use native.Mathlib.Omega.{arith}
use Rattle.line.proofs.Texts.{one_figure, two_figures, three_figures}
use Rattle.line.proofs.put_number.Goals as goal

pub returns-then-n-lt10 : goal.returns-then-n-lt10
returns-then-n-lt10 c = one_figure _ _ c.digit.ensures (omega arith) c.put_byte.ensures

pub returns-then-n-lt100 : goal.returns-then-n-lt100
returns-then-n-lt100 c = two_figures _ _ _ c.digit-then-n-lt100.ensures c.digit-then-n-lt100-2.ensures (omega arith) (omega arith) c.put_byte-tens.ensures c.put_byte-then-n-lt100.ensures

pub returns : goal.returns
returns c = three_figures _ _ _ _ c.digit-2.ensures c.digit-3.ensures c.digit-4.ensures (omega arith) c.put_byte-hundreds.ensures c.put_byte-tens-2.ensures c.put_byte-2.ensures

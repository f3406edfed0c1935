use native.Mathlib.Omega.{arith}
use mathlib.Core.Path.{refl}
use Rattle.writer.specs.Unpacked.{row_of}
use Rattle.writer.proofs.Rows.{kind_small}
use Rattle.writer.proofs.RowTreeRow.numbers.Goals as goal

pub overflow_cast-result : goal.overflow_cast-result
overflow_cast-result c = omega (arith, c.from.ensures, kind_small c.args.self.kind)

pub returns : goal.returns
unfolding row_of
returns c = rw c.from.ensures refl

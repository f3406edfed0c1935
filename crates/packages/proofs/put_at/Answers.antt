use native.Mathlib.Omega.{arith}
use Rattle.fields.proofs.Appends.{same, nothing}
use Rattle.packages.proofs.Laws.{one_row, one_length, no_row}
use Rattle.packages.proofs.put_at.Goals as goal

pub put_row-requires : goal.put_row-requires
put_row-requires c = let h = rw c.in-Ok.is at c.paket_at.ensures in let b = c.requires in (omega (arith, one_length _ _ _ h, b.2), b.1)

pub returns-in-Ok : goal.returns-in-Ok
returns-in-Ok c = let h = rw c.in-Ok.is at c.paket_at.ensures in same (one_row _ _ _ h) c.put_row.ensures

pub returns-in-Err : goal.returns-in-Err
returns-in-Err c = let h = rw c.in-Err.is at c.paket_at.ensures in same (no_row _ h) (nothing _ _)

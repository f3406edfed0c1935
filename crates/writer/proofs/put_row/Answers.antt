use native.Mathlib.Omega.{arith}
use Rattle.fields.proofs.Appends as appends
use mathlib.Core.Path.{sym}
use Rattle.writer.proofs.Rows.{row-bytes}
use Rattle.writer.proofs.put_row.Goals as goal

pub put16-b-requires : goal.put16-b-requires
put16-b-requires g c = (omega (arith, c.requires, appends.ends_two _ c.put16-a.ensures), omega arith)

pub put16-requires : goal.put16-requires
put16-requires g c = (omega (arith, c.requires, appends.ends_two _ c.put16-a.ensures, appends.ends_two _ c.put16-b.ensures), omega arith)

pub returns : goal.returns
returns g c = appends.same (rw (← c.numbers-kind.ensures, c.from.ensures, c.from-2.ensures, c.from-3.ensures) (sym (row-bytes c.numbers-kind.result))) (appends.both c.put16-a.ensures (appends.both c.put16-b.ensures c.put16.ensures))

use native.Mathlib.Omega.{arith}
use Rattle.fields.proofs.Appends as appends
use Rattle.writer.proofs.Rows.{head_bytes_lem}
use Rattle.writer.proofs.put_head.Goals as goal

pub put16-w-requires-2 : goal.put16-w-requires-2
put16-w-requires-2 c = let p = c.requires in (omega (arith, p.0, appends.ends_two _ c.put16-w.ensures), omega (arith, p.1))

pub put16-w-requires-3 : goal.put16-w-requires-3
put16-w-requires-3 c = let p = c.requires in (omega (arith, p.0, appends.ends_two _ c.put16-w.ensures, appends.ends_two _ c.put16-w-2.ensures), omega arith)

pub put16-w-requires-4 : goal.put16-w-requires-4
put16-w-requires-4 c = let p = c.requires in
    (omega (arith, p.0, appends.ends_two _ c.put16-w.ensures, appends.ends_two _ c.put16-w-2.ensures, appends.ends_two _ c.put16-w-3.ensures), omega (arith, p.1))

pub put16-w-requires-5 : goal.put16-w-requires-5
put16-w-requires-5 c = let p = c.requires in
    (omega (arith, p.0, appends.ends_two _ c.put16-w.ensures, appends.ends_two _ c.put16-w-2.ensures, appends.ends_two _ c.put16-w-3.ensures, appends.ends_two _ c.put16-w-4.ensures), omega (arith, p.1))

pub put16-requires : goal.put16-requires
put16-requires c = let p = c.requires in
    (omega (arith, p.0, appends.ends_two _ c.put16-w.ensures, appends.ends_two _ c.put16-w-2.ensures, appends.ends_two _ c.put16-w-3.ensures, appends.ends_two _ c.put16-w-4.ensures, appends.ends_two _ c.put16-w-5.ensures), omega (arith, p.1))

pub returns : goal.returns
returns c = let a = c.args in
    appends.same (head_bytes_lem a.n a.c a.t)
    (appends.both c.put16-w.ensures (appends.both c.put16-w-2.ensures (appends.both c.put16-w-3.ensures (appends.both c.put16-w-4.ensures (appends.both c.put16-w-5.ensures c.put16.ensures)))))

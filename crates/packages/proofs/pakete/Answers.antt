use mathlib.Core.Path.{sym}
use native.Mathlib.Omega.{arith}
use Rattle.std.proofs.lemmas.Result.{err_from_is_err_and}
use Rattle.packages.proofs.Laws.{room_is, pakete_refused, pakete_short, pakete_done}
use Rattle.packages.proofs.pakete.Goals as goal

pub returns-in_err-tree : goal.returns-in_err-tree
returns-in_err-tree c = let p = err_from_is_err_and c.from_residual.result c.from_residual.ensures.1 in
    let e = c.in_err-tree.ensures in rw (p.1, p.2, e.0) (pakete_refused _ _ e.1)

pub returns-then-out-rows : goal.returns-then-out-rows
returns-then-out-rows c = let t = c.in_ok-tree.tree in
    rw (← c.in_ok-tree.ensures) (pakete_short t.bytes.now _ _ t.tested c.count_rows-rows.ensures.0 (omega arith))

pub put_rows-requires : goal.put_rows-requires
put_rows-requires c = omega (arith, room_is c.in_ok-tree.tree.bytes.now _ c.count_rows-rows.ensures.0)

pub returns : goal.returns
returns c = let t = c.in_ok-tree.tree in
    rw (← c.in_ok-tree.ensures) (pakete_done t.bytes.now _ _ _ _ t.tested c.count_rows-rows.ensures.0 (omega arith) c.put_rows.ensures)

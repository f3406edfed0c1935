use native.Mathlib.Omega.{arith}
use Rattle.std.proofs.lemmas.Result.{err_from_is_err_and}
use Rattle.fields.proofs.Appends as appends
use Rattle.tree.proofs.Walks.{root}
use Rattle.printer.proofs.Whole.{within, refused_15, done}
use Rattle.printer.proofs.display.Goals as goal

pub returns-in_err-tree : goal.returns-in_err-tree
returns-in_err-tree c = let p = err_from_is_err_and c.from_residual.result c.from_residual.ensures.1 in
    let e = c.in_err-tree.ensures in let d = refused_15 _ c.args.out.now e.1 in record { result_value = rw (p.1, p.2, e.0) d.0; out_after = d.1 }

pub print_row-requires : goal.print_row-requires
print_row-requires c = let t = c.in_ok-tree.tree in ((root _ t.tested).some, omega (arith, within t.bytes.now t.tested))

pub returns : goal.returns
returns c = let t = c.in_ok-tree.tree in
    let d = done t.bytes.now c.args.out.now _ _ t.tested c.print_row.ensures.ends (omega (arith, within t.bytes.now t.tested, c.print_row.ensures.ends)) (appends.whole c.print_row.ensures) in
    rw (← c.in_ok-tree.ensures) record { result_value = d.0; out_after = d.1 }

use native.Mathlib.Omega.{arith}
use Rattle.fields.proofs.Appends as appends
use Rattle.tree.proofs.Walks.{root}
use Rattle.printer.proofs.Whole.{short, refused_14, done}
use Rattle.printer.proofs.display_apart.Goals as goal

pub print_row-n-requires : goal.print_row-n-requires
print_row-n-requires c = let h = c.args.tree.tested in ((root _ h).some, omega (arith, short c.args.tree.bytes.now h))

pub returns-then-out-n : goal.returns-then-out-n
returns-then-out-n c = let d = refused_14 _ c.args.out.now _ c.args.tree.tested c.print_row-n.ensures.ends (omega arith) in record { result_value = d.0; out_after = d.1 }

pub returns : goal.returns
returns c = let d = done c.args.tree.bytes.now c.args.out.now _ _ c.args.tree.tested c.print_row-n.ensures.ends (omega arith) (appends.whole (appends.same c.print_row-n.ensures.has c.put_text.ensures)) in record { result_value = d.0; out_after = d.1 }

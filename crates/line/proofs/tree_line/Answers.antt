use Prim.Native.Nat.{◌≤◌}
use native.Mathlib.Omega.{arith}
use lib.ListN.{length}
use lib.Seq.{length-take-le}
use Rattle.grammar.specs.Reading.{print_limit}
use Rattle.line.proofs.Texts.{line_names, within, lined}
use Rattle.line.proofs.tree_line.Goals as goal

pub returns : goal.returns
returns c =
    let p : c.print_into-n.result ≤ length c.print_into-n.new.scratch = omega arith in
    lined "tree " print_limit line_names.1.0 c.put_text-from.ensures
    (within print_limit c.print_into-n.ensures.1 (omega (arith, length-take-le c.print_into-n.result c.print_into-n.new.scratch p)) c.put_text-end.ensures)
    c.put_byte.ensures

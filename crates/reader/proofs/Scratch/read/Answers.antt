use native.Mathlib.Omega.{arith}
use Rattle.std.proofs.lemmas.Result.{err_from_is_err_and}
use Rattle.reader.proofs.Outcomes.{refused_reading, no_room, written}
use Rattle.reader.proofs.Scratch.read.Goals as goal

pub returns-in_err-nodes : goal.returns-in_err-nodes
returns-in_err-nodes g c =
    let p = err_from_is_err_and c.from_residual.result c.from_residual.ensures.1 in
    let d = refused_reading _ c.args.out.now _ c.in_err-nodes.ensures.made in
    record { result_value = rw (p.1, p.2) d.0; out_after = d.1 }

pub returns-then-out-length : goal.returns-then-out-length
returns-then-out-length g c =
    let d = no_room _ _ _ _ _ _ c.in_ok-nodes.ensures.made c.args.out.now (omega arith) in
    record { result_value = d.0; out_after = d.1 }

pub returns : goal.returns
returns g c =
    let d = written _ _ _ _ _ _ c.in_ok-nodes.ensures.made c.args.out.now _ _ (omega arith) c.write_tree.ensures in
    record { result_value = d.0; out_after = d.1 }

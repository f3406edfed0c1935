use Rattle.std.proofs.lemmas.Result.{err_from_is_err_and}
use Rattle.reader.proofs.Outcomes.{not-admitted, admitted-reading}
use Rattle.reader.proofs.Expr.parse.Goals as goal

pub returns-in_err-text : goal.returns-in_err-text
returns-in_err-text c =
    let p = err_from_is_err_and c.from_residual.result c.from_residual.ensures.1 in
    let d = not-admitted c.args.text.now c.args.out.now _ c.in_err-text.ensures in
    record { result_value = rw (p.1, p.2) d.0; out_after = d.1 }

pub returns : goal.returns
returns c =
    let t = c.in_ok-text.text in
    let d = admitted-reading t.bytes.now c.args.out.now _ c.read_text.new.out t.short t.well (c.read_text.ensures.result_value, c.read_text.ensures.out_after) in
    rw (← c.in_ok-text.ensures) record { result_value = d.0; out_after = d.1 }

use Rattle.std.proofs.lemmas.Result.{err_from_is_err_and}
use Rattle.lexer.proofs.Turns.{lex_off, lex_on}
use Rattle.lexer.proofs.lex.Goals as goal

pub returns-in_err-lex_all : goal.returns-in_err-lex_all
returns-in_err-lex_all c =
    let p = err_from_is_err_and c.from_residual.result c.from_residual.ensures.1 in
    let d = lex_off c.args.text.bytes.now c.args.kinds.now c.args.places.now _ _ _ c.in_err-lex_all.ensures in
    record { result_value = rw (p.1, p.2) d.0; kinds_after = d.1.0; places_after = d.1.1 }

pub returns : goal.returns
returns c =
    let d = lex_on c.args.text.bytes.now c.args.kinds.now c.args.places.now _ _ _ c.in_ok-lex_all.ensures c.limited.result c.limited.ensures in
    record { result_value = d.0; kinds_after = d.1.0; places_after = d.1.1 }

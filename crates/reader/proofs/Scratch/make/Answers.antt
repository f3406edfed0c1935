use native.Mathlib.Omega.{arith}
use Rattle.std.proofs.lemmas.Result.{err_from_is_err_and}
use Rattle.reader.proofs.Making.{told_counts, parse-room, not_lexed, not_parsed, stands}
use Rattle.reader.proofs.Scratch.make.Goals as goal

pub returns-in_err-tokens : goal.returns-in_err-tokens
returns-in_err-tokens g c =
    let p = err_from_is_err_and c.from_residual.result c.from_residual.ensures.1 in
    rw (p.1, p.2) record { made = not_lexed c.args.text.bytes.now _ c.in_err-tokens.ensures.result_value; within = tt }

pub shared_whole_as_front-parse_tokens : goal.shared_whole_as_front-parse_tokens
shared_whole_as_front-parse_tokens g c =
    let t = told_counts _ c.requires (omega (arith, c.lex.auto.kinds)) (omega (arith, c.lex.auto.places)) c.args.text.well _ _ c.lex.auto.places (c.in_ok-tokens.ensures.result_value, (c.in_ok-tokens.ensures.kinds_after, c.in_ok-tokens.ensures.places_after)) in
    (omega (arith, t.room, c.lex.auto.kinds), omega (arith, c.requires.short))

pub parse_tokens-requires : goal.parse_tokens-requires
parse_tokens-requires g c =
    let r = parse-room _ c.requires (omega (arith, c.lex.auto.kinds)) (omega (arith, c.lex.auto.places)) c.args.text.well _ _ c.lex.auto.places (c.in_ok-tokens.ensures.result_value, (c.in_ok-tokens.ensures.kinds_after, c.in_ok-tokens.ensures.places_after)) in
    (r.0, r.1, omega (arith, r.2), omega (arith, r.3))

pub returns-in_err-nodes : goal.returns-in_err-nodes
returns-in_err-nodes g c =
    let p = err_from_is_err_and c.from_residual-in_err-nodes.result c.from_residual-in_err-nodes.ensures.1 in
    rw (p.1, p.2) record { made = not_parsed _ c.requires (omega (arith, c.lex.auto.kinds)) (omega (arith, c.lex.auto.places)) c.args.text.well _ _ c.lex.auto.places (c.in_ok-tokens.ensures.result_value, (c.in_ok-tokens.ensures.kinds_after, c.in_ok-tokens.ensures.places_after)) _ c.in_err-nodes.ensures.result_value; within = tt }

pub returns : goal.returns
returns g c =
    let h = stands _ c.requires (omega (arith, c.lex.auto.kinds)) (omega (arith, c.lex.auto.places)) c.args.text.well _ _ c.lex.auto.places (c.in_ok-tokens.ensures.result_value, (c.in_ok-tokens.ensures.kinds_after, c.in_ok-tokens.ensures.places_after)) _ _ _ c.in_ok-nodes.ensures.result_value c.in_ok-nodes.ensures.rows_after in
    record { made = h; within = (omega (arith, h.rows_room, c.parse_tokens.auto.rows), omega (arith, h.cites_room, c.lex.auto.places)) }

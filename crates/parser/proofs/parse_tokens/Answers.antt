use lib.ListN.{length}
use Rattle.std.proofs.lemmas.Result.{err_from_is_err_and}
use Rattle.parser.proofs.Parsing.{refused_chain, refused_rest, stands, rows_fit, read_all}
use Rattle.parser.proofs.parse_tokens.Goals as goal

pub returns-then-q-toks : goal.returns-then-q-toks
returns-then-q-toks c = let s = c.args.toks.now in let pre = c.requires in let old = c.args.work.now in
    let d = refused_rest s old c.parse_chain.new.work _ c.in_ok-q.ensures c.args.rows.now c.if-q-toks.true in record { result_value = d.0; rows_after = d.1 }

pub place-requires : goal.place-requires
place-requires c = let s = c.args.toks.now in let pre = c.requires in let old = c.args.work.now in
    let rows = c.args.rows.now in
    (rows_fit s old c.parse_chain.new.work _ c.in_ok-q.ensures (length rows) pre.1 pre.3, stands s old c.parse_chain.new.work _ c.in_ok-q.ensures pre.1)

pub returns-in_err-q : goal.returns-in_err-q
returns-in_err-q c = let s = c.args.toks.now in let pre = c.requires in let old = c.args.work.now in
    let w = err_from_is_err_and c.from_residual.result c.from_residual.ensures.1 in let d = refused_chain s old c.parse_chain.new.work c.args.rows.now _ c.in_err-q.ensures in record { result_value = rw (w.1, w.2) d.0; rows_after = d.1 }

pub returns : goal.returns
returns c = let s = c.args.toks.now in let pre = c.requires in let old = c.args.work.now in
    let d = read_all s old c.parse_chain.new.work _ c.in_ok-q.ensures c.args.rows.now c.place.new.rows pre.1 c.if-q-toks.false c.place.ensures in record { result_value = d.0; rows_after = d.1 }

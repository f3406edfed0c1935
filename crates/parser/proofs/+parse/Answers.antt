use mathlib.Core.Path.{◌≡◌, refl, sym, ap, ◌∙◌, subst}
use native.Mathlib.Omega.{arith}
use denote.Enum.Bare.{same_true, same_false}
use Rattle.std.proofs.Common.{rules}
use Rattle.grammar.specs.contracts.NodeKind.{the_type}
use lib.ListN.{length, length-set}
use Rattle.std.proofs.lemmas.Result.{err_from_is_err_and}
use Rattle.lexer.specs.declared.TokenKind.TheVariants.{Citation}
use Rattle.parser.specs.declared.Pos.{Pos}
use Rattle.parser.specs.Packed.{pack}
use Rattle.parser.specs.States.{Before, past}
use Rattle.parser.proofs.Ahead.{cites_cite}
use Rattle.parser.proofs.Holding.{front_set}
use Rattle.parser.proofs.Turns.{same_pos, ready_inner, row_left, atom_at_end, atom_none, atom_cited, atom_fails, atom_open, atom_grouped, run_starts, run_breaks, run_goes, jux_one, jux_many, chain_alone, chain_starts, recounted, chain_goes, chain_again, chain_other, chain_ends}
use Prim.Native.Nat.{◌<◌, ◌≤◌, ◌+◌, ◌-◌}
use Rattle.parser.proofs.+parse.Goals as goal

pub parse_atom-returns-in_default : goal.parse_atom-returns-in_default
parse_atom-returns-in_default t c = let s = c.args.toks.now in let p = c.args.p in let old = c.args.work.now in let ready = c.requires in
    atom_at_end s p old c.in_default.ensures.lookup.3

pub parse_atom-parse_chain-requires : goal.parse_atom-parse_chain-requires
parse_atom-parse_chain-requires t c = let s = c.args.toks.now in let p = c.args.p in let old = c.args.work.now in let ready = c.requires in
    let here = c.in-Some.ensures.lookup.3.0 in
    rw c.past_token.ensures (omega (arith, c.decreases, ready.inside), ready_inner s p (length old) ready here)

pub parse_atom-returns-in_err-q-in-Opening : goal.parse_atom-returns-in_err-q-in-Opening
parse_atom-returns-in_err-q-in-Opening t c = let s = c.args.toks.now in let p = c.args.p in let old = c.args.work.now in let ready = c.requires in
    let g = c.in-Some.ensures.lookup.3 in
    let w = err_from_is_err_and c.from_residual.result c.from_residual.ensures.1 in
    rw (w.1, w.2) (atom_fails s p old g.0 (sym (g.1 Citation) ∙ c.in-Opening.is) c.parse_chain.new.work _ (rw c.past_token.ensures at c.in_err-q-in-Opening.ensures))

pub parse_atom-returns-then-q-toks : goal.parse_atom-returns-then-q-toks
parse_atom-returns-then-q-toks t c = let s = c.args.toks.now in let p = c.args.p in let old = c.args.work.now in let ready = c.requires in
    let g = c.in-Some.ensures.lookup.3 in
    atom_open s p old g.0 (sym (g.1 Citation) ∙ c.in-Opening.is) c.parse_chain.new.work _ (rw c.past_token.ensures at c.in_ok-q-in-Opening.ensures) c.if-q-toks.true

pub parse_atom-returns-else-q-toks : goal.parse_atom-returns-else-q-toks
parse_atom-returns-else-q-toks t c = let s = c.args.toks.now in let p = c.args.p in let old = c.args.work.now in let ready = c.requires in
    let g = c.in-Some.ensures.lookup.3 in
    rw c.past_token-in-Opening.ensures (atom_grouped s p old g.0 (sym (g.1 Citation) ∙ c.in-Opening.is) c.parse_chain.new.work _ (rw c.past_token.ensures at c.in_ok-q-in-Opening.ensures) c.if-q-toks.false)

pub parse_atom-returns-in_default-kind : goal.parse_atom-returns-in_default-kind
parse_atom-returns-in_default-kind t c = let s = c.args.toks.now in let p = c.args.p in let old = c.args.work.now in let ready = c.requires in
    let g = c.in-Some.ensures.lookup.3 in
    let e = g.1 Citation in
    atom_none s p old g.0 (λ k. c.in_default-kind.not-Opening (e ∙ k)) (λ k. c.in_default-kind.not-Citation (e ∙ k))

pub parse_atom-bounds-work-p : goal.parse_atom-bounds-work-p
parse_atom-bounds-work-p t c = let s = c.args.toks.now in let p = c.args.p in let old = c.args.work.now in let ready = c.requires in
    let g = c.in-Some.ensures.lookup.3 in
    omega (arith, ready.space, cites_cite s p.at g.0 (sym (g.1 Citation) ∙ c.in-Citation.is))

pub parse_atom-returns-in-Citation : goal.parse_atom-returns-in-Citation
parse_atom-returns-in-Citation t c = let s = c.args.toks.now in let p = c.args.p in let old = c.args.work.now in let ready = c.requires in
    let g = c.in-Some.ensures.lookup.3 in
    let k = sym (g.1 Citation) ∙ c.in-Citation.is in
    atom_cited s p old g.0 k (omega (arith, ready.space, cites_cite s p.at g.0 k)) _ c.make_row.ensures

pub parse_chain-returns-in_default : goal.parse_chain-returns-in_default
parse_chain-returns-in_default t c = let s = c.args.toks.now in let p = c.args.p in let old = c.args.work.now in let ready = c.requires in
    chain_alone s p old c.parse_juxtaposition.new.work _ c.in_ok-lead.ensures c.in_default.ensures

pub parse_chain-loop-next-init : goal.parse_chain-loop-next-init
parse_chain-loop-next-init t c = let s = c.args.toks.now in let p = c.args.p in let old = c.args.work.now in
    let lead = c.in_ok-lead.lead in let q = c.past_token-q.result in let is = c.past_token-q.ensures in
    let st = chain_starts s p old c.parse_juxtaposition.new.work lead c.in_ok-lead.ensures c.in-Some.first c.in-Some.ensures in
    let behind = same_pos q (past lead) (omega (arith, ap (λ (x : Pos). x.at) is)) (omega (arith, ap (λ (x : Pos). x.rows) is)) (omega (arith, ap (λ (x : Pos). x.cites) is)) in
    (subst (λ r. Before s p c.parse_juxtaposition.new.work r c.in-Some.first 1) (sym behind) st.0, refl, refl)

pub parse_chain-returns-in_default-op_at : goal.parse_chain-returns-in_default-op_at
parse_chain-returns-in_default-op_at t c = let s = c.args.toks.now in let p = c.args.p in let old = c.args.work.now in let ready = c.requires in
    let w = c.loop-next in let q = w.q in let inv = w.invariant in
    let go = chain_goes s p w.work q w.op w.kids inv.0 c.parse_juxtaposition-in-loop-next.new.work _ c.in_ok-next.ensures in
    let n = c.in_ok-next.next in let room = row_left s p (length old) n.at n.rows n.cites (w.kids + 1) ready go.0.within go.0.two in
    let fits : n.rows < length c.parse_juxtaposition-in-loop-next.new.work = omega (arith, room.0, inv.2) in
    let st = chain_starts s p old c.parse_juxtaposition.new.work _ c.in_ok-lead.ensures c.in-Some.first c.in-Some.ensures in
    rw (c.add_node.ensures.value, c.add_node.ensures.work_after) (chain_ends s p _ n w.op (w.kids + 1) go.0 old c.in_default-op_at.ensures fits (go.1 ∙ inv.1 ∙ st.1))

pub parse_chain-loop-next-preserved-then-eq : goal.parse_chain-loop-next-preserved-then-eq
parse_chain-loop-next-preserved-then-eq t c = let s = c.args.toks.now in let p = c.args.p in
    let w = c.loop-next in let q = w.q in let inv = w.invariant in
    let go = chain_goes s p w.work q w.op w.kids inv.0 c.parse_juxtaposition-in-loop-next.new.work _ c.in_ok-next.ensures in
    let same = same_true the_type (search rules) _ _ (sym c.eq.ensures ∙ c.if-eq.true) in
    let on = chain_again s p _ c.in_ok-next.next w.op (w.kids + 1) go.0 c.in-Some-op_at.sign c.in-Some-op_at.ensures same in
    rw c.past_token-q-then-eq.ensures (recounted s p on (omega arith), go.1 ∙ inv.1, omega (arith, inv.2))

pub parse_chain-loop-next-preserved : goal.parse_chain-loop-next-preserved
parse_chain-loop-next-preserved t c = let s = c.args.toks.now in let p = c.args.p in let old = c.args.work.now in let ready = c.requires in
    let w = c.loop-next in let q = w.q in let inv = w.invariant in
    let go = chain_goes s p w.work q w.op w.kids inv.0 c.parse_juxtaposition-in-loop-next.new.work _ c.in_ok-next.ensures in
    let n = c.in_ok-next.next in let room = row_left s p (length old) n.at n.rows n.cites (w.kids + 1) ready go.0.within go.0.two in
    let fits : n.rows < length c.parse_juxtaposition-in-loop-next.new.work = omega (arith, room.0, inv.2) in
    let not = same_false the_type _ _ (sym c.eq.ensures ∙ c.if-eq.false) in
    let on = chain_other s p _ n w.op (w.kids + 1) go.0 c.in-Some-op_at.sign c.in-Some-op_at.ensures not fits in
    rw (c.past_token-q-else-eq.ensures, c.add_node-else-eq.ensures.value, c.add_node-else-eq.ensures.work_after)
    (recounted s p on (omega arith), front_set p.rows _ n.rows _ go.0.within.above ∙ go.1 ∙ inv.1, omega (arith, inv.2, length-set c.parse_juxtaposition-in-loop-next.new.work n.rows (pack w.op (w.kids + 1) (n.rows + 1 - p.rows))))

pub parse_juxtaposition-loop-work-init : goal.parse_juxtaposition-loop-work-init
parse_juxtaposition-loop-work-init t c = let s = c.args.toks.now in let p = c.args.p in let old = c.args.work.now in let ready = c.requires in
    let st = run_starts s p old c.parse_atom.new.work _ c.in_ok-q.ensures in
    (st.0, refl, refl)

pub parse_juxtaposition-loop-work-preserved : goal.parse_juxtaposition-loop-work-preserved
parse_juxtaposition-loop-work-preserved t c = let s = c.args.toks.now in let p = c.args.p in let old = c.args.work.now in let ready = c.requires in
    let work = c.loop-work.work in let q = c.loop-work.q in let kids = c.loop-work.kids in let inv = c.loop-work.invariant in
    let h = run_goes s p work q kids inv.0 c.parse_atom-in-loop-work.new.work _ c.in_ok-q-2.ensures in
    (h.0, h.1 ∙ inv.1, omega (arith, inv.2))

pub parse_juxtaposition-returns-then-kids-eq1 : goal.parse_juxtaposition-returns-then-kids-eq1
parse_juxtaposition-returns-then-kids-eq1 t c = let s = c.args.toks.now in let p = c.args.p in let old = c.args.work.now in let ready = c.requires in
    let st = run_starts s p old c.parse_atom.new.work _ c.in_ok-q.ensures in
    let work = c.loop-work.work in let q = c.loop-work.q in let kids = c.loop-work.kids in let inv = c.loop-work.invariant in
    jux_one s p work q kids inv.0 old (sym c.loop-work-test.false ∙ c.operand_at.ensures) (inv.1 ∙ st.1) c.if-kids-eq1.true

pub parse_juxtaposition-returns : goal.parse_juxtaposition-returns
parse_juxtaposition-returns t c = let s = c.args.toks.now in let p = c.args.p in let old = c.args.work.now in let ready = c.requires in
    let st = run_starts s p old c.parse_atom.new.work _ c.in_ok-q.ensures in
    let work = c.loop-work.work in let q = c.loop-work.q in let kids = c.loop-work.kids in let inv = c.loop-work.invariant in
    let kept : length work ≡ length old = omega (arith, inv.2) in
    let two : 2 ≤ kids = omega (arith, inv.0.some, c.if-kids-eq1.false) in
    let room = row_left s p (length old) q.at q.rows q.cites kids ready inv.0.within two in
    rw (c.add_node.ensures.value, c.add_node.ensures.work_after) (jux_many s p work q kids inv.0 old (sym c.loop-work-test.false ∙ c.operand_at.ensures) (inv.1 ∙ st.1) two (omega (arith, room.0, kept)))

pub parse_juxtaposition-returns-in_err-q-2 : goal.parse_juxtaposition-returns-in_err-q-2
parse_juxtaposition-returns-in_err-q-2 t c = let s = c.args.toks.now in let p = c.args.p in let old = c.args.work.now in let ready = c.requires in
    let q = c.loop-work.q in let inv = c.loop-work.invariant in
    let w = err_from_is_err_and c.from_residual-in_err-q-2.result c.from_residual-in_err-q-2.ensures.1 in
    rw (w.1, w.2) (run_breaks s p c.loop-work.work q c.loop-work.kids inv.0 (sym c.loop-work-test.true ∙ c.operand_at.ensures) old c.parse_atom-in-loop-work.new.work _ c.in_err-q-2.ensures)

use native.Mathlib.Omega.{arith}
use mathlib.Core.Path.{refl, ◌∙◌, subst}
use Rattle.std.proofs.Common.{List, ℕ, Ok}
use Rattle.lexer.specs.State.{Begins}
use Rattle.std.proofs.lemmas.Result.{err_from_is_err_and}
use Rattle.lexer.proofs.Turns.{rests_on, state_start, state_off, state_more, state_on}
use Rattle.lexer.proofs.lex_all.Goals as goal

pub loop-token-init : goal.loop-token-init
loop-token-init c = rw c.into_iter-token-iterator.ensures.into_iter_gives (refl, refl, refl, state_start c.args.text.bytes.now c.args.kinds.now c.args.places.now c.args.text.well, refl, refl)

pub returns-in_err-token : goal.returns-in_err-token
returns-in_err-token c =
    let i = c.loop-token.invariant in
    let n = rw (c.in_err-token.was, i.0) at c.in-Some.ensures.steps.1 in
    let p = err_from_is_err_and c.from_residual.result c.from_residual.ensures.1 in
    rw (p.1, p.2) (state_off i.3 c.args.kinds.now c.args.places.now i.2 i.4 i.5 _ n.0)

pub loop-token-preserved : goal.loop-token-preserved
loop-token-preserved c =
    let i = c.loop-token.invariant in
    let t = c.in-Some.ensures.steps in
    let n = rw (c.in_ok-token.was, i.0) at t.1 in
    let b = subst (λ (s : List ℕ). Begins s c.loop-token.token-iterator.at (Ok c.in_ok-token.field-0)) i.0 n.1 in
    let m = state_more i.3 _ b (omega (arith, n.0, i.1, i.3.tokens_room, c.requires)) _ _ _ c.store_token-p.ensures in
    let r = rests_on c.args.kinds.now c.args.places.now _ _ _ _ c.loop-token.p _ m.1 i.4 i.5 in
    (t.0 ∙ i.0, omega (arith, i.1), omega (arith, i.2), rw n.2 m.0, r.0, r.1)

pub returns : goal.returns
returns c =
    let i = c.loop-token.invariant in
    state_on i.3 c.args.kinds.now c.args.places.now i.2 i.4 i.5 (rw i.0 at c.in-None.ensures.steps.1).0

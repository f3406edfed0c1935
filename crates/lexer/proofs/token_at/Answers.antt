use native.Mathlib.Omega.{arith}
use mathlib.Core.Path.{sym, ◌∙◌}
use Rattle.std.proofs.lemmas.Result.{err_from_is_err_and}
use Rattle.lexer.proofs.Marks.{no_step, step_ahead, token_space, token_stray, token_mark, token_never, token_cite}
use Rattle.lexer.proofs.token_at.Goals as goal

pub overflow_add-next : goal.overflow_add-next
overflow_add-next c = let a = step_ahead c.args.text.now c.args.at _ _ c.requires.0 c.requires.1 (sym c.step_from.ensures ∙ c.in-Char.is) in omega arith

pub close_at-requires : goal.close_at-requires
close_at-requires c = let a = step_ahead c.args.text.now c.args.at _ _ c.requires.0 c.requires.1 (sym c.step_from.ensures ∙ c.in-Char.is) in (a.room, a.well)

pub returns-in_default : goal.returns-in_default
returns-in_default c = absurd (no_step c.args.text.now c.args.at c.requires.0 c.requires.1 (λ x w e. c.in_default.not-Char x w (c.step_from.ensures ∙ e)))

pub returns-in_err-close_at-in-Bracket : goal.returns-in_err-close_at-in-Bracket
returns-in_err-close_at-in-Bracket c =
    let e = sym c.step_from.ensures ∙ c.in-Char.is in
    let p = err_from_is_err_and c.from_residual.result c.from_residual.ensures.1 in
    rw (p.1, p.2) (token_never c.args.text.now c.args.at _ _ c.requires.0 c.requires.1 e _ c.part_of.ensures c.in-Bracket.is _ c.in_err-close_at-in-Bracket.ensures)

pub returns-in_ok-close_at-in-Bracket : goal.returns-in_ok-close_at-in-Bracket
returns-in_ok-close_at-in-Bracket c =
    let e = sym c.step_from.ensures ∙ c.in-Char.is in
    token_cite c.args.text.now c.args.at _ _ c.requires.0 c.requires.1 e _ c.part_of.ensures c.in-Bracket.is _ c.in_ok-close_at-in-Bracket.ensures

pub returns-in-Mark : goal.returns-in-Mark
returns-in-Mark c = let e = sym c.step_from.ensures ∙ c.in-Char.is in token_mark c.args.text.now c.args.at _ _ c.requires.0 c.requires.1 e _ c.part_of.ensures _ c.in-Mark.is

pub returns-in-White : goal.returns-in-White
returns-in-White c = let e = sym c.step_from.ensures ∙ c.in-Char.is in token_space c.args.text.now c.args.at _ _ c.requires.0 c.requires.1 e _ c.part_of.ensures c.in-White.is

pub returns-in-Stray : goal.returns-in-Stray
returns-in-Stray c = let e = sym c.step_from.ensures ∙ c.in-Char.is in token_stray c.args.text.now c.args.at _ _ c.requires.0 c.requires.1 e _ c.part_of.ensures c.in-Stray.is

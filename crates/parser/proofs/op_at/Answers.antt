use mathlib.Core.Path.{sym, ◌∙◌}
use Rattle.lexer.specs.declared.TokenKind.TheVariants.{Citation, And, Or, Xor}
use Rattle.parser.proofs.Ahead.{op_end, op_known, op_none}
use Rattle.parser.proofs.op_at.Goals as goal

pub returns-in_err-get : goal.returns-in_err-get
returns-in_err-get c = c.from_residual.ensures ∙ op_end c.args.toks.now c.args.at c.in_err-get.ensures.lookup.3

pub returns-in-And : goal.returns-in-And
returns-in-And c = let g = c.in_ok-get.ensures.lookup.3 in op_known c.args.toks.now c.args.at And g.0 (sym (g.1 Citation) ∙ c.in-And.is)

pub returns-in-Or : goal.returns-in-Or
returns-in-Or c = let g = c.in_ok-get.ensures.lookup.3 in op_known c.args.toks.now c.args.at Or g.0 (sym (g.1 Citation) ∙ c.in-Or.is)

pub returns-in-Xor : goal.returns-in-Xor
returns-in-Xor c = let g = c.in_ok-get.ensures.lookup.3 in op_known c.args.toks.now c.args.at Xor g.0 (sym (g.1 Citation) ∙ c.in-Xor.is)

pub returns-in_default : goal.returns-in_default
returns-in_default c = let g = c.in_ok-get.ensures.lookup.3 in
    let e = g.1 Citation in
    op_none c.args.toks.now c.args.at g.0 (λ k. c.in_default.not-And (e ∙ k)) (λ k. c.in_default.not-Or (e ∙ k)) (λ k. c.in_default.not-Xor (e ∙ k))

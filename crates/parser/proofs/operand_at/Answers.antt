use mathlib.Core.Path.{◌∙◌}
use Rattle.lexer.specs.declared.TokenKind.TheVariants.{Citation}
use Rattle.parser.proofs.Ahead.{operand_end, operand_some, operand_none}
use Rattle.parser.proofs.operand_at.Goals as goal

pub returns-in-Citation : goal.returns-in-Citation
returns-in-Citation c = let g = c.in-Some.ensures.lookup.3 in operand_some c.args.toks.now c.args.at g.0 (g.1 Citation) c.in-Citation.is

pub returns-in-Citation-2 : goal.returns-in-Citation-2
returns-in-Citation-2 c = let g = c.in-Some.ensures.lookup.3 in operand_some c.args.toks.now c.args.at g.0 (g.1 Citation) c.in-Citation.is

pub returns-in_default : goal.returns-in_default
returns-in_default c = let g = c.in-Some.ensures.lookup.3 in
    let e = g.1 Citation in
    operand_none c.args.toks.now c.args.at g.0 (λ k. c.in_default.not-Citation (e ∙ k)) (λ k. c.in_default.not-Opening (e ∙ k))

pub returns-in-None : goal.returns-in-None
returns-in-None c = operand_end c.args.toks.now c.args.at c.in-None.ensures.lookup.3

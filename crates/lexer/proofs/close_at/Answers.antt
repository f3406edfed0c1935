use native.Mathlib.Omega.{arith}
use Rattle.lexer.proofs.Ending.{never_ends, ends-blank, ends_cited}
use Rattle.lexer.proofs.close_at.Goals as goal

pub returns-then-text-end : goal.returns-then-text-end
returns-then-text-end c = never_ends c.args.text.now c.args.at _ c.requires.0 c.requires.1 c.find_end-end.ensures (omega arith)

pub returns-then-white_end-end : goal.returns-then-white_end-end
returns-then-white_end-end c = ends-blank c.args.text.now c.args.at _ c.requires.0 c.requires.1 c.find_end-end.ensures (omega arith) (omega (arith, c.white_end.ensures))

pub returns : goal.returns
returns c = ends_cited c.args.text.now c.args.at _ c.requires.0 c.requires.1 c.find_end-end.ensures (omega arith) (λ q. omega (arith, c.white_end.ensures, q))

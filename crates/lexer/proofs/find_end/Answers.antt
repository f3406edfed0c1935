use native.Mathlib.Omega.{arith}
use native.Mathlib.Decide.{dec_lt}
use mathlib.Core.Path.{◌≡◌, ◌∙◌}
use lib.ListN.{length}
use Rattle.grammar.specs.Lex.{cite_end}
use Rattle.lexer.proofs.Runs.{find_on, find_here, find_out}
use Rattle.lexer.proofs.find_end.Goals as goal

pub returns-then-text-i-eq93 : goal.returns-then-text-i-eq93
returns-then-text-i-eq93 c = find_here cite_end c.args.text.now c.loop-i.i (omega arith) c.if-text-i-eq93.true ∙ c.loop-i.invariant

pub loop-i-preserved : goal.loop-i-preserved
loop-i-preserved c = find_on cite_end c.args.text.now c.loop-i.i (omega arith) c.if-text-i-eq93.false ∙ c.loop-i.invariant

pub returns : goal.returns
returns c =
    let s = c.args.text.now in
    elim (dec_lt (length s) c.args.at) [
      | yes l ↦ (let e : c.max.result ≡ c.args.at = omega arith in e ∙ find_out cite_end s c.args.at (omega arith))
      | no l ↦ (let e : c.max.result ≡ c.loop-i.i = omega arith in e ∙ find_out cite_end s c.loop-i.i (omega arith) ∙ c.loop-i.invariant)
    ]

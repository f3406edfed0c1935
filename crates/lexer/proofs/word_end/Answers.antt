use native.Mathlib.Omega.{arith}
use native.Mathlib.Decide.{dec_lt}
use mathlib.Core.Path.{◌≡◌, ◌∙◌}
use mathlib.Core.Bool.{false}
use lib.ListN.{length}
use Rattle.lexer.proofs.Runs.{visible_on, run_out}
use Rattle.lexer.proofs.word_end.Goals as goal

pub loop-i-preserved : goal.loop-i-preserved
loop-i-preserved c =
    let b = c.if-not-is_ascii_graphic.ensures.cases in
    visible_on c.args.text.now c.loop-i.i (omega arith) (omega (arith, b)) (omega (arith, b)) ∙ c.loop-i.invariant

pub returns : goal.returns
returns c =
    let s = c.args.text.now in
    elim (dec_lt (length s) c.args.at) [
      | yes l ↦ (let e : c.max.result ≡ c.args.at = omega arith in e ∙ run_out false s c.args.at (omega arith))
      | no l ↦ (let e : c.max.result ≡ c.loop-i.i = omega arith in e ∙ run_out false s c.loop-i.i (omega arith) ∙ c.loop-i.invariant)
    ]

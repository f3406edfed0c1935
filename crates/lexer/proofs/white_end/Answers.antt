use native.Mathlib.Omega.{arith}
use mathlib.Core.Path.{◌∙◌}
use mathlib.Core.Bool.{true}
use Rattle.lexer.proofs.Runs.{space_on, visible_off, run_out}
use Rattle.lexer.proofs.white_end.Goals as goal

pub returns-then-text-at : goal.returns-then-text-at
returns-then-text-at c = run_out true c.args.text.now c.args.at (omega arith)

pub returns-then-is_ascii_graphic : goal.returns-then-is_ascii_graphic
returns-then-is_ascii_graphic c =
    let b = c.if-is_ascii_graphic.ensures.cases in
    visible_off c.args.text.now c.loop-i.i (omega arith) (omega (arith, b)) (omega (arith, b)) ∙ c.loop-i.invariant

pub loop-i-preserved : goal.loop-i-preserved
loop-i-preserved c = space_on c.args.text.now c.loop-i.i (omega arith) c.if-text-i-eq32.true ∙ c.loop-i.invariant

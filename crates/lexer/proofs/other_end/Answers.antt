use native.Mathlib.Omega.{arith}
use Rattle.lexer.proofs.Runs.{visible_off}
use Rattle.lexer.proofs.other_end.Goals as goal

pub returns-then-is_ascii_graphic : goal.returns-then-is_ascii_graphic
returns-then-is_ascii_graphic c =
    let a = c.args in
    let b = c.if-is_ascii_graphic.ensures.cases in
    visible_off a.text.now a.at (omega arith) (omega (arith, b)) (omega (arith, b))

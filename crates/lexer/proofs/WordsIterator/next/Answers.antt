use native.Mathlib.Omega.{arith}
use mathlib.Core.Bool.{false}
use Rattle.lexer.proofs.Runs.{run_within}
use Rattle.lexer.proofs.WordsIterator.next.Goals as goal

pub returns-clause-goes : goal.returns-clause-goes
returns-clause-goes c =
    let w = c.word_end-end.ensures in
    omega (arith, w, c.white_end-from.ensures, run_within false c.args.self.now.text.now c.white_end-from.result (omega (arith, w, c.if-end-from.false)))

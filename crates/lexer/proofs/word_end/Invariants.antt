use mathlib.Core.Path.{◌≡◌}
use mathlib.Core.Bool.{false}
use Rattle.lexer.specs.Runs.{run_end}
use Rattle.lexer.proofs.word_end.Given as goal

abbrev pub invariant-loop-i : goal.invariant-loop-i
invariant-loop-i l = run_end false l.text l.i ≡ run_end false l.text l.at

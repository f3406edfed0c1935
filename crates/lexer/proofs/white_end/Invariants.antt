use mathlib.Core.Path.{◌≡◌}
use mathlib.Core.Bool.{true}
use Rattle.lexer.specs.Runs.{run_end}
use Rattle.lexer.proofs.white_end.Given as goal

abbrev pub invariant-loop-i : goal.invariant-loop-i
invariant-loop-i l = run_end true l.text l.i ≡ run_end true l.text l.at

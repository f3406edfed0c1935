use mathlib.Core.Path.{◌≡◌}
use mathlib.Core.Bool.{true}
use Rattle.lexer.specs.Runs.{run_end}
use Rattle.lexer.proofs.spaces_end.Given as goal

abbrev pub invariant-loop-j : goal.invariant-loop-j
invariant-loop-j l = run_end true l.text l.j ≡ run_end true l.text l.at

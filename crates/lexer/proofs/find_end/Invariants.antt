use Prim.Native.Nat.{◌+◌}
use mathlib.Core.Path.{◌≡◌}
use lib.ListN.{length, drop}
use Rattle.grammar.specs.Lex.{cite_end}
use Rattle.lexer.specs.Runs.{up_to}
use Rattle.lexer.proofs.find_end.Given as goal

abbrev pub invariant-loop-i : goal.invariant-loop-i
invariant-loop-i l = l.i + length (up_to cite_end (drop l.i l.text)) ≡ l.at + length (up_to cite_end (drop l.at l.text))

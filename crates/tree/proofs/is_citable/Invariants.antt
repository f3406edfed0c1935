use mathlib.Core.Path.{◌≡◌}
use lib.ListN.{drop}
use Rattle.grammar.specs.Citable.{citable}
use Rattle.tree.proofs.Texts.{citable_from}
use Rattle.tree.proofs.is_citable.Given as goal

abbrev pub invariant-loop-code : goal.invariant-loop-code
invariant-loop-code l = citable_from l.blank (drop l.code-iterator.at l.code-iterator.text.now) ≡ citable l.text

use mathlib.Core.Path.{◌≡◌}
use mathlib.Core.Bool.{◌&&◌}
use lib.ListN.{drop}
use Rattle.tree.specs.Plain.{all_plain}
use Rattle.tree.proofs.all_plain.Given as goal

abbrev pub invariant-loop-b : goal.invariant-loop-b
invariant-loop-b l = l.plain && all_plain (drop l.b-index l.s) ≡ all_plain l.s

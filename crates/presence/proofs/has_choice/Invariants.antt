use mathlib.Core.Path.{◌≡◌}
use mathlib.Core.Bool.{false}
use Rattle.presence.specs.Marks.{choice_among}
use Rattle.presence.proofs.has_choice.Given as goal

abbrev pub invariant-loop-row : goal.invariant-loop-row
invariant-loop-row l = choice_among l.tree.bytes.now l.row ≡ false

use Prim.Native.Nat.{◌≤◌}
use mathlib.Core.Path.{◌≡◌}
use mathlib.Core.List.{[], ◌∷◌, ◌++◌}
use lib.ListN.{length, drop}
use Rattle.formats.specs.Rules.{digit_groups}
use Rattle.formats.proofs.digit_groups.Given as goal

abbrev pub invariant-loop-width : goal.invariant-loop-width
invariant-loop-width l = (digit_groups (drop l.width-index l.before ++ l.last ∷ []) l.rest ≡ digit_groups l.widths l.value) × (length l.rest ≤ length l.value)

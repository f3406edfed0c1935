use Prim.Native.Nat.{◌*◌}
use mathlib.Core.Path.{◌≡◌}
use mathlib.Core.List.{◌++◌}
use lib.ListN.{take, drop}
use Rattle.protocol.specs.Hex.{pairs}
use Rattle.protocol.proofs.put_pairs.Given as goal

abbrev pub invariant-loop-n : goal.invariant-loop-n
invariant-loop-n l = (take l.n l.out ++ pairs (drop (2 * l.n) l.field) ≡ pairs l.field) × (drop l.n l.out ≡ drop l.n l.initial.out)

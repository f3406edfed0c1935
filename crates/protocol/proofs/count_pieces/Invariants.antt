use Prim.Native.Nat.{◌+◌}
use mathlib.Core.Path.{◌≡◌}
use Rattle.protocol.proofs.Pieces.{spaces}
use Rattle.protocol.proofs.count_pieces.Given as goal

abbrev pub invariant-loop-b : goal.invariant-loop-b
invariant-loop-b l = l.n ≡ spaces l.line l.b-index + 1

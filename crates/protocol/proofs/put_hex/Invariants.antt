use Prim.Native.Nat.{◌+◌, ◌*◌}
use mathlib.Core.Path.{◌≡◌}
use lib.ListN.{length, take}
use Rattle.fields.specs.Appended.{Appended}
use Rattle.protocol.specs.Hex.{hex_of}
use Rattle.protocol.proofs.put_hex.Given as goal

abbrev pub invariant-loop-b : goal.invariant-loop-b
invariant-loop-b l = Appended (hex_of (take l.b-index l.s)) l.at l.initial.out l.out l.to × (l.to ≡ l.at + 2 * l.b-index) × (length l.out ≡ length l.initial.out)

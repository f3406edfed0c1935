use Prim.Native.Nat.{◌+◌, ◌-◌, ◌≤◌}
use mathlib.Core.Path.{◌≡◌}
use lib.ListN.{drop}
use Rattle.utf8.specs.Utf8.{code_of}
use Rattle.utf8.proofs.Walk.{Cap}
use Rattle.utf8.proofs.rest.Given as goal

abbrev pub invariant-loop-k : goal.invariant-loop-k
invariant-loop-k l = (code_of (l.more - l.k) l.from l.to l.value (drop (l.at + l.k) l.s) ≡ code_of l.more l.low l.high l.code (drop l.at l.s)) × (0x80 ≤ l.from) × (l.to ≤ 0xBF) × Cap l.value (l.more - l.k)

use Prim.Native.Nat.{◌+◌}
use lib.ListN.{take}
use Rattle.fields.specs.Appended.{Appended}
use Rattle.fields.proofs.put_text.Given as goal

abbrev pub invariant-loop-i : goal.invariant-loop-i
invariant-loop-i l = Appended (take l.i l.text) l.at l.initial.out l.out (l.at + l.i)

use Prim.Native.Nat.{◌+◌, ◌*◌, ◌≤◌}
use Rattle.switches.proofs.days_to_known.Given as goal

abbrev pub invariant-loop-year : goal.invariant-loop-year
invariant-loop-year l = l.days + 73932 ≤ l.year * 366

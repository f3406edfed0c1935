use Prim.Native.Nat.{◌*◌, ◌≤◌}
use mathlib.Core.Path.{◌≡◌}
use Rattle.calendar.specs.Calendar.{before_month}
use Rattle.calendar.proofs.before_month.Given as goal

abbrev pub invariant-loop-k : goal.invariant-loop-k
invariant-loop-k l = (l.n ≡ before_month l.year l.k) × (l.n ≤ 255 * l.k)

use Prim.Native.Nat.{◌+◌, ◌*◌, ◌≤◌}
use mathlib.Core.Path.{◌≡◌}
use Rattle.switches.proofs.look_at_years.Given as goal

abbrev pub invariant-loop-year : goal.invariant-loop-year
invariant-loop-year g l = (l.seen.0 + 402 ≡ 2 * l.year) × ((l.seen.1.0 ≤ l.seen.0) × (l.march_31 ≤ 6926436 + l.year * 366))

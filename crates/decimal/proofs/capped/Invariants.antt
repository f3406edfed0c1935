use Prim.Native.Nat.{◌≤◌, min}
use mathlib.Core.Path.{◌≡◌}
use mathlib.Core.Bool.{true}
use lib.ListN.{drop}
use Rattle.text.specs.Digits.{all_digits, nat_from, nat_of}
use Rattle.decimal.proofs.capped.Given as goal

abbrev pub invariant-loop-b : goal.invariant-loop-b
invariant-loop-b l = (min (nat_from l.n (drop l.b-index l.s)) 4294967296 ≡ min (nat_of l.s) 4294967296) × (l.n ≤ 4294967296) × (all_digits (drop l.b-index l.s) ≡ true)

use Prim.Native.Nat.{◌≤◌, ◌<◌}
use mathlib.Core.Path.{◌≡◌}
use lib.ListN.{length, drop}
use Rattle.text.specs.Digits.{all_digits, nat_from, nat_of}
use Rattle.text.proofs.digits_up_to.Given as goal

abbrev pub invariant-loop-b : goal.invariant-loop-b
invariant-loop-b l = (all_digits (drop l.b-index l.s) ≡ all_digits l.s) × (nat_from l.n (drop l.b-index l.s) ≡ nat_of l.s) × (l.n ≤ l.most) × (0 < length l.s)

use native.Mathlib.Omega.{arith}
use Prim.Native.Nat.{ℕ, ◌+◌, ◌-◌, ◌*◌, min}
use mathlib.Core.Path.{◌≡◌, ap, ◌∙◌}
use lib.ListN.{drop, get_or}
use Rattle.text.proofs.Numbers.{nat_cut, digit_at, nat_next}
use Rattle.decimal.proofs.capped.Goals as goal

pub loop-b-preserved : goal.loop-b-preserved
loop-b-preserved c = let s = c.args.s.now in
    let l = c.loop-b in
    let i = l.b-index in
    let d = digit_at s i (omega arith) l.invariant.2 in
    let e : c.min-n.result ≡ min (l.n * 10 + (get_or s i 0 - 48)) 4294967296 = omega (arith, c.min-n.ensures, c.from.ensures) in (
      rw e (nat_cut 4294967296 (l.n * 10 + (get_or s i 0 - 48)) (drop (i + 1) s)) ∙ ap (λ (k : ℕ). min k 4294967296) (nat_next l.n s i (omega arith)) ∙ l.invariant.0,
      omega arith,
      d.2,
    )

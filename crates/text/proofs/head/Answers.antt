use Prim.Native.Nat.{ℕ}
use mathlib.Core.Path.{sym, ap, ◌∙◌}
use native.Mathlib.Omega.{arith}
use lib.ListN.{take}
use lib.Seq.{length-take-le}
use Rattle.text.proofs.Laws.{take_capped}
use Rattle.text.proofs.head.Goals as goal

pub slice_bounds-result-end : goal.slice_bounds-result-end
slice_bounds-result-end c = sym (length-take-le c.min.result c.args.s.now (omega (arith, c.min.ensures)))

pub returns : goal.returns
returns c = let a = c.args in
    ap (λ (n : ℕ). take n a.s.now) c.min.ensures ∙ take_capped a.to a.s.now

use native.Mathlib.Omega.{arith}
use mathlib.Core.Path.{◌∙◌}
use Rattle.text.proofs.Numbers.{up_over, too_large}
use Rattle.text.proofs.digits_up_to.Goals as goal

pub returns-in_err-checked_mul : goal.returns-in_err-checked_mul
returns-in_err-checked_mul c = let s = c.args.s.now in
    let m = c.args.most in
    let l = c.loop-b in
    c.from_residual.ensures
    ∙ up_over m s (omega (arith, l.invariant.1, c.ranges.most.fits, too_large m l.n s l.b-index (omega arith) (omega (arith, c.in_err-checked_mul.ensures, c.ranges.most.fits))))

pub returns-in_err-n : goal.returns-in_err-n
returns-in_err-n c = let s = c.args.s.now in
    let m = c.args.most in
    let l = c.loop-b in
    c.from_residual-in_err-n.ensures
    ∙ up_over m s (omega (arith, l.invariant.1, too_large m l.n s l.b-index (omega arith) (omega (arith, c.in_err-n.ensures, c.in_ok-checked_mul.ensures, c.from.ensures, c.ranges.most.fits))))

pub returns-then-most-n : goal.returns-then-most-n
returns-then-most-n c = let s = c.args.s.now in
    let m = c.args.most in
    let l = c.loop-b in
    up_over m s (omega (arith, l.invariant.1, too_large m l.n s l.b-index (omega arith) (omega (arith, c.in_ok-n.ensures, c.in_ok-checked_mul.ensures, c.from.ensures))))

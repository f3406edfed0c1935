use Prim.Native.Nat.{◌≤◌}
use native.Mathlib.Omega.{arith}
use mathlib.Core.Path.{sym, ap, ◌∙◌}
use lib.ListN.{length, length-drop}
use Rattle.utf8.proofs.Laws.{char_at, step_end}
use Rattle.lexer.proofs.Runs.{run_on, run_off, run_bad, run_out}
use Rattle.lexer.proofs.run_while.Goals as goal

pub returns-in_default : goal.returns-in_default
returns-in_default g c w t =
    let i = c.loop-place.invariant in
    let n = rw (c.in_default.is, i.0) at c.in-Some.ensures.steps.1 in
    omega (arith, n.0, run_bad w c.args.text.now c.loop-place.place-iterator.at n.1, i.3 w t)

pub returns-then-not-on : goal.returns-then-not-on
returns-then-not-on g c w t =
    let i = c.loop-place.invariant in
    let n = rw (c.in-Some-code.is, i.0) at c.in-Some.ensures.steps.1 in
    let a = t c.in-Some-code.code c.on.result (omega arith) c.on.ensures in
    omega (arith, n.0, run_off w c.args.text.now c.loop-place.place-iterator.at _ _ n.1.1 (sym a ∙ c.if-not-on.true), i.3 w t)

pub loop-place-preserved : goal.loop-place-preserved
loop-place-preserved g c =
    let i = c.loop-place.invariant in
    let n = rw (c.in-Some-code.is, i.0) at c.in-Some.ensures.steps in
    let s = c.args.text.now in
    let at = c.loop-place.place-iterator.at in
    let d = char_at s at _ _ n.1.1.1 in (
      n.0,
      omega (arith, i.1, n.1.1.2),
      omega (arith, d.3, n.1.1.2),
      λ w t. let a = t c.in-Some-code.code c.on.result (omega arith) c.on.ensures in rw n.1.1.2 (run_on w s at _ _ n.1.1.1 (sym a ∙ c.if-not-on.false) ∙ i.3 w t),
    )

pub returns : goal.returns
returns g c w t =
    let i = c.loop-place.invariant in
    let s = c.args.text.now in
    let at = c.loop-place.place-iterator.at in
    let e = ap length (step_end _ (rw i.0 at c.in-None.ensures.steps.1).0) in
    let k : length s ≤ at = omega (arith, e, length-drop at s) in
    omega (arith, k, i.1, i.2, run_out w s at k, i.3 w t)

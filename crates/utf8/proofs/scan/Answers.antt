use Rattle.std.specs.Prelude.{◌≡◌, true, false}
use native.Mathlib.Omega.{arith}
use mathlib.Core.Path.{sym, ap, ◌∙◌}
use Rattle.utf8.specs.Utf8.{is_utf8, char_count}
use Rattle.utf8.proofs.Laws.{char_at, step_bad, step_end, utf8_nil, count_bad, count_nil}
use Rattle.utf8.proofs.scan.Goals as goal

pub loop-code-preserved : goal.loop-code-preserved
loop-code-preserved c =
    let i = c.loop-code.invariant in
    let n = rw (c.in-Some-code.is, i.0) at c.in-Some.ensures.steps in
    let d = char_at _ _ _ _ n.1.1.1 in
    (n.0, rw n.1.1.2 (sym d.0 ∙ i.1), rw n.1.1.2 (omega (arith, i.2, d.1)), omega (arith, i.3, n.1.1.2, d.2))

pub returns-in-None-code : goal.returns-in-None-code
returns-in-None-code c =
    let i = c.loop-code.invariant in
    let n = rw (c.in-None-code.is, i.0) at c.in-Some.ensures.steps in
    let u : is_utf8 c.args.s.now ≡ false = sym i.1 ∙ step_bad _ n.1.1 in
    let k : c.loop-code.chars ≡ char_count c.args.s.now = omega (arith, i.2, count_bad _ n.1.1) in
    rw u cc

pub returns : goal.returns
returns c =
    let i = c.loop-code.invariant in
    let e = step_end _ (rw i.0 at c.in-None.ensures.steps.1).0 in
    let u : is_utf8 c.args.s.now ≡ true = sym i.1 ∙ ap is_utf8 e ∙ utf8_nil in
    let k : c.loop-code.chars ≡ char_count c.args.s.now = omega (arith, i.2, ap char_count e ∙ count_nil) in
    rw u cc

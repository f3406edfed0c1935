use mathlib.Core.Path.{sym, ◌∙◌}
use Rattle.formats.proofs.Laws.{upper_next, upper_fail, upper_bad, upper_nil}
use Rattle.formats.proofs.unoc_upper.Goals as goal

pub returns-in_default : goal.returns-in_default
returns-in_default c = let n = rw c.in_default.is at c.in-Some.ensures.steps.1 in upper_bad _ n.1 ∙ c.loop-code.invariant

pub returns-then-not-is_unoc_upper : goal.returns-then-not-is_unoc_upper
returns-then-not-is_unoc_upper c =
    let n = rw c.in-Some-code.is at c.in-Some.ensures.steps.1 in
    let it = c.loop-code.code-iterator in
    upper_fail it.text.now it.at _ _ n.1.1 (sym c.is_unoc_upper.ensures ∙ c.if-not-is_unoc_upper.true) ∙ c.loop-code.invariant

pub loop-code-preserved : goal.loop-code-preserved
loop-code-preserved c =
    let n = rw c.in-Some-code.is at c.in-Some.ensures.steps in
    let it = c.loop-code.code-iterator in
    rw (n.0, n.1.1.2) (upper_next it.text.now it.at _ _ n.1.1.1 (sym c.is_unoc_upper.ensures ∙ c.if-not-is_unoc_upper.false) ∙ c.loop-code.invariant)

pub returns : goal.returns
returns c = upper_nil _ c.in-None.ensures.steps.1.0 ∙ c.loop-code.invariant

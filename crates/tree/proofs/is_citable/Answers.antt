use mathlib.Core.Path.{◌∙◌}
use mathlib.Core.Bool.{true, false}
use Rattle.utf8.proofs.Laws.{step_end}
use Rattle.tree.proofs.Texts.{citable_begin, citable_bad, citable_end, citable_closing, citable-next}
use Rattle.tree.proofs.is_citable.Goals as goal

pub loop-code-init : goal.loop-code-init
loop-code-init c = let it = c.new-code-items.ensures in rw (c.into_iter-code-iterator.ensures.into_iter_gives, it.0, it.1) (citable_begin _)

pub returns-in_default : goal.returns-in_default
returns-in_default c = let n = rw c.in_default.is at c.in-Some.ensures.steps.1 in citable_bad _ _ n.1 ∙ c.loop-code.invariant

pub returns-then-code-eq93 : goal.returns-then-code-eq93
returns-then-code-eq93 c = let n = rw c.in-Some-code.is at c.in-Some.ensures.steps.1 in citable_closing _ _ _ _ n.1.1 c.if-code-eq93.true ∙ c.loop-code.invariant

pub loop-code-preserved-then-blank : goal.loop-code-preserved-then-blank
loop-code-preserved-then-blank c =
    let n = rw c.in-Some-code.is at c.in-Some.ensures.steps in
    rw (n.0, n.1.1.2, c.is_white-blank.ensures) (citable-next true _ _ _ _ n.1.1.1 c.if-code-eq93.false ∙ rw c.if-blank.true at c.loop-code.invariant)

pub loop-code-preserved : goal.loop-code-preserved
loop-code-preserved c =
    let n = rw c.in-Some-code.is at c.in-Some.ensures.steps in
    rw (n.0, n.1.1.2, c.if-blank.false) (citable-next false _ _ _ _ n.1.1.1 c.if-code-eq93.false ∙ rw c.if-blank.false at c.loop-code.invariant)

pub returns : goal.returns
returns c = citable_end _ _ (step_end _ c.in-None.ensures.steps.1.0) ∙ c.loop-code.invariant

use native.Mathlib.Omega.{arith}
use mathlib.Core.Path.{sym, ◌∙◌}
use Rattle.tree.proofs.Steps as steps
use Rattle.tree.proofs.tiles_at.Goals as goal

pub returns-then-size-eq0 : goal.returns-then-size-eq0
returns-then-size-eq0 c = steps.tiles_dry _ _ _ (omega arith) (omega arith) ∙ c.loop.invariant.2

pub returns-then-y-eq0 : goal.returns-then-y-eq0
returns-then-y-eq0 c = steps.tiles_none _ _ _ _ _ (omega arith) (omega arith) (sym c.get16-y.ensures.0 ∙ c.if-y-eq0.true) ∙ c.loop.invariant.2

pub returns-then-size-y : goal.returns-then-size-y
returns-then-size-y c = steps.tiles-over _ _ _ _ _ (omega arith) (omega arith) (omega (arith, c.get16-y.ensures.0)) ∙ c.loop.invariant.2

pub loop-preserved : goal.loop-preserved
loop-preserved c = (omega arith, omega arith, steps.tiles-next _ _ _ _ _ _ _ _ (omega arith) (omega arith) c.get16-y.ensures.0 (omega arith) (omega arith) (omega arith) ∙ c.loop.invariant.2)

pub returns : goal.returns
returns c = steps.tiles_end _ _ _ (omega arith) ∙ c.loop.invariant.2

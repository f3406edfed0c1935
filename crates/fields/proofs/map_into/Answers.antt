use mathlib.Core.Path.{refl, ap, ◌∙◌}
use native.Mathlib.Omega.{arith}
use lib.Seq.{drop-set-lt}
use Prim.Native.Nat.{◌+◌}
use Rattle.fields.proofs.Appends.{on}
use Rattle.fields.proofs.Mapped.{mapped_next, mapped_all}
use Rattle.fields.proofs.map_into.Goals as goal

pub loop-i-init : goal.loop-i-init
loop-i-init g c = (refl, λ of says. refl)

pub loop-i-preserved : goal.loop-i-preserved
loop-i-preserved g c = let i = c.loop-i.i in (
  drop-set-lt (i + 1) c.loop-i.out i c.made.result (omega arith) ∙ on i (i + 1) _ _ (omega arith) c.loop-i.invariant.0,
  λ of says.
      mapped_next of c.args.items.now c.loop-i.out i c.index-items-i.result c.made.result c.loop-i-test.true (omega (arith, c.requires.1, c.loop-i.auto.out, c.loop-i-test.true))
      (says c.index-items-i.result c.made.result c.made.ensures ∙ ap of c.index-items-i.is) (c.loop-i.invariant.1 of says),
)

pub returns-clause-front : goal.returns-clause-front
returns-clause-front g c of says = mapped_all of c.args.items.now c.loop-i.out c.loop-i.i c.loop-i-test.false c.loop-i.auto.i-end (c.loop-i.invariant.1 of says)

pub returns-clause-rest : goal.returns-clause-rest
returns-clause-rest g c = on c.loop-i.i _ _ _ (omega (arith, c.loop-i-test.false, c.loop-i.auto.i-end)) c.loop-i.invariant.0

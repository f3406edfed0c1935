use native.Mathlib.Omega.{arith}
use Prim.Native.Nat.{◌+◌, ◌-◌}
use mathlib.Core.Path.{refl, sym, ◌∙◌}
use Rattle.tree.proofs.Plain.{plain_part}
use Rattle.tree.proofs.Steps as steps
use Rattle.tree.proofs.cites_ok.Goals as goal

pub returns-then-base-o : goal.returns-then-base-o
returns-then-base-o c = steps.cite_off _ _ _ _ (omega arith) (λ e. omega (arith, c.get16-o.ensures.0, c.if-base-o.true, e, c.requires.0)) ∙ c.loop-i.invariant.1

pub returns-then-tree-p : goal.returns-then-tree-p
returns-then-tree-p c = steps.cite_long _ _ _ _ (omega arith) (omega (arith, c.get16-n.ensures.0)) ∙ c.loop-i.invariant.1

pub text_ok-requires : goal.text_ok-requires
text_ok-requires c = let a = c.args in
    plain_part a.plain a.tree.now a.base c.loop-i.p (c.loop-i.p + c.get16-n.result - c.loop-i.p) c.loop-i.invariant.2 c.requires.3

pub returns-then-not-text_ok : goal.returns-then-not-text_ok
returns-then-not-text_ok c = steps.cite_text _ _ _ _ _ (omega arith) c.get16-n.ensures.0
    (sym (c.text_ok.ensures ∙ steps.part_size c.loop-i.p c.get16-n.result c.args.tree.now) ∙ c.if-not-text_ok.true)
    ∙ c.loop-i.invariant.1

pub loop-i-preserved : goal.loop-i-preserved
loop-i-preserved c = (
  omega arith,
  steps.cite_next _ _ _ _ _ _ _ _ (omega arith) (omega arith) (omega (arith, c.get16-o.ensures.0, c.if-base-o.false, c.requires.0)) c.get16-n.ensures.0 refl (omega arith)
      (sym (c.text_ok.ensures ∙ steps.part_size c.loop-i.p c.get16-n.result c.args.tree.now) ∙ c.if-not-text_ok.false)
      ∙ c.loop-i.invariant.1,
  omega (arith, c.loop-i.invariant.2),
)

pub returns : goal.returns
returns c = steps.cite_end_lem _ _ _ _ (omega arith) ∙ c.loop-i.invariant.1

use native.Mathlib.Omega.{arith}
use mathlib.Core.Bool.{◌||◌}
use mathlib.Core.Path.{sym, ap, ◌∙◌}
use Rattle.tree.proofs.Walks.{next_given}
use Rattle.presence.proofs.Marks.{said_gating, said_kept}
use Rattle.presence.proofs.Walks.{mixing_begins, mixing_from, mixing_turns, mixing_gated, mixing_open, no_choice, ready_marked}
use Rattle.presence.proofs.Evaluation.mixed.Goals as goal

pub loop-child-init : goal.loop-child-init
loop-child-init c =
    let it = c.children-child-items.ensures in
    rw (c.into_iter-child-iterator.ensures.into_iter_gives, it.1) (it.0, mixing_begins _ c.args.self.now.tree.tested c.args.row _ c.requires.0 (λ q. no_choice _ (c.requires.1 ∙ q) (sym c.is_choice.ensures ∙ c.if-not-is_choice.false)) it.2)

pub bounds-self-child : goal.bounds-self-child
bounds-self-child c = let g = c.in-Some.ensures.steps in omega (arith, (next_given _ c.args.self.now.tree.tested c.loop-child.invariant.1.walk g.0 g.1).inside, c.args.self.now.ready.room)

pub bounds-self-child-in-loop-child : goal.bounds-self-child-in-loop-child
bounds-self-child-in-loop-child c = let g = c.in-Some.ensures.steps in omega (arith, (next_given _ c.args.self.now.tree.tested c.loop-child.invariant.1.walk g.0 g.1).inside, c.args.self.now.ready.room)

pub loop-child-preserved : goal.loop-child-preserved
loop-child-preserved c =
    let i = c.loop-child.invariant in
    let g = c.in-Some.ensures.steps in
    (g.2 ∙ i.0, rw (g.4, g.3, i.0) (mixing_turns _ c.args.self.now.tree.tested _ _ _ _ _ _ (ready_marked _ _ c.args.row _ c.args.self.now.ready c.requires.0 c.requires.1 (sym c.is_choice.ensures ∙ c.if-not-is_choice.false)) (mixing_from i.1 g.0) g.1 _ _ (ap (λ x. c.loop-child.gate || x) (c.eq-gate.ensures ∙ said_gating _)) (ap (λ x. c.loop-child.free || x) (c.eq-free.ensures ∙ said_kept _))))

pub returns-then-gate : goal.returns-then-gate
returns-then-gate c = rw (sym c.is_choice.ensures ∙ c.if-not-is_choice.false) (mixing_gated _ _ _ _ _ _ c.loop-child.invariant.1 (omega (arith, c.in-None.ensures.steps.0)) c.if-gate.true)

pub returns-else-gate : goal.returns-else-gate
returns-else-gate c = rw (sym c.is_choice.ensures ∙ c.if-not-is_choice.false) (mixing_open _ _ _ _ _ _ c.loop-child.invariant.1 (omega (arith, c.in-None.ensures.steps.0)) c.if-gate.false)

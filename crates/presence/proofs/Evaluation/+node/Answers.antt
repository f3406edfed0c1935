use Rattle.std.specs.Prelude.{Ok}
use Rattle.std.proofs.lemmas.Result.{err_from_is_err_and}
use native.Mathlib.Omega.{arith}
use Rattle.grammar.specs.contracts.NodeKind.{the_type}
use denote.Enum.Bare.{same_true, same_false}
use mathlib.Core.Path.{sym, ap, ◌∙◌}
use Rattle.tree.proofs.Walks.{leaf, next_given}
use Rattle.presence.proofs.Walks.{evaluating_begins, evaluating_from, evaluating_drops, evaluating_adds, evaluating_stops, evaluating_ends, leaf_answer, mixed_answer, ready_marked}
use Rattle.presence.proofs.Evaluation.+node.Goals as goal

pub returns-then-mixed : goal.returns-then-mixed
returns-then-mixed t c = mixed_answer _ c.args.self.now.answers.now c.args.row _ c.kind_at-kind.ensures (sym c.mixed.ensures ∙ c.if-mixed.true)

pub loop-at-init : goal.loop-at-init
loop-at-init t c =
    let it = c.children-at-items.ensures in
    rw (c.into_iter-at-iterator.ensures.into_iter_gives, it.1) (it.0, evaluating_begins _ _ c.args.self.now.tree.tested c.args.row _ _ c.requires.0 c.kind_at-kind.ensures (λ q. c.requires.1 (sym c.kind_at-kind.ensures ∙ q)) it.2 (sym c.mixed.ensures ∙ c.if-mixed.false) _ c.new-tally.ensures)

pub bounds-marks-at : goal.bounds-marks-at
bounds-marks-at t c =
    let g = c.in-Some.ensures.steps in
    let n = next_given _ c.args.self.now.tree.tested c.loop-at.invariant.1.walk g.0 g.1 in
    omega (arith, n.inside, c.args.self.now.ready.room)

pub loop-at-preserved-then-drops : goal.loop-at-preserved-then-drops
loop-at-preserved-then-drops t c =
    let i = c.loop-at.invariant in
    let g = c.in-Some.ensures.steps in
    (g.2 ∙ i.0, rw (g.4, g.3, i.0) (evaluating_drops _ _ c.args.self.now.tree.tested _ _ _ _ _ (evaluating_from i.1 g.0) g.1 _ (ready_marked _ _ c.args.row _ c.args.self.now.ready c.requires.0 c.kind_at-kind.ensures) (sym c.drops.ensures ∙ c.if-drops.true)))

pub kind_at-requires : goal.kind_at-requires
kind_at-requires t c =
    let g = c.in-Some.ensures.steps in
    let n = next_given _ c.args.self.now.tree.tested c.loop-at.invariant.1.walk g.0 g.1 in
    n.inside

pub number_at-requires : goal.number_at-requires
number_at-requires t c =
    let g = c.in-Some.ensures.steps in
    let n = next_given _ c.args.self.now.tree.tested c.loop-at.invariant.1.walk g.0 g.1 in
    n.inside

pub answer_at-requires : goal.answer_at-requires
answer_at-requires t c =
    let g = c.in-Some.ensures.steps in
    let n = next_given _ c.args.self.now.tree.tested c.loop-at.invariant.1.walk g.0 g.1 in
    let f = leaf _ c.args.self.now.tree.tested _ n.inside (sym c.kind_at.ensures ∙ same_true the_type tt _ _ (sym c.eq.ensures ∙ c.if-eq.true)) in
    omega (arith, f.number, c.number_at.ensures.0, c.args.self.now.answered)

pub returns-in_err-answer_at : goal.returns-in_err-answer_at
returns-in_err-answer_at t c =
    let p = err_from_is_err_and c.from_residual.result c.from_residual.ensures.1 in
    let g = c.in-Some.ensures.steps in
    let n = next_given _ c.args.self.now.tree.tested c.loop-at.invariant.1.walk g.0 g.1 in
    rw (p.1, p.2)
    (evaluating_stops _ _ c.args.self.now.tree.tested _ _ _ _ _ (evaluating_from c.loop-at.invariant.1 c.in-Some.ensures.steps.0) c.in-Some.ensures.steps.1 _ (ready_marked _ _ c.args.row _ c.args.self.now.ready c.requires.0 c.kind_at-kind.ensures) (sym c.drops.ensures ∙ c.if-drops.false) _
    (sym (c.answer_at.ensures ∙ leaf_answer _ c.args.self.now.answers.now c.args.self.now.tree.tested _ n.inside (sym c.kind_at.ensures ∙ same_true the_type tt _ _ (sym c.eq.ensures ∙ c.if-eq.true)) _ c.number_at.ensures.0) ∙ c.in_err-answer_at.was))

pub loop-at-preserved-then-eq : goal.loop-at-preserved-then-eq
loop-at-preserved-then-eq t c =
    let i = c.loop-at.invariant in
    let g = c.in-Some.ensures.steps in
    let n = next_given _ c.args.self.now.tree.tested c.loop-at.invariant.1.walk g.0 g.1 in (
      g.2 ∙ i.0,
      rw (g.4, g.3, i.0) (evaluating_adds _ _ c.args.self.now.tree.tested _ _ _ _ _ (evaluating_from i.1 g.0) g.1 _ (ready_marked _ _ c.args.row _ c.args.self.now.ready c.requires.0 c.kind_at-kind.ensures) (sym c.drops.ensures ∙ c.if-drops.false) _ _
          (sym (c.answer_at.ensures ∙ leaf_answer _ c.args.self.now.answers.now c.args.self.now.tree.tested _ n.inside (sym c.kind_at.ensures ∙ same_true the_type tt _ _ (sym c.eq.ensures ∙ c.if-eq.true)) _ c.number_at.ensures.0) ∙ c.in_ok-answer_at.was) c.add-tally.ensures),
    )

pub node-requires : goal.node-requires
node-requires t c =
    let g = c.in-Some.ensures.steps in
    let n = next_given _ c.args.self.now.tree.tested c.loop-at.invariant.1.walk g.0 g.1 in
    (omega (arith, n.shrinks, c.decreases), (n.inside, λ q. same_false the_type _ _ (sym c.eq.ensures ∙ c.if-eq.false) (c.kind_at.ensures ∙ q)))

pub returns-in_err-node : goal.returns-in_err-node
returns-in_err-node t c =
    let p = err_from_is_err_and c.from_residual-in_err-node.result c.from_residual-in_err-node.ensures.1 in
    rw (p.1, p.2)
    (evaluating_stops _ _ c.args.self.now.tree.tested _ _ _ _ _ (evaluating_from c.loop-at.invariant.1 c.in-Some.ensures.steps.0) c.in-Some.ensures.steps.1 _ (ready_marked _ _ c.args.row _ c.args.self.now.ready c.requires.0 c.kind_at-kind.ensures) (sym c.drops.ensures ∙ c.if-drops.false) _ (sym c.node.ensures ∙ c.in_err-node.was))

pub loop-at-preserved : goal.loop-at-preserved
loop-at-preserved t c =
    let i = c.loop-at.invariant in
    let g = c.in-Some.ensures.steps in (
      g.2 ∙ i.0,
      rw (g.4, g.3, i.0) (evaluating_adds _ _ c.args.self.now.tree.tested _ _ _ _ _ (evaluating_from i.1 g.0) g.1 _ (ready_marked _ _ c.args.row _ c.args.self.now.ready c.requires.0 c.kind_at-kind.ensures) (sym c.drops.ensures ∙ c.if-drops.false) _ _
          (sym c.node.ensures ∙ c.in_ok-node.was) c.add-tally-in-loop-at.ensures),
    )

pub returns : goal.returns
returns t c = ap Ok c.rule.ensures ∙ evaluating_ends _ _ _ _ _ _ _ c.loop-at.invariant.1 (omega (arith, c.in-None.ensures.steps.0))

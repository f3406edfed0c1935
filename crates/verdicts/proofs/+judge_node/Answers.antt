use mathlib.Core.Path.{sym, ◌∙◌}
use native.Mathlib.Omega.{arith}
use lib.ListN.{length}
use denote.Enum.Bare.{same_true, same_false}
use Rattle.grammar.specs.contracts.NodeKind.{the_type as kinds}
use Rattle.verdicts.proofs.Laws as laws
use Rattle.verdicts.proofs.+judge_node.Goals as goal

pub loop-child-init : goal.loop-child-init
loop-child-init t c =
    let b = c.requires in
    let it = c.children-child-items.ensures in
    rw (c.into_iter-child-iterator.ensures.into_iter_gives, it.1)
    (it.0, laws.state_begins c.args.truths.now c.args.tree.bytes.now c.args.tree.tested _ _ _ _ _ b.0 b.3 it.2 c.new-tally.ensures b.2)

pub kind_at-requires : goal.kind_at-requires
kind_at-requires t c = let g = c.in-Some.ensures.steps in (laws.state_next c.args.truths.now c.args.tree.bytes.now c.args.tree.tested (laws.state_from c.loop-child.invariant.1 g.0) g.1).inside

pub number_at-requires : goal.number_at-requires
number_at-requires t c = let g = c.in-Some.ensures.steps in (laws.state_next c.args.truths.now c.args.tree.bytes.now c.args.tree.tested (laws.state_from c.loop-child.invariant.1 g.0) g.1).inside

pub judge_cited-cited-requires : goal.judge_cited-cited-requires
judge_cited-cited-requires t c =
    let b = c.requires in
    let g = c.in-Some.ensures.steps in
    let s = laws.state_from c.loop-child.invariant.1 g.0 in
    let n = laws.state_next c.args.truths.now c.args.tree.bytes.now c.args.tree.tested s g.1 in
    let l = laws.leaf_asked c.args.truths.now c.args.tree.bytes.now c.args.tree.tested _ _ _ (length c.loop-child.list) n.inside (sym c.kind_at.ensures ∙ same_true kinds tt _ _ (sym c.eq.ensures ∙ c.if-eq.true)) c.number_at.ensures.0 b.1.truths (omega (arith, b.1.numbers, s.kept)) s.low in
    (l.0, c.number_at.ensures.1, l.1)

pub loop-child-preserved-then-eq : goal.loop-child-preserved-then-eq
loop-child-preserved-then-eq t c =
    let i = c.loop-child.invariant in
    let g = c.in-Some.ensures.steps in
    let s = laws.state_from i.1 g.0 in
    let n = laws.state_next c.args.truths.now c.args.tree.bytes.now c.args.tree.tested s g.1 in
    let j = laws.leaf_judged c.args.truths.now c.args.tree.bytes.now c.args.tree.tested n.inside (sym c.kind_at.ensures ∙ same_true kinds tt _ _ (sym c.eq.ensures ∙ c.if-eq.true)) c.number_at.ensures.0 c.judge_cited-cited.ensures in
    (g.2 ∙ i.0, rw (g.4, g.3, i.0) (laws.state_again c.args.truths.now c.args.tree.bytes.now c.args.tree.tested s g.1 _ j c.judge_cited-cited.auto.list c.add-tally.ensures))

pub judge_node-here-requires : goal.judge_node-here-requires
judge_node-here-requires t c =
    let b = c.requires in
    let g = c.in-Some.ensures.steps in
    let s = laws.state_from c.loop-child.invariant.1 g.0 in
    let n = laws.state_next c.args.truths.now c.args.tree.bytes.now c.args.tree.tested s g.1 in
    (omega (arith, c.decreases, n.shrinks), (n.inside, record { truths = b.1.truths; numbers = omega (arith, b.1.numbers, s.kept) }, s.low, λ q. same_false kinds _ _ (sym c.eq.ensures ∙ c.if-eq.false) (c.kind_at.ensures ∙ q)))

pub loop-child-preserved : goal.loop-child-preserved
loop-child-preserved t c =
    let i = c.loop-child.invariant in
    let g = c.in-Some.ensures.steps in
    (g.2 ∙ i.0, rw (g.4, g.3, i.0) (laws.state_again c.args.truths.now c.args.tree.bytes.now c.args.tree.tested (laws.state_from i.1 g.0) g.1 _ c.judge_node-here.ensures c.judge_node-here.auto.list c.add-tally-in-loop-child.ensures))

pub returns-then-eq-2 : goal.returns-then-eq-2
returns-then-eq-2 t c =
    laws.state_keeps c.args.truths.now c.args.tree.bytes.now c.args.tree.tested c.loop-child.invariant.1 (omega (arith, c.in-None.ensures.steps.0)) _ c.kind_at-kind.ensures (λ q. c.requires.3 (sym c.kind_at-kind.ensures ∙ q)) _ c.node_truth-truth.ensures c.eq-2.ensures c.if-eq-2.true

pub returns : goal.returns
returns t c =
    let b = c.requires in
    laws.state_drops c.args.truths.now c.args.tree.bytes.now c.args.tree.tested c.loop-child.invariant.1 (omega (arith, c.in-None.ensures.steps.0)) _ c.kind_at-kind.ensures (λ q. b.3 (sym c.kind_at-kind.ensures ∙ q)) _ c.node_truth-truth.ensures c.eq-2.ensures c.if-eq-2.false
    (laws.placed c.args.truths.now c.args.tree.bytes.now c.args.tree.tested _ _ _ b.1.numbers b.2)

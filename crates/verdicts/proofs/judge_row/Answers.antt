use mathlib.Core.Path.{sym, ◌∙◌}
use lib.ListN.{length}
use denote.Enum.Bare.{same_true, same_false}
use Rattle.grammar.specs.contracts.NodeKind.{the_type as kinds}
use Rattle.verdicts.proofs.Laws as laws
use Rattle.verdicts.proofs.judge_row.Goals as goal

pub judge_cited-requires : goal.judge_cited-requires
judge_cited-requires c =
    let b = c.requires in
    let l = laws.leaf_asked c.args.truths.now c.args.tree.bytes.now c.args.tree.tested _ _ _ (length c.args.list.now) b.0 (sym c.kind_at.ensures ∙ same_true kinds tt _ _ (sym c.eq.ensures ∙ c.if-eq.true)) c.number_at.ensures.0 b.1.truths b.1.numbers b.2 in
    (l.0, c.number_at.ensures.1, l.1)

pub returns-then-eq : goal.returns-then-eq
returns-then-eq c =
    laws.leaf_judged c.args.truths.now c.args.tree.bytes.now c.args.tree.tested c.requires.0 (sym c.kind_at.ensures ∙ same_true kinds tt _ _ (sym c.eq.ensures ∙ c.if-eq.true)) c.number_at.ensures.0 c.judge_cited.ensures

pub judge_node-requires : goal.judge_node-requires
judge_node-requires c = let b = c.requires in (b.0, b.1, b.2, λ q. same_false kinds _ _ (sym c.eq.ensures ∙ c.if-eq.false) (c.kind_at.ensures ∙ q))

use Rattle.citation.specs.Kinds.{kind_of}
use native.Mathlib.Omega.{arith}
use Rattle.grammar.specs.contracts.NodeKind.{the_type}
use denote.Enum.Bare.{same_true, same_false}
use mathlib.Core.Path.{sym, ap, ◌∙◌}
use lib.ListN.{get_or}
use Rattle.presence.specs.declared.Mark.TheVariants.{Dropped}
use Rattle.tree.proofs.Walks.{leaf, next_given}
use Rattle.presence.specs.Marks.{mark_of_kind}
use Rattle.presence.proofs.Marks.{said_larger}
use Rattle.presence.proofs.Walks.{mark_leaf, marking_begins, marking_from, marking_turns, marking_ends}
use Rattle.presence.proofs.mark_row.Goals as goal

pub text_at-requires : goal.text_at-requires
text_at-requires c = let f = leaf _ c.args.tree.tested c.args.row c.requires.0 (sym c.kind_at.ensures ∙ same_true the_type tt _ _ (sym c.eq.ensures ∙ c.if-eq.true)) in omega (arith, f.number, c.number_at.ensures.0)

pub returns-then-eq : goal.returns-then-eq
returns-then-eq c = c.from.ensures ∙ ap mark_of_kind (c.of_text.ensures ∙ ap kind_of c.text_at.ensures) ∙ mark_leaf _ c.args.tree.tested c.args.row c.requires.0 (sym c.kind_at.ensures ∙ same_true the_type tt _ _ (sym c.eq.ensures ∙ c.if-eq.true)) _ c.number_at.ensures.0

pub loop-child-init : goal.loop-child-init
loop-child-init c =
    let it = c.children-child-items.ensures in
    rw (c.into_iter-child-iterator.ensures.into_iter_gives, it.1) (it.0, marking_begins _ c.args.tree.tested c.args.row _ c.requires.0 (λ q. same_false the_type _ _ (sym c.eq.ensures ∙ c.if-eq.false) (c.kind_at.ensures ∙ q)) it.2)

pub bounds-marks-child : goal.bounds-marks-child
bounds-marks-child c = let g = c.in-Some.ensures.steps in omega (arith, (next_given _ c.args.tree.tested c.loop-child.invariant.1.walk g.0 g.1).inside, c.requires.1.room)

pub loop-child-preserved : goal.loop-child-preserved
loop-child-preserved c =
    let i = c.loop-child.invariant in
    let g = c.in-Some.ensures.steps in
    (g.2 ∙ i.0, rw (g.4, g.3, i.0) (marking_turns _ c.args.tree.tested _ _ _ _ _ c.requires.1 (marking_from i.1 g.0) g.1 _ (c.max-mark.ensures ∙ said_larger c.loop-child.mark (get_or c.args.marks.now c.in-Some.child Dropped))))

pub returns : goal.returns
returns c = marking_ends _ _ _ _ _ c.loop-child.invariant.1 (omega (arith, c.in-None.ensures.steps.0))

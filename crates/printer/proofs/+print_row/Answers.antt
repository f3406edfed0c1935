use native.Mathlib.Omega.{arith}
use mathlib.Core.Path.{sym, ◌∙◌}
use denote.Enum.Bare.{same_true, same_false}
use Rattle.grammar.specs.contracts.NodeKind.{the_type}
use Rattle.fields.proofs.Appends as appends
use Rattle.printer.proofs.Walks as walks
use Rattle.printer.proofs.+print_row.Goals as goal

pub put_cite-requires : goal.put_cite-requires
put_cite-requires t c = let p = c.requires in let h = c.args.tree.tested in
    let f = walks.word _ h _ _ _ p.0 c.kind_at-kind.ensures c.number_at.ensures.0 (same_true the_type tt _ _ (sym c.eq.ensures ∙ c.if-eq.true)) in
    (f.inside, omega (arith, f.room, p.1))

pub returns-then-eq : goal.returns-then-eq
returns-then-eq t c = let p = c.requires in let h = c.args.tree.tested in
    let f = walks.word _ h _ _ _ p.0 c.kind_at-kind.ensures c.number_at.ensures.0 (same_true the_type tt _ _ (sym c.eq.ensures ∙ c.if-eq.true)) in
    appends.same (sym f.is) c.put_cite.ensures

pub loop-child-init : goal.loop-child-init
loop-child-init t c =
    let it = c.children-child-items.ensures in
    rw (c.into_iter-child-iterator.ensures.into_iter_gives, it.1) (it.0, walks.begins _ c.args.tree.tested _ _ _ _ _ c.requires.0 c.kind_at-kind.ensures it.2 (same_false the_type _ _ (sym c.eq.ensures ∙ c.if-eq.false)))

pub kind_at-inner-requires : goal.kind_at-inner-requires
kind_at-inner-requires t c =
    let g = c.in-Some.ensures.steps in
    (walks.turn _ c.args.tree.tested (walks.state_from c.loop-child.invariant.1 g.0) g.1).next.inside

pub put_separator-w-requires : goal.put_separator-w-requires
put_separator-w-requires t c =
    let p = c.requires in
    let g = c.in-Some.ensures.steps in
    let s = walks.state_from c.loop-child.invariant.1 g.0 in
    let len = walks.lengths _ c.args.tree.tested s g.1 _ c.kind_at-inner.ensures in
    omega (arith, len, p.1, s.stands.ends, s.long)

pub put_paren-w-requires : goal.put_paren-w-requires
put_paren-w-requires t c =
    let p = c.requires in
    let g = c.in-Some.ensures.steps in
    let s = walks.state_from c.loop-child.invariant.1 g.0 in
    let len = walks.lengths _ c.args.tree.tested s g.1 _ c.kind_at-inner.ensures in
    omega (arith, len, p.1, s.stands.ends, s.long, c.put_separator-w.ensures.ends)

pub print_row-w-requires : goal.print_row-w-requires
print_row-w-requires t c =
    let p = c.requires in
    let g = c.in-Some.ensures.steps in
    let s = walks.state_from c.loop-child.invariant.1 g.0 in
    let len = walks.lengths _ c.args.tree.tested s g.1 _ c.kind_at-inner.ensures in
    let n = walks.turn _ c.args.tree.tested s g.1 in
    (omega (arith, c.decreases, n.next.shrinks), (n.next.inside, omega (arith, len, p.1, s.stands.ends, s.long, c.put_separator-w.ensures.ends, c.put_paren-w.ensures.ends)))

pub put_paren-w-requires-in-loop-child : goal.put_paren-w-requires-in-loop-child
put_paren-w-requires-in-loop-child t c =
    let p = c.requires in
    let g = c.in-Some.ensures.steps in
    let s = walks.state_from c.loop-child.invariant.1 g.0 in
    let len = walks.lengths _ c.args.tree.tested s g.1 _ c.kind_at-inner.ensures in
    omega (arith, len, p.1, s.stands.ends, s.long, c.put_separator-w.ensures.ends, c.put_paren-w.ensures.ends, c.print_row-w.ensures.ends)

pub loop-child-preserved : goal.loop-child-preserved
loop-child-preserved t c =
    let i = c.loop-child.invariant in
    let g = c.in-Some.ensures.steps in
    (g.2 ∙ i.0, rw (g.4, g.3, i.0) (walks.again _ c.args.tree.tested (walks.state_from i.1 g.0) g.1 _ c.kind_at-inner.ensures c.put_separator-w.ensures c.put_paren-w.ensures c.print_row-w.ensures c.put_paren-w-in-loop-child.ensures (omega (arith))))

pub returns : goal.returns
returns t c = walks.finish _ c.loop-child.invariant.1 c.in-None.ensures.steps.0

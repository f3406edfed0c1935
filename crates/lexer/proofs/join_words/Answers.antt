use native.Mathlib.Omega.{arith}
use mathlib.Core.Path.{refl, ◌∙◌}
use Rattle.lexer.proofs.Joining.{joining_start, word_room, joining_on, joining_end}
use Rattle.lexer.proofs.join_words.Goals as goal

pub loop-word-init : goal.loop-word-init
loop-word-init c = rw (c.into_iter-word-iterator.ensures.into_iter_gives) (refl, refl, joining_start c.args.text.now c.args.out.now c.args.from c.requires.0 c.requires.2)

pub slice_bounds-put_text-end : goal.slice_bounds-put_text-end
slice_bounds-put_text-end c =
    let i = c.loop-word.invariant in
    let g = rw i.0 at c.in-Some.ensures.steps.1 in
    omega (arith, g.2, word_room i.2 _ g.0 _ g.1 g.2)

pub loop-word-preserved : goal.loop-word-preserved
loop-word-preserved c =
    let i = c.loop-word.invariant in
    let s = c.in-Some.ensures.steps in
    let g = rw i.0 at s.1 in
    (s.0 ∙ i.0, omega (arith, i.1), rw g.3 (joining_on i.2 _ g.0 _ g.1 g.2 _ _ _ _ c.add_gap-to.ensures c.put_text-n.ensures))

pub returns : goal.returns
returns c =
    let i = c.loop-word.invariant in
    let d = joining_end i.2 (rw i.0 at c.in-None.ensures.steps.1).0 in
    record { value = d.0; out_after = d.1 }

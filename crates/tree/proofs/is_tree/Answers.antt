use native.Mathlib.Omega.{arith}
use mathlib.Core.Path.{sym, ◌∙◌}
use Rattle.grammar.specs.Trees.{headed}
use Rattle.tree.proofs.Plain.{plain_rest}
use Rattle.tree.proofs.Steps.{tree_head, tree_root, tree_rows, tree_last}
use Rattle.tree.proofs.is_tree.Goals as goal

pub returns-then-not-head_ok : goal.returns-then-not-head_ok
returns-then-not-head_ok c = tree_head _ 0 0 (sym c.head_ok.ensures ∙ c.if-not-head_ok.true)

pub get16-n-requires : goal.get16-n-requires
get16-n-requires c = let k = headed _ (sym c.head_ok.ensures ∙ c.if-not-head_ok.false) in omega (arith, k.long)

pub get16-c-requires : goal.get16-c-requires
get16-c-requires c = let k = headed _ (sym c.head_ok.ensures ∙ c.if-not-head_ok.false) in omega (arith, k.long)

pub tiles_at-requires : goal.tiles_at-requires
tiles_at-requires c = let k = headed _ (sym c.head_ok.ensures ∙ c.if-not-head_ok.false) in (omega arith, omega (arith, k.inside, c.get16-n.ensures.0))

pub returns-then-not-tiles_at : goal.returns-then-not-tiles_at
returns-then-not-tiles_at c = tree_root _ _ 0 c.get16-n.ensures.0 (sym c.tiles_at.ensures ∙ c.if-not-tiles_at.true)

pub rows_ok-requires : goal.rows_ok-requires
rows_ok-requires c = let k = headed _ (sym c.head_ok.ensures ∙ c.if-not-head_ok.false) in (omega (arith, k.inside, c.get16-n.ensures.0), c.get16-n.ensures.1)

pub returns-then-not-rows_ok : goal.returns-then-not-rows_ok
returns-then-not-rows_ok c = tree_rows _ _ _ c.get16-n.ensures.0 c.get16-c.ensures.0 (sym c.rows_ok.ensures ∙ c.if-not-rows_ok.true)

pub slice_bounds-all_plain-count : goal.slice_bounds-all_plain-count
slice_bounds-all_plain-count c = let k = headed _ (sym c.head_ok.ensures ∙ c.if-not-head_ok.false) in omega (arith, k.inside, c.get16-n.ensures.0, c.get16-c.ensures.0)

pub slice_bounds-all_plain-start : goal.slice_bounds-all_plain-start
slice_bounds-all_plain-start c = let k = headed _ (sym c.head_ok.ensures ∙ c.if-not-head_ok.false) in omega (arith, k.inside, c.get16-n.ensures.0, c.get16-c.ensures.0)

pub cites_ok-requires : goal.cites_ok-requires
cites_ok-requires c = let k = headed _ (sym c.head_ok.ensures ∙ c.if-not-head_ok.false) in
    let n = c.get16-n.ensures.0 in
    let m = c.get16-c.ensures.0 in
    (omega (arith, n, m), omega (arith, k.inside, n, m), omega (arith, k.inside, n, m), plain_rest _ c.args.tree.now _ c.all_plain-plain.ensures)

pub returns : goal.returns
returns c = c.cites_ok.ensures
    ∙ tree_last _ _ _ c.get16-n.ensures.0 c.get16-c.ensures.0 (sym c.head_ok.ensures ∙ c.if-not-head_ok.false) (sym c.tiles_at.ensures ∙ c.if-not-tiles_at.false) (sym c.rows_ok.ensures ∙ c.if-not-rows_ok.false)

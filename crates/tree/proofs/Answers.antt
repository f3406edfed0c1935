-- What `cited` answers, and that the text stands there. Assumes nothing.
use Rattle.std.specs.Prelude.{Ok, Err, Some, None}
use mathlib.Core.Path.{◌≡◌, sym, ap}
use mathlib.Core.List.{List, []}
use mathlib.Core.Bool.{true, false}
use Prim.Native.Nat.{ℕ, ◌≤◌, ◌<◌}
use native.Mathlib.Omega.{arith}
use lib.ListN.{length, get_or, take, drop}
use borrow.Author.Tests.{lt-ltb, le-ltb}
use Rattle.refusal.specs.Result.{map_ok, unless_ok}
use Rattle.refusal.specs.declared.Refusal.TheVariants.{NotATree}
use Rattle.grammar.specs.Expr.{Expr, citations, count}
use Rattle.grammar.specs.Bytes.{cites, is_tree, tree_at, tree_of}
use Rattle.grammar.proofs.Steps.{ok_same}
use Rattle.tree.specs.Walk.{text_at, text_from, text_size}
use Rattle.tree.specs.Cited.{place_of, cited_place, cited_answer}
use Rattle.tree.proofs.Cites.{text_from_lem, text_size_lem, text_is}
use Rattle.tree.proofs.Walks.{root, no-tree}

-- not a tree
pub cited-refused : (b : List ℕ) (n : ℕ) → is_tree b ≡ false → Err NotATree ≡ cited_answer b n
unfolding cited_answer map_ok
cited-refused b n h = rw (no-tree b h)

place_is : (b : List ℕ) → is_tree b ≡ true → (n : ℕ) → n < cites b → place_of (tree_at b 0) n ≡ text_from b n
place_is b h n l = let r = root b h in rw (r.size, r.counts, r.cited) (sym (text_from_lem b h n l))

text-there : (b : List ℕ) → is_tree b ≡ true → (n : ℕ) → get_or (citations (tree_at b 0)) n [] ≡ text_at b n
unfolding text_at
text-there b h n = ap (λ x. get_or x n []) (root b h).cited

-- no such citation
pub cited-absent : (b : List ℕ) (n : ℕ) → is_tree b ≡ true → cites b ≤ n → Ok None ≡ cited_answer b n
unfolding cited_answer cited_place map_ok
cited-absent b n h l = let r = root b h in rw (r.is, le-ltb n (count (tree_at b 0)) (omega (arith, r.counts)))

-- the place of the text
pub cited_at : (b : List ℕ) (n start size : ℕ) → is_tree b ≡ true → n < cites b → start ≡ text_from b n → size ≡ text_size b n → Ok (Some (start, size)) ≡ cited_answer b n
unfolding cited_answer cited_place map_ok
cited_at b n start size h l e f =
    let r = root b h in
    rw (r.is, lt-ltb n (count (tree_at b 0)) (omega (arith, r.counts)), place_is b h n l, text-there b h n, text_size_lem b h n l, e, f)

-- the text stands at its place
pub cited-text : (b : List ℕ) (e : Expr) (n : ℕ) → tree_of b ≡ Ok e → n < count e → take (length (get_or (citations e) n [])) (drop (place_of e n) b) ≡ get_or (citations e) n []
unfolding tree_of
cited-text b e n h l =
    let t = unless_ok (is_tree b) NotATree (Ok (tree_at b 0)) e h in
    let same : tree_at b 0 ≡ e = ok_same (tree_at b 0) e t.1 in
    let r = root b t.0 in
    let inside : n < cites b = omega (arith, r.counts, ap count same) in
    rw (← same, text-there b t.0 n, place_is b t.0 n inside, text_size_lem b t.0 n inside) (sym (text_is b t.0 n inside))

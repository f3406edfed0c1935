-- The answer of `display` and the lent bytes. Assumes nothing.
use Rattle.std.specs.Prelude.{Ok, Err}
use mathlib.Core.Path.{◌≡◌, sym, ap, ◌∙◌}
use mathlib.Core.List.{List, ◌++◌}
use mathlib.Core.Bool.{true, false}
use Prim.Native.Nat.{ℕ, ◌≤◌, ◌<◌, ◌+◌}
use native.Mathlib.Omega.{arith}
use lib.ListN.{length, drop}
use Rattle.refusal.specs.Result.{map_ok, then}
use Rattle.refusal.specs.declared.Refusal.TheVariants.{NotATree, NoRoom}
use Rattle.grammar.specs.Print.{printed}
use Rattle.grammar.specs.Expr.{concat}
use Rattle.grammar.specs.Bytes.{is_tree, tree_at, cites, cites_at, texts_at}
use Rattle.grammar.specs.Outcome.{answer_of, written_of, with_length, display_answer}
use Rattle.grammar.proofs.Outcome.{answer_fits, answer_short, written_fits, written_short}
use Rattle.grammar.proofs.Theorems.{print_short, bytes-length}
use Rattle.grammar.proofs.Sizes.{print_within}
use Rattle.grammar.proofs.Trees.{tests}
use Rattle.tree.proofs.Cites.{texts-stand}
use Rattle.tree.proofs.Walks.{root, no-tree}
use Rattle.grammar.specs.Reading.{print_limit}

-- a print is short enough for the scratch
pub short : (b : List ℕ) → is_tree b ≡ true → length (printed (tree_at b 0)) ≤ print_limit
short b h = print_short (tree_at b 0) (root b h).fits

-- a print is no longer than its tree
pub within : (b : List ℕ) → is_tree b ≡ true → length (printed (tree_at b 0)) ≤ length b
within b h =
    let r = root b h in
    let x = texts-stand b (cites b) (cites_at b) (texts_at b) (tests b h).cited in
    omega (arith, print_within (tree_at b 0) r.fits.wide, bytes-length (tree_at b 0), r.size, r.counts, ap (λ (ts : List (List ℕ)). length (concat ts)) r.cited, x.0)

outcome : (b : List ℕ) → is_tree b ≡ true → display_answer b ≡ Ok (with_length (printed (tree_at b 0)))
unfolding display_answer map_ok
outcome b h = rw (root b h).is

-- not a tree
pub refused_15 : (b old : List ℕ) → is_tree b ≡ false → (Err NotATree ≡ answer_of (display_answer b) (length old)) × (old ≡ written_of (display_answer b) old)
unfolding display_answer answer_of written_of map_ok then
refused_15 b old h = (rw (no-tree b h), rw (no-tree b h))

-- a buffer that is too short
pub refused_14 : (b old : List ℕ) (n : ℕ) → is_tree b ≡ true → n ≡ 0 + length (printed (tree_at b 0)) → length old < n → (Err NoRoom ≡ answer_of (display_answer b) (length old)) × (old ≡ written_of (display_answer b) old)
refused_14 b old n h e l =
    let w = with_length (printed (tree_at b 0)) in
    let small : length old < length (printed (tree_at b 0)) = omega arith in
    (rw (outcome b h) (sym (answer_short w (length old) small)), rw (outcome b h) (sym (written_short w old small)))

-- the print
pub done : (b old new : List ℕ) (n : ℕ) → is_tree b ≡ true → n ≡ 0 + length (printed (tree_at b 0)) → n ≤ length old → new ≡ printed (tree_at b 0) ++ drop (length (printed (tree_at b 0))) old
    → (Ok n ≡ answer_of (display_answer b) (length old)) × (new ≡ written_of (display_answer b) old)
done b old new n h e l q =
    let w = with_length (printed (tree_at b 0)) in
    let same : n ≡ length (printed (tree_at b 0)) = omega arith in
    let fits : length (printed (tree_at b 0)) ≤ length old = omega arith in
    (rw (outcome b h) (ap Ok same ∙ sym (answer_fits w (length old) fits)), rw (outcome b h) (q ∙ sym (written_fits w old fits)))

-- Answer bytes as an oracle, and what `eval` answers. Assumes nothing.
use Rattle.std.specs.Prelude.{Err}
use mathlib.Core.Path.{◌≡◌, sym, ap, ◌∙◌}
use mathlib.Core.List.{List}
use mathlib.Core.Bool.{true, false}
use Prim.Native.Nat.{ℕ, ◌≤◌, ◌<◌}
use native.Mathlib.Omega.{arith}
use lib.Dec.{eqb, leb}
use lib.ListN.{length}
use borrow.Author.Tests.{ne_eqb, eq-eqb, eqb-true}
use Rattle.laws.specs.Tests.{and_both}
use Rattle.text.specs.Bytes.{all}
use Rattle.refusal.specs.Result.{then}
use Rattle.refusal.specs.declared.Refusal.TheVariants.{NotATree, WrongAnswers}
use Rattle.grammar.specs.Expr.{count}
use Rattle.grammar.proofs.Sizes.{few-nodes}
use Rattle.grammar.specs.Bytes.{nodes, cites, is_tree, tree_at}
use Rattle.tree.specs.Walk.{first_at}
use Rattle.tree.proofs.Walks.{root, no-tree}
use Rattle.semantics.specs.Presence.{failed, presence, oracle_of, answers_fit}
use Rattle.semantics.specs.Answers.{presence_by, eval_answer}
use Rattle.grammar.specs.Reading.{node_limit}

-- another count than that of the citations
pub fit_count : (b answers : List ℕ) → is_tree b ≡ true → (length answers ≡ cites b → ⊥) → false ≡ answers_fit (tree_at b 0) answers
unfolding answers_fit
fit_count b answers h k = let r = root b h in rw (ne_eqb (length answers) (count (tree_at b 0)) (λ q. k (q ∙ r.counts)))

-- one answer a citation
pub fit_all : (b answers : List ℕ) → is_tree b ≡ true → length answers ≡ cites b → all (λ x. leb x failed) answers ≡ answers_fit (tree_at b 0) answers
unfolding answers_fit
fit_all b answers h k = let r = root b h in rw (eq-eqb (length answers) (count (tree_at b 0)) (k ∙ sym r.counts))

-- answers that fit: one for each citation
pub fit-long : (b answers : List ℕ) → is_tree b ≡ true → answers_fit (tree_at b 0) answers ≡ true → cites b ≤ length answers
unfolding answers_fit
fit-long b answers h k =
    let t = and_both (eqb (length answers) (count (tree_at b 0))) (all (λ x. leb x failed) answers) k in
    omega (arith, eqb-true (length answers) (count (tree_at b 0)) t.0, (root b h).counts)

-- at most 511 rows, at least one
pub few_rows : (b : List ℕ) → is_tree b ≡ true → (nodes b ≤ node_limit) × (0 < nodes b)
few_rows b h = let r = root b h in (omega (arith, r.size, few-nodes (tree_at b 0) r.fits), r.some)

-- the whole tree's presence
pub whole-presence : (b answers : List ℕ) → is_tree b ≡ true → presence (oracle_of answers) (first_at b 0) (tree_at b 0) ≡ presence_by answers (tree_at b 0)
whole-presence b answers h = ap (λ (x : ℕ). presence (oracle_of answers) x (tree_at b 0)) (root b h).first

-- 15
pub eval-no-tree : (b answers : List ℕ) → is_tree b ≡ false → Err NotATree ≡ eval_answer b answers
unfolding eval_answer then
eval-no-tree b answers h = rw (no-tree b h)

-- 16
pub eval-unfit : (b answers : List ℕ) → is_tree b ≡ true → answers_fit (tree_at b 0) answers ≡ false → Err WrongAnswers ≡ eval_answer b answers
unfolding eval_answer then
eval-unfit b answers h k = rw ((root b h).is, k)

-- then 7 and 8
pub eval-fit : (b answers : List ℕ) → is_tree b ≡ true → answers_fit (tree_at b 0) answers ≡ true → presence_by answers (tree_at b 0) ≡ eval_answer b answers
unfolding eval_answer then
eval-fit b answers h k = rw ((root b h).is, k)

-- What judging leaves: what each citation counts as, and by these a truth and the numbers of violations. Assumes nothing.
use Rattle.std.specs.Prelude.{◌≡◌, List, [], ◌∷◌, ◌++◌, cond, ℕ, ◌+◌, ◌*◌, ◌≤◌, ◌<◌, length, take, get_or}
use Rattle.citation.specs.declared.Truth.{Truth}
use Rattle.citation.specs.declared.Truth.TheVariants.{False}
use Rattle.grammar.specs.Bytes.{cites, tree_at}
use Rattle.semantics.specs.Rules.{is_false}
use Rattle.semantics.specs.Truth.{Counts, cited_truth, truth_with}
use Rattle.semantics.specs.Truth as format
use Rattle.semantics.specs.Violations.{violations_with, violations, number_bytes}
use Rattle.tree.specs.Walk.{first_at, text_at}
use Rattle.verdicts.specs.declared.Judged.{Judged}

-- m truths and n bytes are room for those of the tree's citations and of their numbers
pub record Room (tree : List ℕ) (m n : ℕ) : Type 0 where
  pub truths : cites tree ≤ m
  pub numbers : 2 * cites tree ≤ n

-- what citations count as by one truth for each, in their order
abbrev pub counts_in : List Truth → Counts
counts_in truths n t = get_or truths n False

-- the first n truths are what the citations count as on the value
pub record CitesJudged (value tree : List ℕ) (n : ℕ) (truths : List Truth) : Type 0 where
  pub says : (i : ℕ) → i < n → get_or truths i False ≡ cited_truth value (text_at tree i)

-- the numbers stand after the first `at` bytes, up to the place q, and the bytes before stayed; those from q on may have changed
pub record ListedFrom (ns : List ℕ) (at : ℕ) (old new : List ℕ) (q : ℕ) : Type 0 where
  pub ends : q ≡ at + 2 * length ns
  pub has : take q new ≡ take at old ++ number_bytes ns

-- a citation was looked up: its truth, and its number in the list if it is False
pub record CitedJudged (truths : List Truth) (n at : ℕ) (old new : List ℕ) (r : Judged) : Type 0 where
  pub is : r.truth ≡ get_or truths n False
  pub listed : ListedFrom (cond (is_false (get_or truths n False)) (n ∷ []) []) at old new r.at

-- the subtree at a row was judged by the citations' truths: its own, and its violations in the list
pub record RowJudged (truths : List Truth) (tree : List ℕ) (row at : ℕ) (old new : List ℕ) (r : Judged) : Type 0 where
  pub is : r.truth ≡ truth_with (counts_in truths) (first_at tree row) (tree_at tree row)
  pub listed : ListedFrom (violations_with (counts_in truths) (first_at tree row) (tree_at tree row)) at old new r.at

-- the tree was judged on the value
pub record TreeJudged (value tree old new : List ℕ) (r : Judged) : Type 0 where
  pub is : r.truth ≡ format.truth value (tree_at tree 0)
  pub listed : ListedFrom (violations value (tree_at tree 0)) 0 old new r.at

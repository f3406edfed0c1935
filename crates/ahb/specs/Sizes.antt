-- How large an accepted answer is. Assumes nothing.
use Rattle.std.specs.Prelude.{◌≡◌, List, ℕ, ◌≤◌, ◌<◌, leb, length, Ok, Err, Some, None}
use Rattle.std.proofs.Common.{subst, arith}
use Rattle.refusal.specs.Result.{unless, unless_ok}
use Rattle.refusal.specs.declared.Refusal.TheVariants.{NoRoom, NotATree}
use Rattle.refusal.specs.Known.{Among, unless-among, known_among, map-among, then-among}
use Rattle.utf8.specs.Limits.{value_limit, admitted}
use Rattle.citation.specs.declared.Truth.{Truth}
use Rattle.grammar.specs.Expr.{Expr}
use Rattle.grammar.specs.Reading.{citation_limit, Fits, reading}
use Rattle.grammar.proofs.Reading.{reading_fits}
use Rattle.grammar.specs.Status.{Stated, alone, stated, status_reading}
use Rattle.grammar.proofs.StatusLaws.{status_states}
use Rattle.grammar.specs.Bytes.{bytes_of, is_tree, tree_at, tree_of}
use Rattle.grammar.proofs.Theorems.{bytes-length, few_bytes}
use Rattle.grammar.specs.Outcome.{Written, Outcome, answer_of, StatusSaid, stated_bytes, parse_answer, status_answer}
use Rattle.grammar.proofs.Known.{admitted-among, reading_known, status_known, tree_of_known}
use Rattle.semantics.specs.Truth.{counts_on}
use Rattle.semantics.proofs.Sizes.{violations_fit}
use Rattle.semantics.specs.Answers.{verdicts_outcome, verdicts_answer}
use Rattle.tree.proofs.Walks.{root}
use Rattle.ahb.specs.Numbers.{code_step}

-- from 1 to less than a step of the code
abbrev pub Short : ℕ → Type 0
Short n = (0 < n) × (n < code_step)

-- a status whose tree has such a length
abbrev pub ShortStatus : StatusSaid → Type 0
ShortStatus (k, None) = Unit
ShortStatus (k, Some n) = Short n

module _ {A : Type 0} (P : A → Type 0) where
  -- 14 changes no answer
  pub answer_among : (r : Outcome A) (n : ℕ) → Among (λ w. P w.answer) r → Among P (answer_of r n)
  unfolding answer_of
  answer_among r n h =
      then-among P r (λ w. unless (leb (length w.bytes) n) NoRoom (Ok w.answer))
      (within r h)
    where
      within : (o : Outcome A) → Among (λ w. P w.answer) o → Among (λ w. Among P (unless (leb (length w.bytes) n) NoRoom (Ok w.answer))) o
      within (Ok w) p = unless-among P (leb (length w.bytes) n) NoRoom (Ok w.answer) p
      within (Err k) p = p

-- a tree has bytes, and not too many
fits_short : (e : Expr) → Fits e → Short (length (bytes_of e))
fits_short e f = (omega (arith, bytes-length e), omega (arith, few_bytes e f))

-- the length of an expression's tree
pub parse-outcome : (s : List ℕ) → Among (λ w. Short w.answer) (parse_answer s)
unfolding parse_answer
parse-outcome s =
    map-among (λ w. Short w.answer) _ (reading s)
    (known_among (λ e. Short (length (bytes_of e))) (reading s) (reading_known s) λ e h. fits_short e (reading_fits s e h))

-- as it is answered
pub parse-among : (s : List ℕ) (n : ℕ) → Among Short (answer_of (parse_answer s) n)
parse-among s n = answer_among Short (parse_answer s) n (parse-outcome s)

-- the length of a status's tree
pub status_outcome_lem : (s : List ℕ) → Among (λ w. ShortStatus w.answer) (status_answer s)
unfolding status_answer
status_outcome_lem s = map-among (λ w. ShortStatus w.answer) stated_bytes (status_reading s) (known_among (λ x. ShortStatus (stated_bytes x).answer) (status_reading s) (status_known s) by)
  where
    by : (x : Stated) → status_reading s ≡ Ok x → ShortStatus (stated_bytes x).answer
    by (alone k) h = tt
    by (stated k e) h = let t = status_states s k e h in fits_short e (reading_fits _ e t.reads)

-- as it is answered
pub status_among : (s : List ℕ) (n : ℕ) → Among ShortStatus (answer_of (status_answer s) n)
status_among s n = answer_among ShortStatus (status_answer s) n (status_outcome_lem s)

-- a tree is that of an expression that fits the limits
pub tree_fits : (b : List ℕ) (e : Expr) → tree_of b ≡ Ok e → Fits e
unfolding tree_of
tree_fits b e h =
    let t = unless_ok (is_tree b) NotATree (Ok (tree_at b 0)) e h in
    let other : Ok (tree_at b 0) ≡ Ok e = t.1 in
    let same : tree_at b 0 ≡ e = cc in
    subst Fits same (root b t.0).fits

-- a truth, and no more violations than a tree may have citations
abbrev pub CountFew : Truth × ℕ → Type 0
CountFew x = x.1 ≤ citation_limit

abbrev WrittenFew : Written (Truth × ℕ) → Type 0
WrittenFew w = CountFew w.answer

abbrev judged_by : List ℕ → Expr → Outcome (Truth × ℕ)
judged_by value e = admitted value_limit value (verdicts_outcome value e)

judged_few : (b value : List ℕ) → Among WrittenFew (verdicts_answer b value)
unfolding verdicts_answer
judged_few b value = then-among WrittenFew (tree_of b) (judged_by value) (known_among (λ e. Among WrittenFew (judged_by value e)) (tree_of b) (tree_of_known b) by)
  where
    by : (e : Expr) → tree_of b ≡ Ok e → Among WrittenFew (judged_by value e)
    by e h = admitted-among WrittenFew value_limit value (verdicts_outcome value e) (violations_fit (counts_on value) e (tree_fits b e h))

-- so `verdicts` answers
pub verdicts-among : (b value : List ℕ) (n : ℕ) → Among CountFew (answer_of (verdicts_answer b value) n)
verdicts-among b value n = answer_among CountFew (verdicts_answer b value) n (judged_few b value)

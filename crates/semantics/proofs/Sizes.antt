-- How many violations and package rows there are, and how many bytes they take. Assumes nothing.
use Rattle.std.specs.Prelude.{◌≡◌, refl, List, [], ◌∷◌, Bool, true, false, cond, ℕ, suc, ◌+◌, ◌*◌, ◌≤◌, length, Result, Ok, Err}
use Rattle.std.proofs.Common.{ap, ◌∙◌, arith, length-append}
use Rattle.laws.specs.Tests.{cond_both}
use Rattle.citation.specs.Kinds.{kind_of}
use Rattle.citation.specs.declared.Paket.{Paket}
use Rattle.citation.specs.Pakete.{paket_of}
use Rattle.grammar.specs.Expr.{Expr, Exprs, cite, Then, join, none, more, citations, citations_of, count, concat}
use Rattle.grammar.specs.Reading.{citation_limit, Fits}
use Rattle.grammar.specs.Bytes.{two_bytes}
use Rattle.grammar.proofs.Bounds.{concat_append}
use Rattle.semantics.specs.Truth.{Counts}
use Rattle.semantics.specs.Violations.{fails, violations_with, violations_of, number_bytes}
use Rattle.semantics.specs.Packages.{is_paket, paket_size, bytes_up_to, paket_bytes, read_row, row_of, rows_of}
use Rattle.refusal.specs.declared.Refusal.{Refusal}

-- two bytes a number
pub numbers_length : (ns : List ℕ) → length (number_bytes ns) ≡ 2 * length ns
unfolding number_bytes two_bytes
numbers_length [] = refl
numbers_length (n ∷ ns) = omega (arith, numbers_length ns)

module _ (counts : Counts) where
  few_if : (b : Bool) (ns : List ℕ) (most : ℕ) → length ns ≤ most → length (cond b ns []) ≤ most
  few_if b ns most h = cond_both (λ (l : List ℕ). length l ≤ most) b ns [] (λ _. h) (λ _. omega arith)

  mutual
    unfolding violations_with citations

    -- no more than there are citations
    pub violations_few : (n : ℕ) (e : Expr) → length (violations_with counts n e) ≤ count e
    violations_few n (cite t) = few_if (fails counts n (cite t)) (n ∷ []) 1 (omega arith)
    violations_few n (Then es) = few_if (fails counts n (Then es)) (violations_of counts n es) _ (violations_few_of n es)
    violations_few n (join o es) = few_if (fails counts n (join o es)) (violations_of counts n es) _ (violations_few_of n es)

    violations_few_of : (n : ℕ) (es : Exprs) → length (violations_of counts n es) ≤ length (citations_of es)
    violations_few_of n none = omega arith
    violations_few_of n (more e es) =
        omega (
          arith,
          violations_few n e,
          violations_few_of (n + count e) es,
          length-append (citations e) (citations_of es),
          length-append (violations_with counts n e) (violations_of counts (n + count e) es),
        )

  -- and none too many for a tree
  pub violations_fit : (e : Expr) → Fits e → length (violations_with counts 0 e) ≤ citation_limit
  violations_fit e f = omega (arith, violations_few 0 e, f.few)

-- a package row has its size
pub row-length : (n : ℕ) (p : Paket) → length (paket_bytes n p) ≡ paket_size
unfolding paket_bytes two_bytes bytes_up_to
row-length n p = refl

read_length : (n : ℕ) (r : Result Paket Refusal) → (length (concat (read_row n r)) ≡ paket_size * length (read_row n r)) × (length (read_row n r) ≤ 1)
unfolding concat
read_length n (Ok p) = (length-append (paket_bytes n p) [] ∙ rw (row-length n p), omega arith)
read_length n (Err k) = (refl, omega arith)

one_length : (b : Bool) (n : ℕ) (r : Result Paket Refusal)
    → (length (concat (cond b (read_row n r) [])) ≡ paket_size * length (cond b (read_row n r) [])) × (length (cond b (read_row n r) []) ≤ 1)
unfolding concat
one_length true n r = read_length n r
one_length false n r = (refl, omega arith)

-- each row has the size of a package row, and there are no more than there are texts
pub rows_length : (n : ℕ) (ts : List (List ℕ)) → (length (concat (rows_of n ts)) ≡ paket_size * length (rows_of n ts)) × (length (rows_of n ts) ≤ length ts)
unfolding rows_of concat
rows_length n [] = (refl, omega arith)
rows_length n (t ∷ ts) =
    let one = one_length (is_paket (kind_of t)) n (paket_of t) in
    let rest = rows_length (suc n) ts in
    let both = length-append (row_of n t) (rows_of (suc n) ts) in
    let bytes = length-append (concat (row_of n t)) (concat (rows_of (suc n) ts)) in
    (ap length (concat_append (row_of n t) (rows_of (suc n) ts)) ∙ omega (arith, one.0, rest.0, both, bytes), omega (arith, one.1, rest.1, both))

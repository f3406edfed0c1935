-- The violations: the citations to blame for a False format truth (docs/SEMANTICS.md, 'Format truth and violations'). Assumes nothing.
use Rattle.std.specs.Prelude.{List, [], ◌∷◌, ◌++◌, Bool, cond, ℕ, ◌+◌}
use Rattle.grammar.specs.Expr.{Expr, Exprs, cite, Then, join, none, more, count}
use Rattle.grammar.specs.Bytes.{two_bytes}
use Rattle.semantics.specs.Rules.{is_false}
use Rattle.semantics.specs.Truth.{Counts, truth_with, counts_on}

module _ (counts : Counts) where
  -- an expression whose first citation has the number n is False
  abbrev pub fails : ℕ → Expr → Bool
  fails n e = is_false (truth_with counts n e)

  unfoldable mutual
    -- the numbers of its violations, in order: none unless it is False, else its own number or those of its operands
    pub violations_with : ℕ → Expr → List ℕ
    violations_with n (cite t) = cond (fails n (cite t)) (n ∷ []) []
    violations_with n (Then es) = cond (fails n (Then es)) (violations_of n es) []
    violations_with n (join o es) = cond (fails n (join o es)) (violations_of n es) []

    -- those of operands, from left to right
    pub violations_of : ℕ → Exprs → List ℕ
    violations_of n none = []
    violations_of n (more e es) = violations_with n e ++ violations_of (n + count e) es

-- the violations of an expression on a value
abbrev pub violations : (value : List ℕ) → Expr → List ℕ
violations value = violations_with (counts_on value) 0

-- numbers as bytes, two each
unfoldable pub number_bytes : List ℕ → List ℕ
number_bytes [] = []
number_bytes (n ∷ ns) = two_bytes n ++ number_bytes ns

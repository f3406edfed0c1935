-- Which citations are listed, for every tree, read or not, and every value: what is promised. The theorems stand in proofs/Violations. Assumes nothing.
use Rattle.std.specs.Prelude.{◌≡◌, List, [], ◌∷◌, ◌++◌, Bool, true, false, cond, ◌||◌, ◌↔◌, ℕ, ◌+◌, ◌≤◌, ◌<◌, eqb, length, get_or}
use mathlib.Core.List.{Memᴰ, Sublistᴰ}
use Rattle.citation.specs.Kinds.{kind_of}
use Rattle.citation.specs.declared.Truth.{Truth}
use Rattle.citation.specs.declared.Truth.TheVariants.{True}
use Rattle.formats.specs.declared.FormatVerdict.TheVariants.{Violated}
use Rattle.formats.specs.Table.{verdict}
use Rattle.grammar.specs.Expr.{Expr, Exprs, cite, Then, join, none, more, citations, count}
use Rattle.semantics.specs.Rules.{is_false, is_true, any}
use Rattle.semantics.specs.Truth.{is_judged, Counts, counts_on, truth}
use Rattle.semantics.specs.Violations.{fails, violations_with, violations}
use Rattle.semantics.specs.Pairs.{same}
use Rattle.semantics.specs.Kept.{EachCited}

-- The list that stood before.

module _ (counts : Counts) where
  unfoldable mutual
    -- the numbers of the citations that count as False, in order, the first citation having the number n
    pub cited_false : ℕ → Expr → List ℕ
    cited_false n (cite t) = cond (is_false (counts n t)) (n ∷ []) []
    cited_false n (Then es) = cited_false_of n es
    cited_false n (join o es) = cited_false_of n es

    -- those of operands
    pub cited_false_of : ℕ → Exprs → List ℕ
    cited_false_of n none = []
    cited_false_of n (more e es) = cited_false n e ++ cited_false_of (n + count e) es

-- all violated citations if the format truth is False, else none
abbrev pub violations_before : (value : List ℕ) → Expr → List ℕ
violations_before value e = cond (fails (counts_on value) 0 e) (cited_false (counts_on value) 0 e) []

-- Counting otherwise.

-- the citations with these numbers hold, and every other counts as it did
abbrev pub with_held : List ℕ → Counts → Counts
with_held ns c n t = cond (any (eqb n) ns) True (c n t)

-- the second truth is the first, or higher: False is below every other, True above
abbrev pub rises : Truth → Truth → Bool
rises v w = same v w || (is_false v || is_true w)

-- what c lists counts as True by d, and every citation by d as it does by c, or higher
pub record Raised (c d : Counts) (e : Expr) : Type 0 where
  pub listed : (n : ℕ) → Memᴰ n (violations_with c 0 e) → d n (get_or (citations e) n []) ≡ True
  pub all : EachCited rises c d 0 (citations e)

-- Which citations are listed.

-- the text is a Format or Zeitpunkt condition that the value violates
abbrev pub IsViolated : (value text : List ℕ) → Type 0
IsViolated value t = (is_judged (kind_of t) ≡ true) × (verdict t value ≡ Violated)

-- the citation with the number k stands in an expression whose first citation has the number n
abbrev pub StandsIn : (k n : ℕ) → Expr → Type 0
StandsIn k n e = (n ≤ k) × (k < n + count e)

module _ (value : List ℕ) (k : ℕ) where
  -- the expression is False if the citation with the number k stands in it
  abbrev pub FalseIfIn : ℕ → Expr → Type 0
  FalseIfIn n e = StandsIn k n e → fails (counts_on value) n e ≡ true

  abbrev mutual
    -- every group in which the citation k stands, from this expression down, is False, and its text is violated
    pub FalseAround : ℕ → Expr → Type 0
    FalseAround n (cite t) = StandsIn k n (cite t) → IsViolated value t
    FalseAround n (Then es) = FalseIfIn n (Then es) × FalseAroundIn n es
    FalseAround n (join o es) = FalseIfIn n (join o es) × FalseAroundIn n es

    -- the same of operands
    pub FalseAroundIn : ℕ → Exprs → Type 0
    FalseAroundIn n none = Unit
    FalseAroundIn n (more e es) = FalseAround n e × FalseAroundIn (n + count e) es

-- What is promised.

-- of the violations of an expression on a value
pub record ListPromised (value : List ℕ) (e : Expr) : Type 0 where
  -- they are a part, in order, of the list that stood before
  pub part : Sublistᴰ (violations value e) (violations_before value e)
  -- there is one if the format truth is False
  pub some : is_false (truth value e) ≡ true → 0 < length (violations value e)
  -- and else there is none
  pub none : is_false (truth value e) ≡ false → violations value e ≡ []
  -- with these counted as True, and the others as they are, the format truth is not False
  pub held : fails (with_held (violations value e) (counts_on value)) 0 e ≡ false
  -- nor is it with the others counted as they are or higher
  pub raised : (d : Counts) → Raised (counts_on value) d e → fails d 0 e ≡ false
  -- a number is among them exactly if a citation has it, its text is violated, and no node around it is other than False
  pub exactly : (k : ℕ) → Memᴰ k (violations value e) ↔ (StandsIn k 0 e × FalseAround value k 0 e)

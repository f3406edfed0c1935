-- Relations between truths that the rules of format truth keep. The theorems stand in proofs/Kept. Assumes nothing.
use Rattle.std.specs.Prelude.{◌≡◌, List, [], Bool, true, not, ◌&&◌, ◌||◌, ℕ, ◌+◌, ◌<◌, length, get_or}
use Rattle.citation.specs.declared.Truth.{Truth}
use Rattle.citation.specs.declared.Truth.TheVariants.{Neutral}
use Rattle.grammar.specs.Expr.{And, Or}
use Rattle.semantics.specs.Truth.{Counts}
use Rattle.semantics.specs.Pairs.{pair, each2}

-- joining two keeps a relation
abbrev pub keeps : (Truth → Truth → Bool) → (Truth → Truth → Truth) → Bool
keeps r f = each2 (λ a a'. each2 (λ b b'. not (r a a' && r b b') || r (f a b) (f a' b')))

-- a relation of truths that the rules keep
pub record Kept (r : Truth → Truth → Bool) : Type 0 where
  pub none : r Neutral Neutral ≡ true
  pub and : keeps r (pair And) ≡ true
  pub or : keeps r (pair Or) ≡ true

-- the relation holds between what c and what d count each of these citations as, by their texts, the first having the number n
abbrev pub EachCited : (Truth → Truth → Bool) → (c d : Counts) → ℕ → List (List ℕ) → Type 0
EachCited r c d n ts = (i : ℕ) → i < length ts → r (c (n + i) (get_or ts i [])) (d (n + i) (get_or ts i [])) ≡ true

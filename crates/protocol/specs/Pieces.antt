-- The pieces of a line, each after one space but the first. Assumes nothing.
use Rattle.std.specs.Prelude.{ℕ, List, [], ◌∷◌, cond, eqb}

-- the pieces with a byte in front of the first
abbrev pub grown : ℕ → List (List ℕ) → List (List ℕ)
grown b [] = (b ∷ []) ∷ []
grown b (p ∷ ps) = (b ∷ p) ∷ ps

-- what stands between the spaces of a line: first the word, then the fields
unfoldable pub pieces : List ℕ → List (List ℕ)
pieces [] = [] ∷ []
pieces (b ∷ s) = cond (eqb b 32) ([] ∷ pieces s) (grown b (pieces s))

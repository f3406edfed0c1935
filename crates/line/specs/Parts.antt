-- The parts of a report while it is written. Assumes nothing.
use Rattle.std.specs.Prelude.{List, [], ◌∷◌, ℕ, zero, suc, ◌+◌, ◌≤◌, ◌<◌}
use Rattle.fields.specs.Appended.{Appended}
use Rattle.grammar.specs.Bytes.{field}

-- the text was written, and it has at most so many bytes
pub record Within (most : ℕ) (text : List ℕ) (at : ℕ) (old new : List ℕ) (q : ℕ) : Type 0 where
  pub written : Appended text at old new q
  pub short : q ≤ at + most

-- the numbers in so many pairs of bytes from a place on
unfoldable pub numbers_from : List ℕ → (count at : ℕ) → List ℕ
numbers_from b zero at = []
numbers_from b (suc count) at = field b at ∷ numbers_from b count (at + 2)

-- all these numbers are below a number
abbrev pub AllBelow : ℕ → List ℕ → Type 0
AllBelow most [] = Unit {0}
AllBelow most (n ∷ ns) = (n < most) × AllBelow most ns

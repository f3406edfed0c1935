-- Bytes written one after another. Assumes nothing.
use Rattle.std.specs.Prelude.{◌≡◌, List, ◌++◌, ℕ, ◌+◌, length, take, drop}

-- the text was written after the first `at` bytes, up to the place q; the bytes before and from q on stayed
pub record Appended (text : List ℕ) (at : ℕ) (old new : List ℕ) (q : ℕ) : Type 0 where
  pub ends : q ≡ at + length text
  pub has : take q new ≡ take at old ++ text
  pub rest : drop q new ≡ drop q old

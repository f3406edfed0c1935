-- The place one character on. Assumes nothing.
use Rattle.std.specs.Prelude.{ℕ, ◌+◌, List}
use Rattle.utf8.specs.Utf8.{step_at}
use Rattle.utf8.specs.declared.Step.{Step}
use Rattle.utf8.specs.declared.Step.TheVariants.{Char, Bad, End}

-- the bytes of a character; none where no character stands
abbrev pub width_of : Step → ℕ
width_of (Char code width) = width
width_of Bad = 0
width_of End = 0

-- the place after the character at a place
abbrev pub next_at : List ℕ → ℕ → ℕ
next_at s at = at + width_of (step_at s at)

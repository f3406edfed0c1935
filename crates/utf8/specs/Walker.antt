-- What a walker gives. Assumes nothing.
use Rattle.std.specs.Prelude.{◌≡◌, ℕ, ◌+◌, List, length, Option, Some, None}
use Rattle.utf8.specs.Utf8.{step_at}
use Rattle.utf8.specs.declared.Step.TheVariants.{Char, Bad, End}

-- the item given at a place and the place after it: a character with its place and code; no code at a byte that fits no character,
-- and then the end; nothing at the end, where the place stays
abbrev pub Gives : List ℕ → ℕ → Option (ℕ × Option ℕ) → ℕ → Type 0
Gives s at None next = (step_at s at ≡ End) × (next ≡ at)
Gives s at (Some (place, None)) next = (place ≡ at) × (step_at s at ≡ Bad) × (next ≡ length s)
Gives s at (Some (place, Some code)) next = (place ≡ at) × ((width : ℕ) × (step_at s at ≡ Char code width) × (next ≡ at + width))

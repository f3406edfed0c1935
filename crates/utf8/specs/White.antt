-- White space, as Unicode has it (docs/FORMAT.md, 'Texts'). Assumes nothing.
use Rattle.std.specs.Prelude.{ℕ, List, [], ◌∷◌, Bool, false, ◌||◌}
use Rattle.utf8.specs.Utf8.{within}

-- a number within one of the ranges
abbrev pub among : List (ℕ × ℕ) → ℕ → Bool
among [] c = false
among (r ∷ rs) c = within r.0 r.1 c || among rs c

-- the ranges of white space, first and last
abbrev pub white_ranges : List (ℕ × ℕ)
white_ranges =
    (0x09, 0x0D) ∷ (0x20, 0x20) ∷ (0x85, 0x85) ∷ (0xA0, 0xA0) ∷ (0x1680, 0x1680) ∷ (0x2000, 0x200A) ∷ (0x2028, 0x2029)
    ∷ (0x202F, 0x202F) ∷ (0x205F, 0x205F) ∷ (0x3000, 0x3000) ∷ []

-- a character that is white space
unfoldable pub is_white : ℕ → Bool
is_white c = among white_ranges c

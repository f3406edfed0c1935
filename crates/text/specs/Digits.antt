-- Digits, and the unsigned numbers that they write. Assumes nothing.
use Rattle.std.specs.Prelude.{ℕ, ◌+◌, ◌-◌, ◌*◌, List, [], ◌∷◌, Bool, cond, ◌&&◌, length, drop, ltb, leb, Option, Some, None}
use Rattle.text.specs.Quoted.{ascii}
use Rattle.text.specs.Bytes.{all, begins}

-- an ASCII digit
abbrev pub is_digit : ℕ → Bool
is_digit b = leb 48 b && leb b 57

-- every byte is a digit
abbrev pub all_digits : List ℕ → Bool
all_digits s = all is_digit s

-- the number that digits write, after those that wrote n
abbrev pub nat_from : ℕ → List ℕ → ℕ
nat_from n [] = n
nat_from n (d ∷ s) = nat_from (n * 10 + (d - 48)) s

-- the number that digits write
abbrev pub nat_of : List ℕ → ℕ
nat_of s = nat_from 0 s

-- one or more digits, leading zeros among them: a number up to `most`
abbrev pub digits_up_to : ℕ → List ℕ → Option ℕ
digits_up_to most s = cond (ltb 0 (length s) && (all_digits s && leb (nat_of s) most)) (Some (nat_of s)) None

-- a `+` stands first
abbrev pub has_plus : List ℕ → Bool
has_plus s = begins (ascii "+") s

-- the width of a leading `+`
abbrev pub plus_width : List ℕ → ℕ
plus_width s = cond (has_plus s) 1 0

-- the same after one `+` or none
unfoldable pub number_up_to : ℕ → List ℕ → Option ℕ
number_up_to most s = digits_up_to most (drop (plus_width s) s)

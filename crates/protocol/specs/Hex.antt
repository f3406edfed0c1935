-- Byte strings as fields of a line: two lower-case hex digits a byte, `-` for no bytes. Assumes nothing.
use Rattle.std.specs.Prelude.{ℕ, ◌+◌, ◌-◌, ◌*◌, ◌/◌, ◌%◌, ◌≤◌, ◌≡◌, List, [], ◌∷◌, Option, None, Some, Bool, true, false, cond, length, take, ltb, eqb}
use Rattle.text.specs.Quoted.{ascii}
use Rattle.text.specs.Bytes.{same}

-- the digit of a number below 16
unfoldable pub digit_of : ℕ → ℕ
digit_of d = cond (ltb d 10) (48 + d) (87 + d)

-- the number of a digit
unfoldable pub digit_value : ℕ → Option ℕ
digit_value b = cond (ltb b 48) None (cond (ltb b 58) (Some (b - 48)) (cond (ltb b 97) None (cond (ltb b 103) (Some (b - 87)) None)))

-- two digits for each byte
unfoldable pub hex_of : List ℕ → List ℕ
hex_of [] = []
hex_of (b ∷ s) = digit_of (b / 16) ∷ digit_of (b % 16) ∷ hex_of s

-- a byte string as a field
abbrev pub field_of : List ℕ → List ℕ
field_of [] = ascii "-"
field_of (b ∷ s) = hex_of (b ∷ s)

-- the byte of two digits, the high one first, before others: nothing where one is no digit
abbrev pub before : Option ℕ → Option ℕ → List ℕ → List ℕ
before (Some high) (Some low) s = (high * 16 + low) ∷ s
before (Some high) None s = []
before None low s = []

-- the bytes that pairs of digits write, up to the first that is no pair
unfoldable pub pairs : List ℕ → List ℕ
pairs [] = []
pairs (a ∷ []) = []
pairs (a ∷ b ∷ s) = before (digit_value a) (digit_value b) (pairs s)

-- a field is `-`, or one pair and more up to its end; its byte string is that of its pairs
abbrev pub is_field : List ℕ → Bool
is_field f = cond (same (ascii "-") f) true (cond (eqb (length f) 0) false (eqb (2 * length (pairs f)) (length f)))

-- n bytes stand at the start of xs
abbrev pub Within : ℕ → List ℕ → Type 0
Within n xs = (n ≤ length xs) × (n ≡ length (take n xs))

-- the length of a field's byte string
abbrev pub filled : List ℕ → Option ℕ
filled f = cond (is_field f) (Some (length (pairs f))) None

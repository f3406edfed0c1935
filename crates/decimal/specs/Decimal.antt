-- Numbers written as text, their exact values and the digits that count (docs/SEMANTICS.md, 'Format conditions'). Assumes nothing.
use Rattle.std.specs.Prelude.{ℕ, suc, ◌+◌, ◌*◌, ◌^◌, List, [], ◌∷◌, ◌++◌, Bool, true, false, cond, ◌&&◌, length, take, drop, ltb, leb, eqb, Option, Some, None}
use Rattle.std.specs.declared.cmp.Ordering.{Ordering}
use Rattle.std.specs.declared.cmp.Ordering.TheVariants.{Less, Equal, Greater}
use Rattle.text.specs.Quoted.{ascii}
use Rattle.text.specs.Bytes.{all, begins, place}
use Rattle.text.specs.Digits.{all_digits, nat_of, plus_width}

-- a `-` stands first
abbrev pub is_negative : List ℕ → Bool
is_negative s = begins (ascii "-") s

-- the width of a leading `-` or `+`
abbrev pub sign_width : List ℕ → ℕ
sign_width s = cond (is_negative s) 1 (plus_width s)

-- what follows the sign
abbrev pub unsigned_of : List ℕ → List ℕ
unsigned_of s = drop (sign_width s) s

-- what stands before the first point
unfoldable pub integer_of : List ℕ → List ℕ
integer_of s = take (place (ascii ".") (unsigned_of s)) (unsigned_of s)

-- what stands after the first point
unfoldable pub fraction_of : List ℕ → List ℕ
fraction_of s = drop (place (ascii ".") (unsigned_of s) + 1) (unsigned_of s)

-- a number: after a sign or none only digits, parted by a point or not, and not the point alone
abbrev pub is_number : List ℕ → Bool
is_number s = all_digits (integer_of s) && (all_digits (fraction_of s) && ltb 0 (length (integer_of s) + length (fraction_of s)))

-- an exact value: (plus - minus) / 10 ^ places, in natural numbers
pub record Exact : Type 0 where
  pub plus : ℕ
  pub minus : ℕ
  pub places : ℕ

-- the value of this size, below zero or not
abbrev pub signed : Bool → ℕ → ℕ → Exact
signed true n k = record { plus = 0; minus = n; places = k }
signed false n k = record { plus = n; minus = 0; places = k }

-- the value of a number
abbrev pub exact_of : List ℕ → Exact
exact_of s = signed (is_negative s) (nat_of (integer_of s ++ fraction_of s)) (length (fraction_of s))

-- the order of natural numbers
abbrev pub orderℕ : ℕ → ℕ → Ordering
orderℕ a b = cond (ltb a b) Less (cond (ltb b a) Greater Equal)

-- the order of exact values: both sides times both powers of ten, and what is taken away moved over
abbrev pub order_of : Exact → Exact → Ordering
order_of x y = orderℕ (x.plus * 10 ^ y.places + y.minus * 10 ^ x.places) (y.plus * 10 ^ x.places + x.minus * 10 ^ y.places)

-- a text against the integer of this size, below zero or not; None of what is no number
unfoldable pub against : List ℕ → Bool → ℕ → Option Ordering
against s below size = cond (is_number s) (Some (order_of (exact_of s) (signed below size 0))) None

-- the digit 0
abbrev pub is_zero : ℕ → Bool
is_zero b = eqb b 48

-- integer digits that count: those from the first that is not 0
abbrev pub integer_digits : List ℕ → ℕ
integer_digits [] = 0
integer_digits (d ∷ s) = cond (is_zero d) (integer_digits s) (suc (length s))

-- fraction digits that count: those up to the last that is not 0
abbrev pub fraction_digits : List ℕ → ℕ
fraction_digits [] = 0
fraction_digits (d ∷ s) = cond (all is_zero (d ∷ s)) 0 (suc (fraction_digits s))

-- a number with at most k integer digits
unfoldable pub integer_at_most : List ℕ → ℕ → Bool
integer_at_most s k = is_number s && leb (integer_digits (integer_of s)) k

-- a number with at most k fraction digits
unfoldable pub fraction_at_most : List ℕ → ℕ → Bool
fraction_at_most s k = is_number s && leb (fraction_digits (fraction_of s)) k

-- a whole number
abbrev pub is_integer : List ℕ → Bool
is_integer s = fraction_at_most s 0

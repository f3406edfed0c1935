-- What a format condition can say of a value (docs/SEMANTICS.md, 'Format conditions'). Assumes nothing.
use Rattle.std.specs.Prelude.{ℕ, ◌+◌, List, [], ◌∷◌, Bool, true, false, not, ◌&&◌, ◌||◌, length, take, drop, leb, eqb, Option, Some, None}
use Rattle.text.specs.Quoted.{ascii}
use Rattle.text.specs.Bytes.{all, begins, ends, has}
use Rattle.text.specs.Digits.{all_digits}
use Rattle.utf8.specs.White.{among}
use Rattle.utf8.specs.Utf8.{is_utf8, decode, char_count}
use Rattle.decimal.specs.Decimal.{is_number, against, integer_at_most, fraction_at_most, is_integer}
use Rattle.std.specs.declared.cmp.Ordering.{Ordering}
use Rattle.std.specs.declared.cmp.Ordering.TheVariants.{Less, Equal, Greater}
use Rattle.moment.specs.Moments.{is_dtm_303, day_boundary}
use Rattle.formats.specs.declared.FormatVerdict.{FormatVerdict}
use Rattle.formats.specs.declared.FormatVerdict.TheVariants.{Holds, Violated}
use Rattle.formats.specs.declared.Relation.{Relation}
use Rattle.formats.specs.declared.Relation.TheVariants.{AtLeast, AtMost, GreaterThan, LessThan, Exactly, NotExactly}

-- the order is Less
abbrev pub is_less : Option Ordering → Bool
is_less (Some Less) = true
is_less (Some Equal) = false
is_less (Some Greater) = false
is_less None = false

-- the order is Equal
abbrev pub is_equal : Option Ordering → Bool
is_equal (Some Less) = false
is_equal (Some Equal) = true
is_equal (Some Greater) = false
is_equal None = false

-- the order is Greater
abbrev pub is_greater : Option Ordering → Bool
is_greater (Some Less) = false
is_greater (Some Equal) = false
is_greater (Some Greater) = true
is_greater None = false

-- the relations, by the order of exact values; what is no number stands in none
abbrev pub meets : Relation → Option Ordering → Bool
meets AtLeast o = is_equal o || is_greater o
meets AtMost o = is_less o || is_equal o
meets GreaterThan o = is_greater o
meets LessThan o = is_less o
meets Exactly o = is_equal o
meets NotExactly o = is_less o || is_greater o

-- one group of so many digits and the `-` after it stand in front
abbrev pub group_ahead : ℕ → List ℕ → Bool
group_ahead width s = all_digits (take width s) && begins (ascii "-") (drop width s)

-- groups of so many digits each, joined by `-`
unfoldable pub digit_groups : List ℕ → List ℕ → Bool
digit_groups [] s = false
digit_groups (w ∷ []) s = eqb (length s) w && all_digits s
digit_groups (w ∷ v ∷ ws) s = group_ahead w s && digit_groups (v ∷ ws) (drop (w + 1) s)

-- a lower-case letter of Latin-1
abbrev pub is_lower : ℕ → Bool
is_lower c = among ((0x61, 0x7A) ∷ (0xAA, 0xAA) ∷ (0xB5, 0xB5) ∷ (0xBA, 0xBA) ∷ (0xDF, 0xF6) ∷ (0xF8, 0xFF) ∷ []) c

-- what 918 admits: 20 to 7E and A0 to FF, without the lower-case letters
unfoldable pub is_unoc_upper : ℕ → Bool
is_unoc_upper c = among ((0x20, 0x7E) ∷ (0xA0, 0xFF) ∷ []) c && not (is_lower c)

-- the rules, each for all of its parameters
pub data Rule : Type 0 where
  -- a number in this relation to the integer of this size, below zero or not
  bound : Relation → Bool → ℕ → Rule
  -- any number
  any_number : Rule
  -- a whole number from the one to the other
  whole_between : ℕ → ℕ → Rule
  -- a number with at most so many fraction digits
  fraction_up_to : ℕ → Rule
  -- a number with at most so many integer digits
  integer_up_to : ℕ → Rule
  -- groups of so many digits each
  groups_of : List ℕ → Rule
  -- exactly so many characters
  length_is : ℕ → Rule
  -- at most so many characters
  length_up_to : ℕ → Rule
  -- this text at a byte of a value CCYYMMDDHHMMZZZ
  field_is : ℕ → List ℕ → Rule
  -- four digits in this relation to a number
  hhmm_in : Relation → ℕ → Rule
  -- the characters of 918
  unoc_upper : Rule
  -- the end of 931
  zzz_utc : Rule
  -- the two characters of 939
  email_shape : Rule
  -- the `+` and the digits of 940
  phone_shape : Rule
  -- a day boundary, in summer time and otherwise
  boundary_at : List ℕ → List ℕ → Rule
  -- one of two day boundaries
  boundary_of : List ℕ → List ℕ → List ℕ → List ℕ → Rule

-- a value passes a rule
abbrev pub passes : Rule → List ℕ → Bool
passes (bound relation below size) v = meets relation (against v below size)
passes any_number v = is_number v
passes (whole_between low high) v = meets AtLeast (against v false low) && (meets AtMost (against v false high) && is_integer v)
passes (fraction_up_to k) v = fraction_at_most v k
passes (integer_up_to k) v = integer_at_most v k
passes (groups_of widths) v = digit_groups widths v
passes (length_is k) v = eqb (char_count v) k
passes (length_up_to k) v = leb (char_count v) k
passes (field_is at text) v = is_dtm_303 v && begins text (drop at v)
passes (hhmm_in relation n) v = eqb (length v) 4 && (all_digits v && meets relation (against v false n))
passes unoc_upper v = is_utf8 v && all is_unoc_upper (decode v)
passes zzz_utc v = ends (ascii "+00") v
passes email_shape v = has (ascii "@") v && has (ascii ".") v
passes phone_shape v = leb 2 (length v) && (begins (ascii "+") v && all_digits (drop 1 v))
passes (boundary_at summer winter) v = day_boundary summer winter v
passes (boundary_of summer winter summer2 winter2) v = day_boundary summer winter v || day_boundary summer2 winter2 v

-- a test's outcome as a verdict
abbrev pub verdict_of : Bool → FormatVerdict
verdict_of true = Holds
verdict_of false = Violated

-- the verdict of a rule on a value
unfoldable pub judged : Rule → List ℕ → FormatVerdict
judged r v = verdict_of (passes r v)

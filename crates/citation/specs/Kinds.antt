-- The kind of a citation (docs/SEMANTICS.md, 'Kinds of citations'). Assumes nothing.
use Rattle.std.specs.Prelude.{get_or, ◌≡◌, refl, ℕ, List, [], ◌∷◌, map, cond, Result, Ok, Option, Some, None}
use mathlib.Mathlib.Logic.Function.Defs.{Injective, LeftInverse, LeftInverse-Injective}
use Rattle.refusal.specs.declared.Refusal.{Refusal}
use Rattle.text.specs.Quoted.{ascii}
use Rattle.text.specs.Bytes.{begins, has}
use Rattle.text.specs.Digits.{number_up_to}
use Rattle.utf8.specs.Utf8.{within}
use Rattle.utf8.specs.Limits.{text_limit, admitted}
use Rattle.citation.specs.declared.ConditionKind.{ConditionKind}
use Rattle.citation.specs.declared.ConditionKind.TheVariants.{Voraussetzung, Hinweis, Format, Wiederholbarkeit, Zeitpunkt, Paket, Other}

-- a kind's number among callers
abbrev pub kind_number : ConditionKind → ℕ
kind_number Voraussetzung = 0
kind_number Hinweis = 1
kind_number Format = 2
kind_number Wiederholbarkeit = 3
kind_number Zeitpunkt = 4
kind_number Paket = 5
kind_number Other = 6

-- the kind with this number; Other for what is none's
abbrev pub condition_kind_at : ℕ → ConditionKind
condition_kind_at n = get_or (Voraussetzung ∷ Hinweis ∷ Format ∷ Wiederholbarkeit ∷ Zeitpunkt ∷ Paket ∷ []) n Other

-- from a kind to its number and back
kind_back : LeftInverse condition_kind_at kind_number
kind_back Voraussetzung = refl
kind_back Hinweis = refl
kind_back Format = refl
kind_back Wiederholbarkeit = refl
kind_back Zeitpunkt = refl
kind_back Paket = refl
kind_back Other = refl

-- different kinds have different numbers
pub kind_number_injective : Injective kind_number
kind_number_injective = LeftInverse-Injective condition_kind_at kind_number kind_back

-- the kind by the number's range
unfoldable pub kind_of_number : ℕ → ConditionKind
kind_of_number n =
    cond (within 1 499 n) Voraussetzung
    (cond (within 500 899 n) Hinweis
    (cond (within 901 999 n) Format
    (cond (within 2000 2499 n) Wiederholbarkeit
    Other)))

-- at the ends of the ranges, from both sides
pub range_ends : map kind_of_number (0 ∷ 1 ∷ 499 ∷ 500 ∷ 899 ∷ 900 ∷ 901 ∷ 999 ∷ 1000 ∷ 1999 ∷ 2000 ∷ 2499 ∷ 2500 ∷ [])
    ≡ Other ∷ Voraussetzung ∷ Voraussetzung ∷ Hinweis ∷ Hinweis ∷ Other ∷ Format ∷ Format ∷ Other ∷ Other ∷ Wiederholbarkeit ∷ Wiederholbarkeit ∷ Other ∷ []
unfolding kind_of_number
range_ends = refl

-- the largest number that a citation can name
abbrev pub largest_number : ℕ
largest_number = 4294967295

-- the kind of what stands as a number, or of no number
abbrev pub kind_of_found : Option ℕ → ConditionKind
kind_of_found (Some n) = kind_of_number n
kind_of_found None = Other

-- the kind that a text names: `UB` in front first, then a `P`, then the number
unfoldable pub kind_of : List ℕ → ConditionKind
kind_of t = cond (begins (ascii "UB") t) Zeitpunkt (cond (has (ascii "P") t) Paket (kind_of_found (number_up_to largest_number t)))

-- the answer on a text
abbrev pub kind_answer : List ℕ → Result ConditionKind Refusal
kind_answer t = admitted text_limit t (Ok (kind_of t))

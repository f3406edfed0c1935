-- The refusals' numbers (README, 'What is turned back'). Assumes nothing.
use Rattle.std.specs.Prelude.{ℕ, ◌-◌, refl, List, [], ◌∷◌, get_or}
use mathlib.Mathlib.Logic.Function.Defs.{Injective, LeftInverse, LeftInverse-Injective}
use Rattle.refusal.specs.declared.Refusal.{Refusal}
use Rattle.refusal.specs.declared.Refusal.TheVariants.{Stray, Unterminated, EmptyCondition, MissingOperand, Parentheses, Empty, ChoiceOverNeutral, FailedAnswer, NoStatusWord, TooLong, NotUtf8, TooManyCitations, TooDeep, NoRoom, NotATree, WrongAnswers, NotAPaket}

-- a refusal's number
abbrev pub number_of : Refusal → ℕ
number_of Stray = 1
number_of Unterminated = 2
number_of EmptyCondition = 3
number_of MissingOperand = 4
number_of Parentheses = 5
number_of Empty = 6
number_of ChoiceOverNeutral = 7
number_of FailedAnswer = 8
number_of NoStatusWord = 9
number_of TooLong = 10
number_of NotUtf8 = 11
number_of TooManyCitations = 12
number_of TooDeep = 13
number_of NoRoom = 14
number_of NotATree = 15
number_of WrongAnswers = 16
number_of NotAPaket = 17

-- all refusals, in the order of their numbers, which begin with 1
abbrev pub refusals : List Refusal
refusals =
    Stray ∷ Unterminated ∷ EmptyCondition ∷ MissingOperand ∷ Parentheses ∷ Empty ∷ ChoiceOverNeutral
    ∷ FailedAnswer ∷ NoStatusWord ∷ TooLong ∷ NotUtf8 ∷ TooManyCitations ∷ TooDeep
    ∷ NoRoom ∷ NotATree ∷ WrongAnswers ∷ NotAPaket ∷ []

-- the refusal with this number; Stray for what is none's
abbrev pub refusal_at : ℕ → Refusal
refusal_at n = get_or refusals (n - 1) Stray

-- from a refusal to its number and back
pub number_back : LeftInverse refusal_at number_of
number_back Stray = refl
number_back Unterminated = refl
number_back EmptyCondition = refl
number_back MissingOperand = refl
number_back Parentheses = refl
number_back Empty = refl
number_back ChoiceOverNeutral = refl
number_back FailedAnswer = refl
number_back NoStatusWord = refl
number_back TooLong = refl
number_back NotUtf8 = refl
number_back TooManyCitations = refl
number_back TooDeep = refl
number_back NoRoom = refl
number_back NotATree = refl
number_back WrongAnswers = refl
number_back NotAPaket = refl

-- different refusals have different numbers
pub number_injective : Injective number_of
number_injective = LeftInverse-Injective refusal_at number_of number_back

-- The truth of a condition. Assumes nothing.
use Rattle.std.specs.Prelude.{get_or, refl, ℕ, [], ◌∷◌, Bool, true, false}
use mathlib.Mathlib.Logic.Function.Defs.{Injective, LeftInverse, LeftInverse-Injective}
use Rattle.citation.specs.declared.Truth.{Truth}
use Rattle.citation.specs.declared.Truth.TheVariants.{False, Unknown, True, Neutral}

-- a truth's number, as an answer byte has it
abbrev pub truth_number : Truth → ℕ
truth_number False = 0
truth_number Unknown = 1
truth_number True = 2
truth_number Neutral = 3

-- the truth with this number; Neutral for what is none's
abbrev pub truth_at : ℕ → Truth
truth_at n = get_or (False ∷ Unknown ∷ True ∷ []) n Neutral

-- from a truth to its number and back
truth_back : LeftInverse truth_at truth_number
truth_back False = refl
truth_back Unknown = refl
truth_back True = refl
truth_back Neutral = refl

-- different truths have different numbers
pub truth_number_injective : Injective truth_number
truth_number_injective = LeftInverse-Injective truth_at truth_number truth_back

-- a test's outcome as a truth
abbrev pub truth_of : Bool → Truth
truth_of true = True
truth_of false = False

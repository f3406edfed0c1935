-- What `evaluate` and `is_registered` answer. Assumes nothing.
use Rattle.std.specs.Prelude.{get_or, refl, ℕ, List, [], ◌∷◌, Bool, true, false, Result, Ok}
use mathlib.Mathlib.Logic.Function.Defs.{Injective, LeftInverse, LeftInverse-Injective}
use Rattle.refusal.specs.declared.Refusal.{Refusal}
use Rattle.utf8.specs.Limits.{text_limit, value_limit, admitted}
use Rattle.citation.specs.declared.Truth.{Truth}
use Rattle.citation.specs.declared.Truth.TheVariants.{False, Unknown, True}
use Rattle.citation.specs.Truths.{truth_number}
use Rattle.formats.specs.declared.FormatVerdict.{FormatVerdict}
use Rattle.formats.specs.declared.FormatVerdict.TheVariants.{Holds, Violated, Unregistered}
use Rattle.formats.specs.Table.{verdict, is_registered}

-- the truth that a verdict counts as
abbrev pub verdict_truth : FormatVerdict → Truth
verdict_truth Violated = False
verdict_truth Unregistered = Unknown
verdict_truth Holds = True

-- a verdict's number among callers: that of its truth
abbrev pub verdict_number : FormatVerdict → ℕ
verdict_number v = truth_number (verdict_truth v)

-- the verdict with this number; Holds for what is none's
abbrev pub verdict_at : ℕ → FormatVerdict
verdict_at n = get_or (Violated ∷ Unregistered ∷ []) n Holds

-- from a verdict to its number and back
verdict-back : LeftInverse verdict_at verdict_number
verdict-back Violated = refl
verdict-back Unregistered = refl
verdict-back Holds = refl

-- different verdicts have different numbers
pub verdict-number-injective : Injective verdict_number
verdict-number-injective = LeftInverse-Injective verdict_at verdict_number verdict-back

-- a verdict other than Unregistered
abbrev pub is_verdict : FormatVerdict → Bool
is_verdict Violated = true
is_verdict Unregistered = false
is_verdict Holds = true

-- the answer on a condition's text and a value: the text is tested first
abbrev pub verdict_answer : List ℕ → List ℕ → Result FormatVerdict Refusal
verdict_answer t v = admitted text_limit t (admitted value_limit v (Ok (verdict t v)))

-- the answer on a condition's text
abbrev pub registered_answer : List ℕ → Result Bool Refusal
registered_answer t = admitted text_limit t (Ok (is_registered t))

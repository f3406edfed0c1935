-- Answers of the C functions as numbers, computed. Assumes nothing.
use Rattle.std.specs.Prelude.{◌≡◌, refl, [], ◌∷◌, Ok, Err, Some, None}
use Rattle.refusal.specs.declared.Refusal.TheVariants.{NoRoom, NotAPaket}
use Rattle.citation.specs.declared.Truth.TheVariants.{False, Unknown, True, Neutral}
use Rattle.status.specs.declared.StatusKind.TheVariants.{Muss, K}
use Rattle.ahb.specs.Numbers.{expression, status, read_number, presence_number, verdicts_number}

-- 2^32, and 2^16 times the number of the truth, and the count; a refusal's own number
verdicts_numbers : verdicts_number (Ok (False, 3)) ∷ verdicts_number (Ok (Unknown, 0)) ∷ verdicts_number (Ok (True, 0)) ∷ verdicts_number (Ok (False, 256)) ∷ verdicts_number (Err NoRoom) ∷ []
    ≡ 4294967299 ∷ 4295032832 ∷ 4295098368 ∷ 4294967552 ∷ 14 ∷ []
verdicts_numbers = refl

-- 2^32, and 2^16 times the code, and the length
read_numbers : read_number (Ok (expression 23)) ∷ read_number (Ok (status (Muss, Some 80))) ∷ read_number (Ok (status (K, Some 23))) ∷ read_number (Ok (status (K, None))) ∷ read_number (Err NoRoom) ∷ []
    ≡ 4295426071 ∷ 4294967376 ∷ 4295360535 ∷ 4295360512 ∷ 14 ∷ []
read_numbers = refl

-- 256, and the number of the truth
presence_numbers : presence_number (Ok False) ∷ presence_number (Ok Neutral) ∷ presence_number (Err NotAPaket) ∷ [] ≡ 256 ∷ 259 ∷ 17 ∷ []
presence_numbers = refl

-- The answer of printing as a number. Assumes nothing.
use Rattle.std.specs.Prelude.{ℕ, Result}
use Rattle.refusal.specs.declared.Refusal.{Refusal}
use Rattle.ahb.specs.Numbers.{accepted_from, answer_number}

-- what `ahb_print` answers, by the length of the print
abbrev pub print_number : Result ℕ Refusal → ℕ
print_number r = answer_number accepted_from (λ n. n) r

-- The answers of the C functions as numbers. Assumes nothing.
use Rattle.std.specs.Prelude.{ℕ, ◌+◌, ◌*◌, Result, Ok, Err, Some, None}
use Rattle.status.specs.Status.{code_of}
use Rattle.citation.specs.declared.Truth.{Truth}
use Rattle.citation.specs.Truths.{truth_number}
use Rattle.grammar.specs.Outcome.{StatusSaid}
use Rattle.refusal.specs.declared.Refusal.{Refusal}
use Rattle.refusal.specs.Refusals.{number_of}

-- the least accepted answer of 64 bits, 2^32
abbrev pub accepted_from : ℕ
accepted_from = 4294967296

-- the least accepted answer of 32 bits
abbrev pub present_from : ℕ
present_from = 256

-- what one step of a code weighs, 2^16
abbrev pub code_step : ℕ
code_step = 65536

-- the code of an expression, where a status has the code of its word
abbrev pub expression_code : ℕ
expression_code = 7

-- an answer as one number: an accepted one's after the least, a refusal's its own
abbrev pub answer_number : {A : Type 0} → (least : ℕ) → (A → ℕ) → Result A Refusal → ℕ
answer_number least number (Ok a) = least + number a
answer_number least number (Err why) = number_of why

-- a code, and a length or a count
abbrev pub coded : (code length : ℕ) → ℕ
coded code length = code_step * code + length

-- what reading says: the length of an expression's tree, or a status
pub data ReadSaid : Type 0 where
  expression : ℕ → ReadSaid
  status : StatusSaid → ReadSaid

-- the number of an expression's tree
abbrev pub expression_number : ℕ → ℕ
expression_number n = coded expression_code n

-- the number of a status; a word alone has the length 0
abbrev pub status_number : StatusSaid → ℕ
status_number (k, None) = coded (code_of k) 0
status_number (k, Some n) = coded (code_of k) n

-- the number of what reading says
abbrev pub said_number : ReadSaid → ℕ
said_number (expression n) = expression_number n
said_number (status s) = status_number s

-- what `ahb_read` answers
abbrev pub read_number : Result ReadSaid Refusal → ℕ
read_number r = answer_number accepted_from said_number r

-- what `ahb_presence` answers
abbrev pub presence_number : Result Truth Refusal → ℕ
presence_number r = answer_number present_from truth_number r

-- the number of a format truth and a count of violations
abbrev pub judged_number : Truth × ℕ → ℕ
judged_number (v, n) = coded (truth_number v) n

-- what `ahb_verdicts` answers
abbrev pub verdicts_number : Result (Truth × ℕ) Refusal → ℕ
verdicts_number r = answer_number accepted_from judged_number r

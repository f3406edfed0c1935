-- What reading comes to before the buffer is looked at, by its mode. Assumes nothing.
use Rattle.std.specs.Prelude.{List, cond, ℕ, eqb}
use Rattle.refusal.specs.Result.{map_ok}
use Rattle.grammar.specs.Outcome.{Written, Outcome, parse_answer, status_answer}
use Rattle.ahb.specs.Numbers.{ReadSaid, expression, status}

-- the same bytes with the answer said otherwise
abbrev pub said_by : {A B : Type 0} → (A → B) → Written A → Written B
said_by f w = record { answer = f w.answer; bytes = w.bytes }

-- reading: an expression by mode 0, a status by any other
unfoldable pub read_answer : (mode : ℕ) (text : List ℕ) → Outcome ReadSaid
read_answer mode text = cond (eqb mode 0) (map_ok (said_by expression) (parse_answer text)) (map_ok (said_by status) (status_answer text))

-- Demand 3 for the gateway, in the numbers of the three functions for C and Rust: what is said. The theorems stand in proofs/Gateway. Assumes nothing.
use Rattle.std.specs.Prelude.{◌≡◌, List, ℕ}
use Rattle.grammar.specs.Outcome.{answer_of, written_of}
use Rattle.semantics.specs.Answers.{eval_answer, verdicts_answer}
use Rattle.ahb.specs.Numbers.{presence_number, verdicts_number}

-- what a tree and another are answered alike, in these numbers and in the bytes of a lent list
pub record NumbersAlike (a b : List ℕ) : Type 0 where
  pub presence : (answers : List ℕ) → presence_number (eval_answer a answers) ≡ presence_number (eval_answer b answers)
  pub verdicts : (value : List ℕ) (n : ℕ) → verdicts_number (answer_of (verdicts_answer a value) n) ≡ verdicts_number (answer_of (verdicts_answer b value) n)
  pub list : (value list : List ℕ) → written_of (verdicts_answer a value) list ≡ written_of (verdicts_answer b value) list

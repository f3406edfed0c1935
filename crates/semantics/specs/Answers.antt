-- What `eval`, `verdicts`, `eval_and_truth` and `pakete` answer on bytes, with the refusals in their order. Assumes nothing.
use Rattle.std.specs.Prelude.{List, ℕ, length, Result, Ok}
use Rattle.refusal.specs.declared.Refusal.{Refusal}
use Rattle.refusal.specs.Result.{unless, then, map_ok}
use Rattle.refusal.specs.declared.Refusal.TheVariants.{WrongAnswers}
use Rattle.utf8.specs.Limits.{value_limit, admitted}
use Rattle.citation.specs.declared.Truth.{Truth}
use Rattle.grammar.specs.Expr.{Expr, concat}
use Rattle.grammar.specs.Bytes.{tree_of}
use Rattle.semantics.specs.Presence.{presence, oracle_of, answers_fit}
use Rattle.semantics.specs.Truth.{truth}
use Rattle.semantics.specs.Violations.{violations, number_bytes}
use Rattle.semantics.specs.Packages.{pakete}
use Rattle.grammar.specs.Outcome.{Written, Outcome}

-- presence by answer bytes: 7 and 8 as met
abbrev pub presence_by : List ℕ → Expr → Result Truth Refusal
presence_by answers e = presence (oracle_of answers) 0 e

-- `eval`: 15, 16, then 7 and 8 as met
unfoldable pub eval_answer : (tree answers : List ℕ) → Result Truth Refusal
eval_answer tree answers = then (tree_of tree) (λ e. unless (answers_fit e answers) WrongAnswers (presence_by answers e))

-- a truth and how many numbers there are, and their bytes
abbrev pub with_numbers : Truth → List ℕ → Written (Truth × ℕ)
with_numbers v ns = record { answer = (v, length ns); bytes = number_bytes ns }

-- the format truth of an expression, and its violations
abbrev pub verdicts_outcome : (value : List ℕ) → Expr → Outcome (Truth × ℕ)
verdicts_outcome value e = Ok (with_numbers (truth value e) (violations value e))

-- `verdicts`: 15, then the value's 10 and 11
unfoldable pub verdicts_answer : (tree value : List ℕ) → Outcome (Truth × ℕ)
verdicts_answer tree value = then (tree_of tree) (λ e. admitted value_limit value (verdicts_outcome value e))

-- presence by answer bytes, once these fit and the value is admitted: 16, the value's 10 and 11, then 7 and 8 as met
abbrev pub admitted_presence : (answers value : List ℕ) → Expr → Result Truth Refusal
admitted_presence answers value e = unless (answers_fit e answers) WrongAnswers (admitted value_limit value (presence_by answers e))

-- `eval_and_truth`: 15, 16, the value's 10 and 11, then 7 and 8 as met
unfoldable pub eval_and_truth_answer : (tree answers value : List ℕ) → Result (Truth × Truth) Refusal
eval_and_truth_answer tree answers value =
    then (tree_of tree)
    (λ e. unless (answers_fit e answers) WrongAnswers (admitted value_limit value (map_ok (λ p. (p, truth value e)) (presence_by answers e))))

-- how many rows there are, and their bytes
abbrev pub rowed : List (List ℕ) → Written ℕ
rowed rs = record { answer = length rs; bytes = concat rs }

-- `pakete`: 15
unfoldable pub pakete_answer : (tree : List ℕ) → Outcome ℕ
pakete_answer tree = map_ok (λ e. rowed (pakete e)) (tree_of tree)

-- The number that is answered determines the answer. Assumes nothing.
use Rattle.std.specs.Prelude.{◌≡◌, List, ℕ, ◌≤◌, ◌<◌, eqb, Result, Ok, Err, Some, None}
use Rattle.std.proofs.Common.{ap, ◌∙◌, arith}
use Rattle.laws.specs.Tests.{cond_both}
use Rattle.refusal.specs.declared.Refusal.{Refusal}
use Rattle.refusal.specs.Refusals.{number_injective}
use Rattle.refusal.specs.Known.{Among, last_refusal, named_most, map-among}
use Rattle.status.specs.declared.StatusKind.{StatusKind}
use Rattle.status.specs.declared.StatusKind.TheVariants.{Muss, Soll, Kann, X, M, S, K}
use Rattle.status.specs.Status.{code_of, code_injective}
use Rattle.citation.specs.declared.Truth.{Truth}
use Rattle.citation.specs.Truths.{truth_number, truth_number_injective}
use Rattle.grammar.specs.Outcome.{answer_of, StatusSaid, parse_answer, status_answer}
use Rattle.semantics.specs.Answers.{eval_answer, verdicts_answer}
use Rattle.semantics.proofs.Known.{eval_known}
use Rattle.ahb.specs.Numbers.{accepted_from, present_from, answer_number, ReadSaid, expression, status, said_number, read_number, presence_number, judged_number, verdicts_number}
use Rattle.ahb.specs.Answers.{said_by, read_answer}
use Rattle.ahb.specs.Sizes.{Short, ShortStatus, CountFew, answer_among, parse-outcome, status_outcome_lem, verdicts-among}

module _ {A : Type 0} (least : ℕ) (number : A → ℕ) (P : A → Type 0) (same : (a b : A) → P a → P b → number a ≡ number b → a ≡ b) where
  -- a number over the refusals' tells the answer, if the answers' numbers do
  pub answer_number_injective : last_refusal < least → (a b : Result A Refusal) → Among P a → Among P b → answer_number least number a ≡ answer_number least number b → a ≡ b
  answer_number_injective l (Ok a) (Ok b) p q h = ap Ok (same a b p q (omega (arith, h)))
  answer_number_injective l (Ok a) (Err k) p q h = absurd (omega (arith, l, named_most q.0, q.1, h))
  answer_number_injective l (Err k) (Ok a) p q h = absurd (omega (arith, l, named_most p.0, p.1, h))
  answer_number_injective l (Err j) (Err k) p q h = ap Err (number_injective j k h)

code_most : (k : StatusKind) → code_of k ≤ 6
code_most Muss = omega arith
code_most Soll = omega arith
code_most Kann = omega arith
code_most X = omega arith
code_most M = omega arith
code_most S = omega arith
code_most K = omega arith

-- a status by its number
status_number_injective : (a b : StatusSaid) → ShortStatus a → ShortStatus b → said_number (status a) ≡ said_number (status b) → a ≡ b
status_number_injective (j, None) (k, None) p q h = ap (λ x. (x, None)) (code_injective j k (omega (arith, h)))
status_number_injective (j, None) (k, Some n) p q h = absurd (omega (arith, h, q.0, q.1))
status_number_injective (j, Some m) (k, None) p q h = absurd (omega (arith, h, p.0, p.1))
status_number_injective (j, Some m) (k, Some n) p q h =
    let code : code_of j ≡ code_of k = omega (arith, h, p.1, q.1) in
    let kind = code_injective j k code in
    let size : m ≡ n = omega (arith, h, code) in
    ap (λ x. (x, Some m)) kind ∙ ap (λ n. (k, Some n)) size

-- no status has the number of an expression
status_below : (s : StatusSaid) → ShortStatus s → said_number (status s) < said_number (expression 0)
status_below (k, None) p = omega (arith, code_most k)
status_below (k, Some n) p = omega (arith, code_most k, p.1)

-- what reading says, with a length that fits
abbrev pub ShortSaid : ReadSaid → Type 0
ShortSaid (expression n) = Short n
ShortSaid (status s) = ShortStatus s

said_number_injective : (a b : ReadSaid) → ShortSaid a → ShortSaid b → said_number a ≡ said_number b → a ≡ b
said_number_injective (expression m) (expression n) p q h = ap expression (omega (arith, h))
said_number_injective (expression m) (status s) p q h = absurd (omega (arith, h, status_below s q))
said_number_injective (status s) (expression n) p q h = absurd (omega (arith, h, status_below s p))
said_number_injective (status s) (status t) p q h = ap status (status_number_injective s t p q h)

-- the number of a reading whose length fits, or of a refusal of the table, is that of no other
pub read_number_injective : (a b : Result ReadSaid Refusal) → Among ShortSaid a → Among ShortSaid b → read_number a ≡ read_number b → a ≡ b
read_number_injective = answer_number_injective accepted_from said_number ShortSaid said_number_injective (omega arith)

-- every reading is of these
pub read-among : (mode : ℕ) (text : List ℕ) (n : ℕ) → Among ShortSaid (answer_of (read_answer mode text) n)
unfolding read_answer
read-among mode text n =
    answer_among ShortSaid _ n
    (cond_both (Among (λ w. ShortSaid w.answer)) (eqb mode 0) _ _ (λ _. map-among (λ w. ShortSaid w.answer) (said_by expression) (parse_answer text) (parse-outcome text))
    λ _. map-among (λ w. ShortSaid w.answer) (said_by status) (status_answer text) (status_outcome_lem text))

-- so what `ahb_read` answers tells what was read
pub read_determined : (mode mode' : ℕ) (text text' : List ℕ) (n n' : ℕ)
    → read_number (answer_of (read_answer mode text) n) ≡ read_number (answer_of (read_answer mode' text') n') → answer_of (read_answer mode text) n ≡ answer_of (read_answer mode' text') n'
read_determined mode mode' text text' n n' = read_number_injective _ _ (read-among mode text n) (read-among mode' text' n')

-- what `ahb_presence` answers tells the presence
pub presence_determined : (tree tree' answers answers' : List ℕ)
    → presence_number (eval_answer tree answers) ≡ presence_number (eval_answer tree' answers') → eval_answer tree answers ≡ eval_answer tree' answers'
presence_determined tree tree' answers answers' =
    answer_number_injective present_from truth_number (λ _. Unit {0}) (λ a b _ _. truth_number_injective a b) (omega arith) _ _ (eval_known tree answers) (eval_known tree' answers')

judged_number_injective : (a b : Truth × ℕ) → CountFew a → CountFew b → judged_number a ≡ judged_number b → a ≡ b
judged_number_injective (v, m) (w, n) p q h =
    let code : truth_number v ≡ truth_number w = omega (arith, h, p, q) in
    let count : m ≡ n = omega (arith, h, code) in
    ap (λ x. (x, m)) (truth_number_injective v w code) ∙ ap (λ n. (w, n)) count

-- what `ahb_verdicts` answers tells the truth and the count, or the refusal
pub verdicts_determined : (tree tree' value value' : List ℕ) (n n' : ℕ) → verdicts_number (answer_of (verdicts_answer tree value) n) ≡ verdicts_number (answer_of (verdicts_answer tree' value') n')
    → answer_of (verdicts_answer tree value) n ≡ answer_of (verdicts_answer tree' value') n'
verdicts_determined tree tree' value value' n n' =
    answer_number_injective accepted_from judged_number CountFew judged_number_injective (omega arith) _ _ (verdicts-among tree value n) (verdicts-among tree' value' n')

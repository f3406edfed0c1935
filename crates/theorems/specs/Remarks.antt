-- Sizes, what Unknown rests on, and what cannot arise, of every tree, read or not. Assumes nothing.
use Rattle.std.specs.Prelude.{◌≡◌, refl, List, Bool, true, false, ◌⊎◌, ℕ, ◌≤◌, leb, length, get_or, set, Result, Ok, Err}
use Rattle.std.proofs.Common.{sym, ap, ◌∙◌, inl, inr, arith}
use Rattle.refusal.specs.declared.Refusal.{Refusal}
use Rattle.refusal.specs.Result.{unless, then, map_ok, err≢ok, unless_ok}
use Rattle.refusal.specs.Refusals.{number_of}
use Rattle.refusal.specs.declared.Refusal.TheVariants.{TooLong, NotUtf8, NoRoom, NotATree, WrongAnswers}
use Rattle.utf8.specs.Utf8.{is_utf8, decode}
use Rattle.utf8.specs.Limits.{value_limit, admitted}
use Rattle.utf8.proofs.Limits.{admitted_ok}
use Rattle.citation.specs.declared.Truth.{Truth}
use Rattle.citation.specs.declared.Truth.TheVariants.{Unknown}
use Rattle.citation.specs.Truths.{truth_number}
use Rattle.grammar.specs.Expr.{Expr, citations}
use Rattle.grammar.specs.Lex.{lex}
use Rattle.grammar.specs.Print.{in_tokens, print, printed}
use Rattle.grammar.specs.Reading.{shallow, node_limit, print_limit}
use Rattle.grammar.specs.Rows.{span}
use Rattle.grammar.specs.Bytes.{bytes_of, is_tree, tree_at, tree_of, tree_limit}
use Rattle.grammar.specs.Outcome.{Written, answer_of, accepted}
use Rattle.grammar.specs.Pack.{IsBytes}
use Rattle.grammar.proofs.Theorems as grammar
use Rattle.semantics.specs.Rules.{is_unknown, is_neutral}
use Rattle.semantics.specs.Presence.{failed, oracle_of, answers_fit}
use Rattle.semantics.proofs.Evaluated as evaluated
use Rattle.semantics.specs.Evaluated.{evaluates}
use Rattle.semantics.specs.Truth.{truth}
use Rattle.semantics.specs.Violations.{violations, number_bytes}
use Rattle.semantics.proofs.Sentences.{answered_unknown}
use Rattle.semantics.proofs.Unknown as unknown
use Rattle.semantics.specs.Unknown.{UnregisteredAmong}
use Rattle.semantics.specs.Answers.{presence_by, eval_answer, with_numbers, verdicts_outcome, verdicts_answer, admitted_presence, eval_and_truth_answer}
use Rattle.verdicts.proofs.Laws.{map_tested}

-- the sizes of a tree, and of its print
pub record Small (b : List ℕ) (e : Expr) : Type 0 where
  pub nodes : span e ≤ node_limit
  pub bytes : length b ≤ tree_limit
  pub print_bytes : length (printed e) ≤ print_limit
  pub print_tokens : lex (decode (printed e)) ≡ Ok (print in_tokens e)
  pub print_deep : shallow 254 0 (print in_tokens e) ≡ true

-- what is a tree keeps these sizes
pub tree-small : (b : List ℕ) → IsBytes b → (e : Expr) → tree_of b ≡ Ok e → Small b e
tree-small b i e h =
    let t = grammar.tree_is_bytes b i e h in
    let s = grammar.print_shallow e t.1 in
    let l : length (bytes_of e) ≡ length b = ap length t.0 in
    record {
      nodes = grammar.few-nodes e t.1;
      bytes = omega (arith, l, grammar.few_bytes e t.1);
      print_bytes = grammar.print_short e t.1;
      print_tokens = s.0;
      print_deep = s.1;
    }

-- the limits as numbers
pub small_numbers : (node_limit ≡ 511) × (tree_limit ≡ 6150) × (print_limit ≡ 4343)
small_numbers = (refl, refl, refl)

-- the answer to a dropped citation does not matter, as long as it is one of the five
pub dropped_free : (tree answers : List ℕ) (e : Expr) (k x : ℕ) → tree_of tree ≡ Ok e → answers_fit e answers ≡ true
    → evaluates k 0 e ≡ false → x ≤ failed → eval_answer tree (set answers k x) ≡ eval_answer tree answers
dropped_free = evaluated.dropped_free

-- a tree that was tested, and what was answered on it
then_ok : {A B : Type 0} (r : Result A Refusal) (f : A → Result B Refusal) (b : B) → then r f ≡ Ok b → (a : A) × (r ≡ Ok a) × (f a ≡ Ok b)
unfolding then
then_ok (Ok a) f b h = (a, refl, h)
then_ok (Err k) f b h = absurd (err≢ok h)

-- an evaluated citation whose answer byte is that of Unknown
pub record UnknownAnswer (tree answers : List ℕ) : Type 0 where
  pub expr : Expr
  pub is_of : tree_of tree ≡ Ok expr
  pub number : ℕ
  pub is_evaluated : evaluates number 0 expr ≡ true
  pub answer : get_or answers number failed ≡ truth_number Unknown

-- an Unknown presence comes from an evaluated citation that was answered Unknown
pub unknown_cited : (tree answers : List ℕ) → eval_answer tree answers ≡ Ok Unknown → UnknownAnswer tree answers
unfolding eval_answer
unknown_cited tree answers h =
    let t = then_ok (tree_of tree) (λ e. unless (answers_fit e answers) WrongAnswers (presence_by answers e)) Unknown h in
    let p = unless_ok (answers_fit t.0 answers) WrongAnswers (presence_by answers t.0) Unknown t.2 in
    let u = unknown.unknown_cited (oracle_of answers) 0 t.0 p.1 in
    record { expr = t.0; is_of = t.1; number = u.number; is_evaluated = u.is_evaluated; answer = answered_unknown (get_or answers u.number failed) u.answer }

-- the tree is that of an expression with this format truth and so many violations
pub record HasVerdicts (tree value : List ℕ) (v : Truth) (k : ℕ) : Type 0 where
  pub expr : Expr
  pub is_of : tree_of tree ≡ Ok expr
  pub is_truth : truth value expr ≡ v
  pub is_count : length (violations value expr) ≡ k

-- what `verdicts` answers is the format truth of the tree's expression, and the count of its violations
pub verdicts_are : (tree value : List ℕ) (n : ℕ) (v : Truth) (k : ℕ) → answer_of (verdicts_answer tree value) n ≡ Ok (v, k) → HasVerdicts tree value v k
unfolding verdicts_answer
verdicts_are tree value n v k h =
    let a = accepted (verdicts_answer tree value) n (v, k) h in
    let w : Written (Truth × ℕ) = record { answer = (v, k); bytes = a.bytes } in
    let t = then_ok (tree_of tree) (λ e. admitted value_limit value (verdicts_outcome value e)) w a.came in
    let p = admitted_ok value_limit value (verdicts_outcome value t.0) w t.2 in
    let other : verdicts_outcome value t.0 ≡ Ok w = p.1 in
    let same : with_numbers (truth value t.0) (violations value t.0) ≡ w = cc in
    record { expr = t.0; is_of = t.1; is_truth = ap (λ x. x.answer.0) same; is_count = ap (λ x. x.answer.1) same }

-- a format truth that `verdicts` answers is Unknown only if a cited Format or Zeitpunkt condition is Unregistered
pub truth_unknown_cited : (tree value : List ℕ) (n k : ℕ) → answer_of (verdicts_answer tree value) n ≡ Ok (Unknown, k)
    → (e : Expr) × (tree_of tree ≡ Ok e) × UnregisteredAmong value (citations e)
truth_unknown_cited tree value n k h =
    let t = verdicts_are tree value n Unknown k h in
    (t.expr, t.is_of, unknown.truth_unknown_cited value 0 t.expr (ap is_unknown t.is_truth))

-- one of the refusals that `verdicts` can give
abbrev pub VerdictsRefusal : ℕ → Type 0
VerdictsRefusal k = (k ≡ number_of NotATree) ⊎ ((k ≡ number_of TooLong) ⊎ ((k ≡ number_of NotUtf8) ⊎ (k ≡ number_of NoRoom)))

-- `verdicts` refuses with 15, 10, 11 or 14 alone: 7 and 8 never arise
pub verdicts_refusals : (tree value : List ℕ) (n : ℕ) (why : Refusal) → answer_of (verdicts_answer tree value) n ≡ Err why → VerdictsRefusal (number_of why)
unfolding verdicts_answer tree_of then admitted answer_of
verdicts_refusals tree value n why h = by (is_tree tree) (leb (length value) value_limit) (is_utf8 value) h
  where
    number : {x y : Refusal} → ◌≡◌ {A = Result (Truth × ℕ) Refusal} (Err x) (Err y) → number_of y ≡ number_of x
    number {x} {y} h = let e : y ≡ x = cc in ap number_of e

    room : (fits : Bool) (a : Truth × ℕ) → unless fits NoRoom (Ok a) ≡ Err why → number_of why ≡ number_of NoRoom
    room true a h = absurd (err≢ok (sym h))
    room false a h = number h

    by : (t l u : Bool)
        → answer_of (then (unless t NotATree (Ok (tree_at tree 0))) (λ e. unless l TooLong (unless u NotUtf8 (verdicts_outcome value e)))) n ≡ Err why
        → VerdictsRefusal (number_of why)
    by false l u h = inl (number h)
    by true false u h = inr (inl (number h))
    by true true false h = inr (inr (inl (number h)))
    by true true true h =
        let ns = violations value (tree_at tree 0) in
        inr (inr (inr (room (leb (length (number_bytes ns)) n) (truth value (tree_at tree 0), length ns) h)))

-- a format truth that `verdicts` answers is False, Unknown or True
pub truth-filled : (tree value : List ℕ) → IsBytes tree → (n : ℕ) (v : Truth) (k : ℕ) → answer_of (verdicts_answer tree value) n ≡ Ok (v, k) → is_neutral v ≡ false
truth-filled tree value i n v k h =
    let t = verdicts_are tree value n v k h in
    let f = (grammar.tree_is_bytes tree i t.expr t.is_of).1 in
    sym (ap is_neutral t.is_truth) ∙ unknown.truth-filled value 0 t.expr f.wide

-- `eval_and_truth` is `eval_admitted` on the tree's expression, with the format truth beside the presence
pub both_admitted : (tree answers value : List ℕ)
    → eval_and_truth_answer tree answers value ≡ then (tree_of tree) (λ e. map_ok (λ p. (p, truth value e)) (admitted_presence answers value e))
unfolding eval_and_truth_answer then
both_admitted tree answers value = by (tree_of tree)
  where
    by : (r : Result Expr Refusal)
        → then {B = Truth × Truth} r (λ e. unless (answers_fit e answers) WrongAnswers (admitted value_limit value (map_ok (λ p. (p, truth value e)) (presence_by answers e))))
        ≡ then r (λ e. map_ok (λ p. (p, truth value e)) (admitted_presence answers value e))
    by (Ok e) = sym (map_tested (λ p. (p, truth value e)) (answers_fit e answers) value (presence_by answers e))
    by (Err why) = refl

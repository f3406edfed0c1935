-- Worked cases of presence, format truth, violations and package rows, one list and one proof for each. Assumes nothing.
use Rattle.std.specs.Prelude.{◌≡◌, refl, List, [], ◌∷◌, ◌++◌, ℕ, not, eqb, replicate, Result, Ok, Err}
use Prim.Native.String.{String}
use Rattle.refusal.specs.declared.Refusal.{Refusal}
use Rattle.refusal.specs.Result.{then, map_ok}
use Rattle.refusal.specs.declared.Refusal.TheVariants.{ChoiceOverNeutral, FailedAnswer, TooLong, NotUtf8, NoRoom, NotATree, WrongAnswers}
use Rattle.text.specs.Digits.{number_up_to}
use Rattle.utf8.specs.Utf8.{is_utf8, decode, encode_char, lead_of}
use Rattle.utf8.specs.White.{is_white}
use Rattle.utf8.specs.Limits.{admitted}
use Rattle.citation.specs.Kinds.{kind_of, kind_of_number}
use Rattle.citation.specs.Pakete.{paket_of, range_of}
use Rattle.citation.specs.declared.Truth.{Truth}
use Rattle.citation.specs.Truths.{truth_of}
use Rattle.citation.specs.declared.Truth.TheVariants.{False, Unknown, True, Neutral}
use Rattle.decimal.specs.Decimal.{integer_of, fraction_of, against}
use Rattle.formats.specs.Rules.{judged}
use Rattle.formats.specs.Table.{rule_of, verdict}
use Rattle.grammar.specs.Expr.{And, Or, Xor, Expr, cite, Then, join, none, ◌◂◌, citations, concat}
use Rattle.grammar.specs.Lex.{blank}
use Rattle.grammar.specs.Citable.{holds, citable}
use Rattle.grammar.specs.Rows.{op_kind, many, node, rows, firsts, rests, made, first, place, build}
use Rattle.grammar.specs.Bytes.{two_bytes, row_bytes, cite_bytes, head_bytes, packed, bytes_of, rows_from, cited_from, head_ok, size_of, tiles, row_ok, rows_ok, cites_ok, is_tree, forest_at, tree_at, tree_of}
use Rattle.grammar.specs.Quoted.{bytes}
use Rattle.semantics.specs.Rules.{any, every, and_rule, or_rule, two_true, xor_rule}
use Rattle.semantics.specs.Presence.{some_gate_with, some_free_with, before, presence_with, answered, answers_fit}
use Rattle.semantics.specs.Truth.{Counts, cited_truth, truth_with, truth}
use Rattle.semantics.specs.Violations.{violations_with, violations, number_bytes}
use Rattle.semantics.specs.Packages.{bytes_up_to, paket_bytes, rows_of, pakete}
use Rattle.grammar.specs.Outcome.{answer_of, written_of}
use Rattle.semantics.specs.Answers.{eval_answer, verdicts_answer, admitted_presence, eval_and_truth_answer}

-- a citation with a quoted text
abbrev c : String → Expr
c s = cite (bytes s)

-- operands joined by an operator
abbrev and2 : String → String → Expr
and2 a b = join And (c a ◂ c b ◂ none)

abbrev or2 : String → String → Expr
or2 a b = join Or (c a ◂ c b ◂ none)

abbrev xor3 : String → String → String → Expr
xor3 x y z = join Xor (c x ◂ c y ◂ c z ◂ none)

-- an expression, answer bytes, and what `eval` says
abbrev cases : List (Expr × List ℕ × Result Truth Refusal)
cases =
    (c "1", [], Err WrongAnswers)
    ∷ (c "1", 5 ∷ [], Err WrongAnswers)
    ∷ (c "1", 4 ∷ [], Err FailedAnswer)
    ∷ (and2 "500" "1", 4 ∷ 2 ∷ [], Err FailedAnswer)
    ∷ (and2 "1" "2", 0 ∷ 4 ∷ [], Err FailedAnswer)
    ∷ (and2 "1" "931", 2 ∷ 3 ∷ [], Ok True)
    ∷ (and2 "931" "932", 3 ∷ 3 ∷ [], Ok Neutral)
    ∷ (or2 "500" "1", 4 ∷ 2 ∷ [], Ok True)
    ∷ (or2 "500" "501", 4 ∷ 4 ∷ [], Ok Neutral)
    ∷ (or2 "1" "931", 2 ∷ 3 ∷ [], Err ChoiceOverNeutral)
    ∷ (or2 "1" "931", 4 ∷ 4 ∷ [], Err ChoiceOverNeutral)
    ∷ (or2 "1" "931", 4 ∷ 5 ∷ [], Err WrongAnswers)
    ∷ (or2 "1" "900", 2 ∷ 3 ∷ [], Err ChoiceOverNeutral)
    ∷ (or2 "1" "2P0..1", 0 ∷ 1 ∷ [], Ok Unknown)
    ∷ (join Or (and2 "500" "931" ◂ c "1" ◂ none), 3 ∷ 3 ∷ 2 ∷ [], Err ChoiceOverNeutral)
    ∷ (join Or (and2 "500" "501" ◂ c "1" ◂ none), 4 ∷ 4 ∷ 0 ∷ [], Ok False)
    ∷ (join And (c "1" ◂ or2 "1" "931" ◂ none), 4 ∷ 2 ∷ 2 ∷ [], Err FailedAnswer)
    ∷ (xor3 "1" "2" "3", 2 ∷ 2 ∷ 1 ∷ [], Ok False)
    ∷ (xor3 "1" "2" "3", 2 ∷ 2 ∷ 2 ∷ [], Ok False)
    ∷ (xor3 "1" "2" "3", 2 ∷ 2 ∷ 4 ∷ [], Err FailedAnswer)
    ∷ (xor3 "1" "2" "3", 2 ∷ 0 ∷ 1 ∷ [], Ok Unknown)
    ∷ (xor3 "1" "2" "3", 0 ∷ 2 ∷ 3 ∷ [], Ok True)
    ∷ (xor3 "1" "2" "3", 0 ∷ 3 ∷ 0 ∷ [], Ok False)
    ∷ []

abbrev said : List (Expr × List ℕ × Result Truth Refusal) → List (Result Truth Refusal)
said [] = []
said (x ∷ xs) = eval_answer (bytes_of x.0) x.1 ∷ said xs

abbrev wanted : List (Expr × List ℕ × Result Truth Refusal) → List (Result Truth Refusal)
wanted [] = []
wanted (x ∷ xs) = x.2 ∷ wanted xs

cases_hold : said cases ≡ wanted cases
unfolding eval_answer then map_ok tree_of is_tree head_ok tiles size_of rows_from cited_from rows_ok row_ok cites_ok citable is_utf8 decode lead_of blank holds is_white tree_at forest_at first build place made firsts rests encode_char bytes_of packed head_bytes row_bytes cite_bytes two_bytes rows node op_kind many citations concat answers_fit presence_with answered before and_rule or_rule xor_rule two_true any some_gate_with some_free_with every kind_of kind_of_number number_up_to
cases_hold = refl

-- no bytes are no tree, whatever the answers
no-tree : (answers : List ℕ) → eval_answer [] answers ≡ Err NotATree
unfolding eval_answer then tree_of is_tree head_ok
no-tree answers = refl

-- `([902] ∨ [903]) [1] ∧ [914]`
abbrev sample : Expr
sample = join And (Then (or2 "902" "903" ◂ c "1" ◂ none) ◂ c "914" ◂ none)

-- an expression, a value, its format truth and the numbers of the violations
abbrev judgements : List (Expr × List ℕ × Truth × List ℕ)
judgements =
    (sample, bytes "0", False, 3 ∷ [])
    ∷ (sample, bytes "2", True, [])
    ∷ (c "951", bytes "0", Unknown, [])
    ∷ (c "0902", bytes "-1", Unknown, [])
    ∷ (c " 902", bytes "-1", True, [])
    ∷ (c "900", bytes "0", True, [])
    ∷ (c "+0900", bytes "0", True, [])
    ∷ (or2 "900" "902", bytes "-1", True, [])
    ∷ (and2 "900" "951", bytes "0", Unknown, [])
    ∷ (and2 "902" "951", bytes "-1", False, 0 ∷ [])
    ∷ (or2 "902" "951", bytes "-1", Unknown, [])
    ∷ (xor3 "902" "909" "1", bytes "1", True, [])
    ∷ (and2 "902" "902", bytes "-1", False, 0 ∷ 1 ∷ [])
    ∷ (or2 "902" "903", bytes "-1", False, 0 ∷ 1 ∷ [])
    ∷ (join And (or2 "902" "951" ◂ c "914" ◂ none), bytes "-1", False, 2 ∷ [])
    ∷ (join And (xor3 "902" "903" "909" ◂ c "903" ◂ none), bytes "0", False, 3 ∷ [])
    ∷ (join And (join Or (and2 "902" "903" ◂ c "914" ◂ none) ◂ c "926" ◂ none), bytes "5", False, 3 ∷ [])
    ∷ (join And (join Or (c "903" ◂ and2 "902" "914" ◂ none) ◂ c "909" ◂ none), bytes "0", False, 0 ∷ 2 ∷ [])
    ∷ (join Or (join And (or2 "902" "903" ◂ c "914" ◂ none) ◂ c "903" ◂ none), bytes "0", False, 2 ∷ 3 ∷ [])
    ∷ (join Or (and2 "902" "903" ◂ c "1" ◂ none), bytes "0", True, [])
    ∷ []

abbrev judgements_said : List (Expr × List ℕ × Truth × List ℕ) → List (Truth × List ℕ)
judgements_said [] = []
judgements_said (x ∷ xs) = (truth x.1 x.0, violations x.1 x.0) ∷ judgements_said xs

abbrev judgements_wanted : List (Expr × List ℕ × Truth × List ℕ) → List (Truth × List ℕ)
judgements_wanted [] = []
judgements_wanted (x ∷ xs) = (x.2, x.3) ∷ judgements_wanted xs

judgements_hold : judgements_said judgements ≡ judgements_wanted judgements
unfolding truth_with cited_truth violations_with and_rule or_rule any citations kind_of kind_of_number number_up_to verdict rule_of judged against integer_of fraction_of encode_char
judgements_hold = refl

-- a truth for each citation by its number alone: only the number 2 counts as False
abbrev second_false : Counts
second_false n t = truth_of (not (eqb n 2))

-- the numbers go on from operand to operand, also where the texts are equal
numbers_go_on : (truth_with second_false 0 (and2 "1" "1") ≡ True) × (truth_with second_false 0 (join And (and2 "1" "1" ◂ c "1" ◂ none)) ≡ False)
    × (truth_with second_false 1 (and2 "1" "1") ≡ False) × (violations_with second_false 0 (Then (or2 "1" "1" ◂ c "1" ◂ none)) ≡ 2 ∷ [])
unfolding truth_with violations_with and_rule or_rule any citations
numbers_go_on = (refl, refl, refl, refl)

-- tree bytes, a value, the length of a buffer of 9s, what `verdicts` answers, and the buffer afterwards: 15 before the value's 10 and 11, and 14 after these
abbrev calls : List (List ℕ × List ℕ × ℕ × Result (Truth × ℕ) Refusal × List ℕ)
calls =
    ([], replicate 1025 0xFF, 1, Err NotATree, 9 ∷ [])
    ∷ (bytes_of sample, replicate 1025 0xFF, 1, Err TooLong, 9 ∷ [])
    ∷ (bytes_of sample, 0xFF ∷ [], 1, Err NotUtf8, 9 ∷ [])
    ∷ (bytes_of sample, bytes "0", 1, Err NoRoom, 9 ∷ [])
    ∷ (bytes_of sample, bytes "0", 3, Ok (False, 1), 3 ∷ 0 ∷ 9 ∷ [])
    ∷ (bytes_of sample, bytes "2", 0, Ok (True, 0), [])
    ∷ (bytes_of (c "951"), bytes "0", 1, Ok (Unknown, 0), 9 ∷ [])
    ∷ (bytes_of (and2 "902" "902"), bytes "-1", 4, Ok (False, 2), 0 ∷ 0 ∷ 1 ∷ 0 ∷ [])
    ∷ []

abbrev calls_said : List (List ℕ × List ℕ × ℕ × Result (Truth × ℕ) Refusal × List ℕ) → List (Result (Truth × ℕ) Refusal × List ℕ)
calls_said [] = []
calls_said (x ∷ xs) = (answer_of (verdicts_answer x.0 x.1) x.2, written_of (verdicts_answer x.0 x.1) (replicate x.2 9)) ∷ calls_said xs

abbrev calls_wanted : List (List ℕ × List ℕ × ℕ × Result (Truth × ℕ) Refusal × List ℕ) → List (Result (Truth × ℕ) Refusal × List ℕ)
calls_wanted [] = []
calls_wanted (x ∷ xs) = (x.3, x.4) ∷ calls_wanted xs

calls_hold : calls_said calls ≡ calls_wanted calls
unfolding answer_of written_of verdicts_answer then admitted tree_of is_tree head_ok tiles size_of rows_from cited_from rows_ok row_ok cites_ok citable is_utf8 decode lead_of blank holds is_white tree_at forest_at first build place made firsts rests encode_char bytes_of packed head_bytes row_bytes cite_bytes two_bytes rows node op_kind many citations concat number_bytes truth_with cited_truth violations_with and_rule or_rule any kind_of kind_of_number number_up_to verdict rule_of judged against integer_of fraction_of
calls_hold = refl

-- an expression, answer bytes, a value, and what `eval_and_truth` says: 16 before the value's 10 and 11, and these before 7 and 8
abbrev both : List (Expr × List ℕ × List ℕ × Result (Truth × Truth) Refusal)
both =
    (c "1", 4 ∷ [], 0xFF ∷ [], Err NotUtf8)
    ∷ (c "1", 5 ∷ [], 0xFF ∷ [], Err WrongAnswers)
    ∷ (c "1", 4 ∷ [], bytes "0", Err FailedAnswer)
    ∷ (or2 "1" "931", 2 ∷ 3 ∷ [], replicate 1025 0xFF, Err TooLong)
    ∷ (or2 "1" "931", 2 ∷ 3 ∷ [], bytes "0", Err ChoiceOverNeutral)
    ∷ (sample, 3 ∷ 3 ∷ 2 ∷ 3 ∷ [], bytes "0", Ok (True, False))
    ∷ []

abbrev both_said : List (Expr × List ℕ × List ℕ × Result (Truth × Truth) Refusal) → List (Result (Truth × Truth) Refusal)
both_said [] = []
both_said (x ∷ xs) = eval_and_truth_answer (bytes_of x.0) x.1 x.2 ∷ both_said xs

abbrev both_wanted : List (Expr × List ℕ × List ℕ × Result (Truth × Truth) Refusal) → List (Result (Truth × Truth) Refusal)
both_wanted [] = []
both_wanted (x ∷ xs) = x.3 ∷ both_wanted xs

both_hold : both_said both ≡ both_wanted both
unfolding eval_and_truth_answer then map_ok admitted tree_of is_tree head_ok tiles size_of rows_from cited_from rows_ok row_ok cites_ok citable is_utf8 decode lead_of blank holds is_white tree_at forest_at first build place made firsts rests encode_char bytes_of packed head_bytes row_bytes cite_bytes two_bytes rows node op_kind many citations concat answers_fit presence_with answered before and_rule or_rule xor_rule two_true any some_gate_with some_free_with every kind_of kind_of_number number_up_to truth_with cited_truth verdict rule_of judged against integer_of fraction_of
both_hold = refl

-- the same by the presence that `eval_admitted` answers, with the format truth beside it
abbrev admitted_said : List (Expr × List ℕ × List ℕ × Result (Truth × Truth) Refusal) → List (Result (Truth × Truth) Refusal)
admitted_said [] = []
admitted_said (x ∷ xs) = map_ok (λ p. (p, truth x.2 x.0)) (admitted_presence x.1 x.2 x.0) ∷ admitted_said xs

admitted_hold : admitted_said both ≡ both_wanted both
unfolding map_ok admitted is_utf8 decode lead_of encode_char citations answers_fit presence_with answered before and_rule or_rule xor_rule two_true any some_gate_with some_free_with every kind_of kind_of_number number_up_to truth_with cited_truth verdict rule_of judged against integer_of fraction_of
admitted_hold = refl

-- the package rows of `[2P5..2] [1] [XP1..2] [7P] [3P258..n]`: the unreadable one has none
packages : Expr
packages = Then (c "2P5..2" ◂ c "1" ◂ c "XP1..2" ◂ c "7P" ◂ c "3P258..n" ◂ none)

abbrev zeros : ℕ → List ℕ
zeros n = replicate n 0

packages_hold : pakete packages
    ≡ (0 ∷ 0 ∷ (5 ∷ zeros 7) ++ (1 ∷ 2 ∷ zeros 7))
    ∷ (3 ∷ 0 ∷ zeros 8 ++ zeros 9)
    ∷ (4 ∷ 0 ∷ (2 ∷ 1 ∷ zeros 6) ++ zeros 9)
    ∷ []
unfolding packages pakete rows_of paket_bytes bytes_up_to two_bytes citations kind_of kind_of_number paket_of range_of number_up_to encode_char
packages_hold = refl

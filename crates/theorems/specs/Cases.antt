-- The cases P1 to P12 (document 01's numbering): one list, one proof. Assumes nothing.
use Rattle.std.specs.Prelude.{◌≡◌, refl, List, [], ◌∷◌, ℕ, get_or, Result, Ok, Err}
use Prim.Native.String.{String}
use Rattle.refusal.specs.declared.Refusal.{Refusal}
use Rattle.refusal.specs.Result.{then, map_ok}
use Rattle.refusal.specs.declared.Refusal.TheVariants.{ChoiceOverNeutral, NoRoom}
use Rattle.text.specs.Digits.{number_up_to}
use Rattle.utf8.specs.Utf8.{is_utf8, decode, encode_char, lead_of}
use Rattle.utf8.specs.White.{is_white}
use Rattle.utf8.specs.Limits.{admitted}
use Rattle.citation.specs.declared.ConditionKind.{ConditionKind}
use Rattle.citation.specs.declared.ConditionKind.TheVariants.{Voraussetzung, Other}
use Rattle.citation.specs.Kinds.{kind_of, kind_of_number, kind_answer}
use Rattle.citation.specs.declared.Truth.{Truth}
use Rattle.citation.specs.declared.Truth.TheVariants.{False, True}
use Rattle.decimal.specs.Decimal.{integer_of, fraction_of, against, fraction_at_most}
use Rattle.calendar.specs.Calendar.{month_days, is_date, is_time, last_sunday, is_mesz}
use Rattle.moment.specs.Moments.{is_dtm_303, is_full_form, moment_of, exists, of_season, day_boundary}
use Rattle.formats.specs.declared.FormatVerdict.{FormatVerdict}
use Rattle.formats.specs.declared.FormatVerdict.TheVariants.{Holds, Violated}
use Rattle.formats.specs.Rules.{judged}
use Rattle.formats.specs.Table.{rule_of, verdict}
use Rattle.formats.specs.Answers.{verdict_answer}
use Rattle.grammar.specs.Expr.{And, Or, Xor, Expr, cite, join, none, ◌◂◌, ◌⧺◌, citations, concat}
use Rattle.grammar.specs.Lex.{blank, symbol, part, outer, inner, lex, texts}
use Rattle.grammar.specs.Citable.{holds, citable}
use Rattle.grammar.specs.Parse.{same, gather, whole, grow, value, read, parse}
use Rattle.grammar.specs.Print.{print, bracketed, sign_bytes}
use Rattle.grammar.specs.Reading.{some_token, few, shallow, tree, expression, reading}
use Rattle.grammar.specs.Rows.{op_kind, many, node, rows, firsts, rests, made, first, place, build}
use Rattle.grammar.specs.Bytes.{two_bytes, row_bytes, cite_bytes, head_bytes, packed, bytes_of, rows_from, cited_from, head_ok, size_of, tiles, row_ok, rows_ok, cites_ok, is_tree, forest_at, tree_at, tree_of}
use Rattle.grammar.specs.Quoted.{bytes}
use Rattle.semantics.specs.Rules.{any, every, and_rule, or_rule, two_true, xor_rule}
use Rattle.semantics.specs.Presence.{some_gate_with, some_free_with, before, presence_with, answered, answers_fit}
use Rattle.grammar.specs.Outcome.{answer_of, parse_answer, display_answer}
use Rattle.semantics.specs.Answers.{eval_answer}

-- what is said in a case: what a text reads as, the print of what it reads as, its presence by answer bytes, the answer of `parse` into a buffer, a verdict, a kind
pub data Said : Type 0 where
  reads : Result Expr Refusal → Said
  prints : Result (List ℕ) Refusal → Said
  presence_is : Result Truth Refusal → Said
  fits : Result ℕ Refusal → Said
  verdict_is : Result FormatVerdict Refusal → Said
  kind_is : Result ConditionKind Refusal → Said

-- the bytes that `display` writes for what a text reads as
abbrev pub print_of : String → Result (List ℕ) Refusal
print_of t = then (reading (bytes t)) (λ e. map_ok (λ w. w.bytes) (display_answer (bytes_of e)))

-- what `eval` answers on what a text reads as
abbrev pub presence_of : String → List ℕ → Result Truth Refusal
presence_of t answers = then (reading (bytes t)) (λ e. eval_answer (bytes_of e) answers)

-- the kind of the first citation of what a text reads as
abbrev pub kind_in : String → Result ConditionKind Refusal
kind_in t = then (reading (bytes t)) (λ e. kind_answer (get_or (citations e) 0 []))

abbrev c : String → Expr
c s = cite (bytes s)

abbrev verdict_on : String → String → Said
verdict_on t v = verdict_is (verdict_answer (bytes t) (bytes v))

-- each case: what the definitions say, and what is wanted
abbrev pub cases : List (Said × Said)
cases =
    -- P1
    (reads (reading (bytes "[1] ∧ [2] ∨ [3]")), reads (Ok (join Or (join And (c "1" ◂ c "2" ◂ none) ◂ c "3" ◂ none))))
    -- P2, with its group kept
    ∷ (reads (reading (bytes "([1] ⊻ [2]) ⊻ [3]")), reads (Ok (join Xor (join Xor (c "1" ◂ c "2" ◂ none) ◂ c "3" ◂ none))))
    ∷ (prints (print_of "([1] ⊻ [2]) ⊻ [3]"), prints (Ok (bytes "([1] ⊻ [2]) ⊻ [3]")))
    ∷ (presence_is (presence_of "([1] ⊻ [2]) ⊻ [3]" (2 ∷ 2 ∷ 2 ∷ [])), presence_is (Ok True))
    ∷ (reads (reading (bytes "[1] ⊻ [2] ⊻ [3]")), reads (Ok (join Xor (c "1" ◂ c "2" ◂ c "3" ◂ none))))
    ∷ (presence_is (presence_of "[1] ⊻ [2] ⊻ [3]" (2 ∷ 2 ∷ 2 ∷ [])), presence_is (Ok False))
    -- P3
    ∷ (prints (print_of "([1] [2]) [3]"), prints (Ok (bytes "[1] [2] [3]")))
    -- P4
    ∷ (presence_is (presence_of "[1] ⊻ [2] ⊻ [3]" (2 ∷ 2 ∷ 1 ∷ [])), presence_is (Ok False))
    -- P5
    ∷ (presence_is (presence_of "[500] ∨ [1]" (4 ∷ 2 ∷ [])), presence_is (Ok True))
    -- P6
    ∷ (presence_is (presence_of "[1] ∨ [1000]" (2 ∷ 2 ∷ [])), presence_is (Err ChoiceOverNeutral))
    -- P7
    ∷ (fits (answer_of (parse_answer (bytes "[1]")) 23), fits (Ok 23))
    ∷ (fits (answer_of (parse_answer (bytes "[1]")) 22), fits (Err NoRoom))
    -- P8
    ∷ (verdict_on "926" "-0.00", verdict_is (Ok Holds))
    -- P9
    ∷ (verdict_on "913" "99999", verdict_is (Ok Holds))
    ∷ (verdict_on "913" "1.5", verdict_is (Ok Violated))
    ∷ (verdict_on "913" "100000", verdict_is (Ok Violated))
    -- P10
    ∷ (verdict_on "937" "5.0", verdict_is (Ok Holds))
    -- P11
    ∷ (verdict_on "UB1" "202603282300+00", verdict_is (Ok Holds))
    ∷ (verdict_on "UB1" "202603292200+00", verdict_is (Ok Holds))
    ∷ (verdict_on "UB1" "202603292300+00", verdict_is (Ok Violated))
    -- P12
    ∷ (kind_is (kind_in "[+5]"), kind_is (Ok Voraussetzung))
    ∷ (kind_is (kind_in "[ 5]"), kind_is (Ok Other))
    ∷ []

-- what the definitions say, in order
abbrev pub said : List (Said × Said) → List Said
said [] = []
said (x ∷ xs) = x.0 ∷ said xs

-- what is wanted, in order
abbrev pub wanted : List (Said × Said) → List Said
wanted [] = []
wanted (x ∷ xs) = x.1 ∷ wanted xs

-- every case holds
pub cases_hold : said cases ≡ wanted cases
unfolding reading admitted is_utf8 decode encode_char lead_of expression then map_ok lex outer inner part is_white symbol blank tree some_token few texts concat shallow parse read value whole gather grow same ◌⧺◌ parse_answer display_answer answer_of eval_answer print bracketed sign_bytes tree_of is_tree head_ok tiles size_of rows_from cited_from rows_ok row_ok cites_ok citable holds tree_at forest_at first build place made firsts rests bytes_of packed head_bytes row_bytes cite_bytes two_bytes rows node op_kind many citations answers_fit presence_with answered before and_rule or_rule xor_rule two_true any every some_gate_with some_free_with kind_of kind_of_number number_up_to verdict rule_of judged against integer_of fraction_of fraction_at_most day_boundary is_full_form is_dtm_303 moment_of exists of_season is_date is_time is_mesz last_sunday month_days
cases_hold = refl

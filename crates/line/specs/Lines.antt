-- The lines that `ahbline` writes for its three lines (docs/FORMAT.md, 'The report'). Assumes nothing.
use Rattle.std.specs.Prelude.{List, [], ◌∷◌, ◌++◌, cond, ℕ, ◌+◌, ◌/◌, ◌%◌, eqb, ltb, length, get_or, Result, Ok, Err}
use Prim.Native.String.{String}
use Rattle.refusal.specs.Refusals.{number_of}
use Rattle.refusal.specs.declared.Refusal.{Refusal}
use Rattle.refusal.specs.Result.{then, map_ok}
use Rattle.citation.specs.declared.Truth.{Truth}
use Rattle.citation.specs.declared.Truth.TheVariants.{False, Unknown, True, Neutral}
use Rattle.citation.specs.Truths.{truth_number}
use Rattle.status.specs.declared.StatusKind.{StatusKind}
use Rattle.status.specs.Status.{word_of}
use Rattle.grammar.specs.Expr.{Expr, citations}
use Rattle.grammar.specs.Lex.{blank_char}
use Rattle.grammar.specs.Print.{printed}
use Rattle.grammar.specs.Status.{Stated, alone, stated, status_reading}
use Rattle.grammar.specs.Bytes.{bytes_of}
use Rattle.grammar.specs.Quoted.{bytes}
use Rattle.grammar.specs.Outcome.{Outcome, with_length}
use Rattle.semantics.specs.Presence.{failed}
use Rattle.semantics.specs.Violations.{violations}
use Rattle.semantics.specs.Packages.{pakete}
use Rattle.semantics.specs.Answers.{eval_and_truth_answer}

-- the byte that ends a line
abbrev pub line_feed : ℕ
line_feed = 0x0A

-- the answer byte of a letter: f u t n e, and a byte over 4 for any other
unfoldable pub answer_byte : ℕ → ℕ
answer_byte letter =
    cond (eqb letter 0x66) (truth_number False)
    (cond (eqb letter 0x75) (truth_number Unknown)
    (cond (eqb letter 0x74) (truth_number True)
    (cond (eqb letter 0x6E) (truth_number Neutral)
    (cond (eqb letter 0x65) failed
    (failed + 1)))))

-- the answer bytes of a line of letters
unfoldable pub answer_bytes : List ℕ → List ℕ
answer_bytes [] = []
answer_bytes (c ∷ cs) = answer_byte c ∷ answer_bytes cs

-- the digit of a number below 10
abbrev pub figure : ℕ → ℕ
figure d = 0x30 + d

-- a number below 1,000 in decimal
unfoldable pub figures : ℕ → List ℕ
figures n =
    cond (ltb n 10) (figure n ∷ [])
    (cond (ltb n 100) (figure (n / 10) ∷ figure (n % 10) ∷ [])
    (figure (n / 100) ∷ figure (n / 10 % 10) ∷ figure (n % 10) ∷ []))

-- the name of a truth
abbrev pub truth_name : Truth → List ℕ
truth_name False = bytes "False"
truth_name Unknown = bytes "Unknown"
truth_name True = bytes "True"
truth_name Neutral = bytes "Neutral"

-- the texts of these numbers, with a space before each
unfoldable pub named : List (List ℕ) → List ℕ → List ℕ
named texts [] = []
named texts (n ∷ ns) = blank_char ∷ (get_or texts n [] ++ named texts ns)

-- a line: its name and a space, what it says, a line feed
abbrev pub line : String → List ℕ → List ℕ
line name said = bytes name ++ (said ++ (line_feed ∷ []))

-- the five lines of a status word, a print, a presence, a package count and a format truth
unfoldable pub five_lines : StatusKind → (tree presence pakete format : List ℕ) → List ℕ
five_lines k tree presence pakete format =
    line "status " (word_of k) ++ (line "tree " tree ++ (line "presence " presence ++ (line "pakete " pakete ++ line "format " format)))

-- those of a status word alone
abbrev pub alone_lines : StatusKind → List ℕ
alone_lines k = let dash = bytes "-" in five_lines k dash dash dash dash

-- a format truth, and the texts of the violations
abbrev pub format_said : (value : List ℕ) → Truth → Expr → List ℕ
format_said value format e = truth_name format ++ named (citations e) (violations value e)

-- those of a status word and an expression with its presence and its format truth
abbrev pub tree_lines : StatusKind → Expr → (value : List ℕ) → (presence format : Truth) → List ℕ
tree_lines k e value presence format =
    five_lines k (printed e) (truth_name presence) (figures (length (pakete e))) (format_said value format e)

-- those of a status word and tree bytes by answer bytes: 16, the value's 10 and 11, then 7 and 8 as met
unfoldable pub judged_lines : StatusKind → (tree : List ℕ) → Expr → (answers value : List ℕ) → Result (List ℕ) Refusal
judged_lines k tree e answers value = map_ok (λ both. tree_lines k e value both.0 both.1) (eval_and_truth_answer tree answers value)

-- the lines of what was stated: a word alone looks at no other line
unfoldable pub stated_lines : Stated → (answers value : List ℕ) → Result (List ℕ) Refusal
stated_lines (alone k) answers value = Ok (alone_lines k)
stated_lines (stated k e) answers value = judged_lines k (bytes_of e) e (answer_bytes answers) value

-- a refusal is one line
abbrev pub shown : Result (List ℕ) Refusal → List ℕ
shown (Ok l) = l
shown (Err why) = line "refused " (figures (number_of why))

-- the lines for the three lines: the status's refusals come before the tree's
unfoldable pub lines : (status answers value : List ℕ) → List ℕ
lines status answers value = shown (then (status_reading status) (λ s. stated_lines s answers value))

-- `report`: the lines
unfoldable pub report_answer : (status answers value : List ℕ) → Outcome ℕ
report_answer status answers value = Ok (with_length (lines status answers value))

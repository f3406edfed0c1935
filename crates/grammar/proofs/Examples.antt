-- Worked cases of reading and printing, one list and one proof for each kind. Assumes nothing.
use Rattle.std.specs.Prelude.{◌≡◌, refl, List, [], ◌∷◌, ◌++◌, true, false, ℕ, zero, suc, Result, Ok, Err}
use Prim.Native.String.{String}
use Rattle.refusal.specs.declared.Refusal.{Refusal}
use Rattle.refusal.specs.Result.{then, map_ok}
use Rattle.refusal.specs.declared.Refusal.TheVariants.{Stray, Unterminated, EmptyCondition, MissingOperand, Parentheses, Empty, NoStatusWord, TooLong, NotUtf8, TooManyCitations, TooDeep, NotATree}
use Rattle.utf8.specs.Utf8.{is_utf8, decode, encode_char, lead_of}
use Rattle.utf8.specs.White.{is_white}
use Rattle.utf8.specs.Limits.{admitted}
use Rattle.status.specs.declared.StatusKind.TheVariants.{Muss, X}
use Rattle.status.specs.Status.{kind_among, kind_of_word}
use Rattle.grammar.specs.Expr.{And, Or, Xor, Expr, Exprs, cite, Then, join, none, ◌◂◌, ◌⧺◌, citations, concat}
use Rattle.grammar.specs.Lex.{Tok, cited, op, opening, closing, blank, symbol, part, outer, inner, lex, texts}
use Rattle.grammar.specs.Rules.{Term, Expression, Derives, citation, grouped, empty, next, single, several, pair, longer, another, lone, chained}
use Rattle.grammar.specs.Citable.{holds, citable}
use Rattle.grammar.specs.Parse.{same, gather, whole, grow, value, read, parse}
use Rattle.grammar.specs.Print.{printed, print, bracketed, sign_bytes}
use Rattle.grammar.specs.Flat.{flat, operands}
use Rattle.grammar.specs.Reading.{some_token, few, shallow, tree, expression, reading}
use Rattle.grammar.specs.Status.{ended, words_from, words, spaced, joined, Stated, alone, stated, after_word, of_words, status_reading}
use Rattle.grammar.specs.Rows.{op_kind, many, node, rows, firsts, rests, made, first, place, build}
use Rattle.grammar.specs.Bytes.{two_bytes, row_bytes, cite_bytes, head_bytes, packed, bytes_of, rows_from, cited_from, head_ok, size_of, tiles, row_ok, rows_ok, cites_ok, is_tree, forest_at, tree_at, tree_of}
use Rattle.grammar.specs.Quoted.{bytes}

-- a citation with a quoted text
abbrev c : String → Expr
c s = cite (bytes s)

abbrev repeat : ℕ → List ℕ → List ℕ
repeat zero s = []
repeat (suc n) s = s ++ repeat n s

-- what texts read as, in order
abbrev readings : List (List ℕ × Result Expr Refusal) → List (Result Expr Refusal)
readings [] = []
readings (x ∷ xs) = reading x.0 ∷ readings xs

-- what they are to read as
abbrev wanted : List (List ℕ × Result Expr Refusal) → List (Result Expr Refusal)
wanted [] = []
wanted (x ∷ xs) = x.1 ∷ wanted xs

abbrev cases : List (List ℕ × Result Expr Refusal)
cases =
    (bytes "[1 [2]", Ok (c "1 [2"))
    ∷ (bytes "[[ ]", Ok (c "[ "))
    ∷ (bytes "[ 1 ]", Ok (c " 1 "))
    ∷ (bytes "[ ", Err Unterminated)
    ∷ (bytes "[ ]", Err EmptyCondition)
    ∷ (bytes "]", Err Stray)
    ∷ (bytes "[1] + [ ]", Err Stray)
    ∷ (bytes "[ ] + [2", Err EmptyCondition)
    ∷ (bytes "[1] ∧ [2", Err Unterminated)
    ∷ (bytes "   ", Err Empty)
    ∷ (bytes "[1] ∧", Err MissingOperand)
    ∷ (bytes "∧ [1]", Err MissingOperand)
    ∷ (bytes "[1] ∧ )", Err MissingOperand)
    ∷ (bytes "(", Err MissingOperand)
    ∷ (bytes "()", Err MissingOperand)
    ∷ (bytes "([1]", Err Parentheses)
    ∷ (bytes "[1]) ∧", Err Parentheses)
    ∷ (bytes "[1] ∧ [2] ∨ [3]", Ok (join Or (join And (c "1" ◂ c "2" ◂ none) ◂ c "3" ◂ none)))
    ∷ (bytes "[1] ∧ [2] ∨ [3] ∨ [4]", Ok (join Or (join And (c "1" ◂ c "2" ◂ none) ◂ c "3" ◂ c "4" ◂ none)))
    ∷ (bytes "[1] ∨ [2] [3]", Ok (join Or (c "1" ◂ Then (c "2" ◂ c "3" ◂ none) ◂ none)))
    ∷ (bytes "([1] [2]) [3]", Ok (Then (Then (c "1" ◂ c "2" ◂ none) ◂ c "3" ◂ none)))
    ∷ (bytes "[1] ([2] [3])", Ok (Then (c "1" ◂ Then (c "2" ◂ c "3" ◂ none) ◂ none)))
    ∷ (bytes "(([1]))", Ok (c "1"))
    ∷ (bytes "[1] ⊻ [2] ⊻ [3]", Ok (join Xor (c "1" ◂ c "2" ◂ c "3" ◂ none)))
    ∷ (bytes "([1] ⊻ [2]) ⊻ [3]", Ok (join Xor (join Xor (c "1" ◂ c "2" ◂ none) ◂ c "3" ◂ none)))
    ∷ (bytes "(([1] ⊻ [2])) ⊻ [3] ⊻ [4]", Ok (join Xor (join Xor (c "1" ◂ c "2" ◂ none) ◂ c "3" ◂ c "4" ◂ none)))
    ∷ (bytes "([1] ⊻ [2])", Ok (join Xor (c "1" ◂ c "2" ◂ none)))
    ∷ (bytes "[1] ⊻ ([2] ⊻ [3])", Ok (join Xor (c "1" ◂ join Xor (c "2" ◂ c "3" ◂ none) ◂ none)))
    ∷ (bytes "([1] ∧ [2] ∨ [3]) ∨ [4]", Ok (join Or (join Or (join And (c "1" ◂ c "2" ◂ none) ◂ c "3" ◂ none) ◂ c "4" ◂ none)))
    ∷ (bytes "([1] ∨ [2] ∧ [3]) ∨ [4]", Ok (join Or (join And (join Or (c "1" ◂ c "2" ◂ none) ◂ c "3" ◂ none) ◂ c "4" ◂ none)))
    ∷ (bytes "([1] ∨ [2]) [3] ∨ [4]", Ok (join Or (Then (join Or (c "1" ◂ c "2" ◂ none) ◂ c "3" ◂ none) ◂ c "4" ◂ none)))
    ∷ []

cases_hold : readings cases ≡ wanted cases
unfolding reading admitted is_utf8 decode encode_char lead_of expression then map_ok lex outer inner part is_white symbol blank tree some_token few texts concat shallow parse read value whole gather grow same ◌⧺◌
cases_hold = refl

-- a token that cites a quoted text, and the term that it is
abbrev t : String → Tok
t s = cited (bytes s)

word : (s : String) → Derives (t s ∷ []) (Term (c s))
unfolding ◌⧺◌
word s = single (next empty (citation (bytes s)))

-- what the rules derive from the tokens of `([1] ⊻ [2]) ⊻ [3] [4] ∧ [5] ∧ ([6])`, each rule used
derived : Derives (opening ∷ t "1" ∷ op Xor ∷ t "2" ∷ closing ∷ op Xor ∷ t "3" ∷ t "4" ∷ op And ∷ t "5" ∷ op And ∷ opening ∷ t "6" ∷ closing ∷ [])
    (Expression (join And (join Xor (join Xor (c "1" ◂ c "2" ◂ none) ◂ Then (c "3" ◂ c "4" ◂ none) ◂ none) ◂ c "5" ◂ c "6" ◂ none)))
unfolding ◌⧺◌ same
derived =
    let group = grouped (chained (pair (word "1") Xor (word "2"))) in
    let run = next (next empty (citation (bytes "3"))) (citation (bytes "4")) in
    chained (longer (another (pair (single (next empty group)) Xor (several run tt)) And refl (word "5")) (single (next empty (grouped (lone (word "6"))))))

abbrev times : ℕ → Exprs → Exprs
times zero es = es
times (suc n) es = times n (c "1" ◂ es)

-- the limits: 10, 11, 12 and 13, whose count never falls below 0
abbrev limits : List (List ℕ × Result Expr Refusal)
limits =
    (repeat 4401 (bytes " "), Err TooLong)
    ∷ (repeat 4400 (bytes " "), Err Empty)
    ∷ (0xFF ∷ [], Err NotUtf8)
    ∷ (repeat 256 (bytes "[1]"), Ok (Then (times 256 none)))
    ∷ (repeat 257 (bytes "[1]"), Err TooManyCitations)
    ∷ (repeat 257 (bytes "(") ++ repeat 257 (bytes "[1]"), Err TooManyCitations)
    ∷ (repeat 257 (bytes "("), Err TooDeep)
    ∷ (repeat 300 (bytes ")") ++ repeat 257 (bytes "("), Err TooDeep)
    ∷ (repeat 300 (bytes ")") ++ repeat 256 (bytes "("), Err MissingOperand)
    ∷ []

limits_hold : readings limits ≡ wanted limits
unfolding reading admitted is_utf8 decode encode_char lead_of expression then map_ok lex outer inner part is_white symbol blank tree some_token few texts concat shallow parse read value whole gather grow same ◌⧺◌
limits_hold = refl

-- 2,048 bytes in the citations, and one more
cited_limit_lem : (few (repeat 2048 (bytes "1") ∷ []) ≡ true) × (few (repeat 2047 (bytes "1") ∷ bytes "23" ∷ []) ≡ false)
unfolding few concat encode_char
cited_limit_lem = (refl, refl)

abbrev statuses : List (List ℕ × Result Stated Refusal) → List (Result Stated Refusal)
statuses [] = []
statuses (x ∷ xs) = status_reading x.0 ∷ statuses xs

abbrev statuses_wanted : List (List ℕ × Result Stated Refusal) → List (Result Stated Refusal)
statuses_wanted [] = []
statuses_wanted (x ∷ xs) = x.1 ∷ statuses_wanted xs

abbrev status_cases : List (List ℕ × Result Stated Refusal)
status_cases =
    (bytes " X ", Ok (alone X))
    ∷ (bytes "X[1]", Err NoStatusWord)
    ∷ (bytes "  ", Err NoStatusWord)
    ∷ (bytes "muss [1]", Err NoStatusWord)
    ∷ (bytes "Muss [1]", Ok (stated Muss (c "1")))
    ∷ (bytes "[ X", Err NoStatusWord)
    ∷ (bytes "X [ ]", Err EmptyCondition)
    ∷ (bytes "X\t[1]  ∧ [2]", Ok (stated X (join And (c "1" ◂ c "2" ◂ none))))
    ∷ (bytes "X [1" ++ repeat 4000 (bytes " ") ++ bytes "2]", Ok (stated X (c "1 2")))
    ∷ []

statuses_hold : statuses status_cases ≡ statuses_wanted status_cases
unfolding status_reading of_words kind_of_word kind_among after_word words words_from ended spaced joined admitted is_utf8 decode encode_char lead_of expression then map_ok lex outer inner part is_white symbol blank tree some_token few texts concat shallow parse read value whole gather grow same ◌⧺◌
statuses_hold = refl

-- expressions and their prints
abbrev prints : List (Expr × List ℕ)
prints =
    (Then (Then (c "1" ◂ c "2" ◂ none) ◂ c "3" ◂ none), bytes "[1] [2] [3]")
    ∷ (join Xor (join Xor (c "1" ◂ c "2" ◂ none) ◂ c "3" ◂ none), bytes "([1] ⊻ [2]) ⊻ [3]")
    ∷ (join Or (join And (c "1" ◂ c "2" ◂ none) ◂ c " 3" ◂ none), bytes "([1] ∧ [2]) ∨ [ 3]")
    ∷ (join Xor (c "1" ◂ Then (c "2" ◂ c "3" ◂ none) ◂ none), bytes "[1] ⊻ [2] [3]")
    ∷ (join And (Then (join Or (c "902" ◂ c "903" ◂ none) ◂ c "1" ◂ none) ◂ c "914" ◂ none), bytes "([902] ∨ [903]) [1] ∧ [914]")
    ∷ []

abbrev prints_of : List (Expr × List ℕ) → List (List ℕ)
prints_of [] = []
prints_of (x ∷ xs) = printed x.0 ∷ prints_of xs

abbrev prints_wanted : List (Expr × List ℕ) → List (List ℕ)
prints_wanted [] = []
prints_wanted (x ∷ xs) = x.1 ∷ prints_wanted xs

prints_hold : prints_of prints ≡ prints_wanted prints
unfolding print bracketed sign_bytes symbol encode_char
prints_hold = refl

-- the flat tree dissolves a Then in a Then, at every depth, and nothing else: no group in front or behind
flat_case : flat (Then (Then (Then (c "1" ◂ c "2" ◂ none) ◂ c "3" ◂ none) ◂ join Or (join Or (c "4" ◂ c "5" ◂ none) ◂ join Or (c "6" ◂ c "7" ◂ none) ◂ none) ◂ none))
    ≡ Then (c "1" ◂ c "2" ◂ c "3" ◂ join Or (join Or (c "4" ◂ c "5" ◂ none) ◂ join Or (c "6" ◂ c "7" ◂ none) ◂ none) ◂ none)
unfolding flat operands ◌⧺◌ encode_char
flat_case = refl

-- the tree bytes of `[1] ∨ [23]`
abbrev small : List ℕ
small =
    3 ∷ 0 ∷ 2 ∷ 0 ∷ 12 ∷ 0 ∷ 30 ∷ 0 ∷ 38 ∷ 0 ∷ 41 ∷ 0
    ∷ 3 ∷ 0 ∷ 2 ∷ 0 ∷ 3 ∷ 0
    ∷ 0 ∷ 0 ∷ 0 ∷ 0 ∷ 1 ∷ 0
    ∷ 0 ∷ 0 ∷ 1 ∷ 0 ∷ 1 ∷ 0
    ∷ 0 ∷ 0 ∷ 1 ∷ 0
    ∷ 1 ∷ 0 ∷ 2 ∷ 0
    ∷ 0x31 ∷ 0x32 ∷ 0x33 ∷ []

small_bytes : bytes_of (join Or (c "1" ◂ c "23" ◂ none)) ≡ small
unfolding bytes_of packed head_bytes row_bytes cite_bytes two_bytes rows node op_kind many citations concat encode_char
small_bytes = refl

small-tree : tree_of small ≡ Ok (join Or (c "1" ◂ c "23" ◂ none))
unfolding tree_of is_tree head_ok tiles size_of rows_from cited_from rows_ok row_ok cites_ok citable is_utf8 decode lead_of blank holds is_white tree_at forest_at first build place made firsts rests encode_char
small-tree = refl

-- no bytes are no tree
no-tree : tree_of [] ≡ Err NotATree
unfolding tree_of is_tree head_ok
no-tree = refl

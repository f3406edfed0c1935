-- Runs of characters: white space, words, the text of a citation. Assumes nothing.
use Rattle.std.specs.Prelude.{◌≡◌, ℕ, ◌+◌, ◌^◌, ◌<◌, Bool, true, false, cond, List, [], ◌∷◌, eqb, length, drop, Option, Some, None}
use Rattle.laws.specs.Tests.{agree}
use Rattle.utf8.specs.Utf8.{decode, encode}
use Rattle.utf8.specs.White.{is_white}
use Rattle.grammar.specs.Lex.{blank_char}
use Rattle.lexer.specs.declared.Span.{Span}

-- the characters in front that are white space, for true; that are not, for false
unfoldable pub leading : Bool → List ℕ → List ℕ
leading w [] = []
leading w (c ∷ cs) = cond (agree (is_white c) w) (c ∷ leading w cs) []

-- the characters after those
unfoldable pub trailing : Bool → List ℕ → List ℕ
trailing w [] = []
trailing w (c ∷ cs) = cond (agree (is_white c) w) (trailing w cs) (c ∷ cs)

-- the place after the characters from `at` on that are white space, or that are not
abbrev pub run_end : Bool → List ℕ → ℕ → ℕ
run_end w s at = at + length (encode (leading w (decode (drop at s))))

-- a test's answers say of each character whether a run goes on: one of white space, for true; one of none, for false
abbrev pub GoesOn : Bool → (ℕ → Bool → Type 0) → Type 0
GoesOn w answers = (c : ℕ) (b : Bool) → c < 2 ^ 32 → answers c b → b ≡ agree (is_white c) w

-- what stands before the first x, or all
unfoldable pub up_to : ℕ → List ℕ → List ℕ
up_to x [] = []
up_to x (c ∷ cs) = cond (eqb c x) [] (c ∷ up_to x cs)

-- the first x and what stands after it, or nothing
unfoldable pub from_on : ℕ → List ℕ → List ℕ
from_on x [] = []
from_on x (c ∷ cs) = cond (eqb c x) (c ∷ cs) (from_on x cs)

-- the first word of a text: the part after leading white space and before the next
unfoldable pub first_word : List ℕ → Span
first_word s = record { from = run_end true s 0; end = run_end false s (run_end true s 0) }

-- what `Words` gives at a place, and the place after it: the part after white space and before the next; nothing where that is empty
abbrev pub NextWord : List ℕ → ℕ → Option Span → ℕ → Type 0
NextWord s at None next = (run_end false s (run_end true s at) ≡ run_end true s at) × (next ≡ at)
NextWord s at (Some word) next = (word.from ≡ run_end true s at) × (word.end ≡ run_end false s word.from) × (word.from < word.end) × (next ≡ word.end)

-- what is written between n bytes of joined words and the next word
abbrev pub gap : ℕ → List ℕ
gap n = cond (eqb n 0) [] (blank_char ∷ [])

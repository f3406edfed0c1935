-- Reading a status: a status word, and the expression after it. Assumes nothing.
use Rattle.std.specs.Prelude.{List, [], ◌∷◌, ◌++◌, cond, ℕ, Result, Ok, Err}
use Rattle.refusal.specs.declared.Refusal.{Refusal}
use Rattle.refusal.specs.Result.{map_ok, then}
use Rattle.refusal.specs.declared.Refusal.TheVariants.{NoStatusWord}
use Rattle.utf8.specs.Utf8.{decode, encode}
use Rattle.utf8.specs.White.{is_white}
use Rattle.utf8.specs.Limits.{text_limit, admitted}
use Rattle.status.specs.declared.StatusKind.{StatusKind}
use Rattle.status.specs.Status.{kind_of_word}
use Rattle.grammar.specs.Expr.{Expr}
use Rattle.grammar.specs.Lex.{blank_char}
use Rattle.grammar.specs.Reading.{expression}

-- a word that has ended, if there is one
unfoldable pub ended : List ℕ → List (List ℕ)
ended [] = []
ended (c ∷ t) = (c ∷ t) ∷ []

-- the words of characters, which white space splits, after the characters t of the first
unfoldable pub words_from : List ℕ → List ℕ → List (List ℕ)
words_from t [] = ended t
words_from t (c ∷ cs) = let others = words_from [] cs in let longer = words_from (t ++ (c ∷ [])) cs in cond (is_white c) (ended t ++ others) longer

-- the words of characters
unfoldable pub words : List ℕ → List (List ℕ)
words cs = words_from [] cs

-- words with a space before each
unfoldable pub spaced : List (List ℕ) → List ℕ
spaced [] = []
spaced (w ∷ ws) = blank_char ∷ (w ++ spaced ws)

-- words joined with one space each
unfoldable pub joined : List (List ℕ) → List ℕ
joined [] = []
joined (w ∷ ws) = w ++ spaced ws

-- what was stated: a status word alone, or with an expression after it
pub data Stated : Type 0 where
  alone : StatusKind → Stated
  stated : StatusKind → Expr → Stated

-- the words after a status word, joined and read as an expression; none are an answer without a tree
unfoldable pub after_word : StatusKind → List (List ℕ) → Result Stated Refusal
after_word k [] = Ok (alone k)
after_word k (w ∷ ws) = map_ok (stated k) (expression (joined (w ∷ ws)))

-- the status of words: the first is the status word, or 9
unfoldable pub of_words : List (List ℕ) → Result Stated Refusal
of_words [] = Err NoStatusWord
of_words (w ∷ ws) = then (kind_of_word (encode w)) (λ k. after_word k ws)

-- the status that a text reads as: 10 and 11 on the text as given, then 9, then as its other words read
unfoldable pub status_reading : List ℕ → Result Stated Refusal
status_reading s = admitted text_limit s (of_words (words (decode s)))

-- The status words, the code of each (docs/FORMAT.md, 'Texts'), and which of them a receiver may check. Assumes nothing.
use Rattle.std.specs.Prelude.{refl, ℕ, Bool, true, false, cond, List, [], ◌∷◌, get_or, Result, Ok, Err}
use mathlib.Mathlib.Logic.Function.Defs.{Injective, LeftInverse, LeftInverse-Injective}
use Rattle.text.specs.Quoted.{ascii}
use Rattle.text.specs.Bytes.{same}
use Rattle.refusal.specs.declared.Refusal.{Refusal}
use Rattle.refusal.specs.declared.Refusal.TheVariants.{NoStatusWord}
use Rattle.status.specs.declared.StatusKind.{StatusKind}
use Rattle.status.specs.declared.StatusKind.TheVariants.{Muss, Soll, Kann, X, M, S, K}

-- the code of a status word
abbrev pub code_of : StatusKind → ℕ
code_of Muss = 0
code_of Soll = 1
code_of Kann = 2
code_of X = 3
code_of M = 4
code_of S = 5
code_of K = 6

-- the bytes of a status word
abbrev pub word_of : StatusKind → List ℕ
word_of Muss = ascii "Muss"
word_of Soll = ascii "Soll"
word_of Kann = ascii "Kann"
word_of X = ascii "X"
word_of M = ascii "M"
word_of S = ascii "S"
word_of K = ascii "K"

-- all kinds, in the order of their codes
abbrev pub kinds : List StatusKind
kinds = Muss ∷ Soll ∷ Kann ∷ X ∷ M ∷ S ∷ K ∷ []

-- the kind of a code; K for what is no code
abbrev pub kind_at : ℕ → StatusKind
kind_at n = get_or kinds n K

-- from a kind to its code and back
pub code_round : LeftInverse kind_at code_of
code_round Muss = refl
code_round Soll = refl
code_round Kann = refl
code_round X = refl
code_round M = refl
code_round S = refl
code_round K = refl

-- different kinds have different codes
pub code_injective : Injective code_of
code_injective = LeftInverse-Injective kind_at code_of code_round

-- the first of the kinds that has this word
unfoldable pub kind_among : List StatusKind → List ℕ → Result StatusKind Refusal
kind_among [] w = Err NoStatusWord
kind_among (k ∷ ks) w = cond (same (word_of k) w) (Ok k) (kind_among ks w)

-- the kind that a word names, or refusal 9
unfoldable pub kind_of_word : List ℕ → Result StatusKind Refusal
kind_of_word w = kind_among kinds w

-- whether a receiver may check a field of this status, and reject by it
abbrev pub is_receiver_checkable : StatusKind → Bool
is_receiver_checkable Muss = true
is_receiver_checkable Soll = false
is_receiver_checkable Kann = false
is_receiver_checkable X = true
is_receiver_checkable M = true
is_receiver_checkable S = false
is_receiver_checkable K = false

-- What a text states after a status word. The theorems stand in proofs/StatusLaws. Assumes nothing.
use Rattle.std.specs.Prelude.{◌≡◌, List, ◌∷◌, ℕ, Ok}
use Rattle.utf8.specs.Utf8.{decode, encode}
use Rattle.status.specs.declared.StatusKind.{StatusKind}
use Rattle.status.specs.Status.{kind_of_word}
use Rattle.grammar.specs.Expr.{Expr}
use Rattle.grammar.specs.Reading.{reading}
use Rattle.grammar.specs.Status.{words, joined}

-- a text that states the word k and the expression e: its words, the first of which is k's, and the text of the others, which reads as e
pub record States (s : List ℕ) (k : StatusKind) (e : Expr) : Type 0 where
  pub word : List ℕ
  pub rest : List (List ℕ)
  pub split : words (decode s) ≡ word ∷ rest
  pub known : kind_of_word (encode word) ≡ Ok k
  pub reads : reading (encode (joined rest)) ≡ Ok e

-- What it is that printed bytes are lexed as the printed tokens. The theorems stand in proofs/LexPrint. Assumes nothing.
use Rattle.std.specs.Prelude.{◌≡◌, List, ◌++◌, true, ℕ, Result}
use Rattle.refusal.specs.declared.Refusal.{Refusal}
use Rattle.refusal.specs.Result.{map_ok}
use Rattle.utf8.specs.Utf8.{is_utf8, decode}
use Rattle.grammar.specs.Lex.{Tok, lex}

-- tokens put before what is lexed
unfoldable pub before : List Tok → Result (List Tok) Refusal → Result (List Tok) Refusal
before ts r = map_ok (λ us. ts ++ us) r

-- the bytes are UTF-8, and their characters are lexed as these tokens, whatever follows
pub record Lexes (p : List ℕ) (us : List Tok) : Type 0 where
  pub valid : is_utf8 p ≡ true
  pub goes : (cs : List ℕ) → lex (decode p ++ cs) ≡ before us (lex cs)

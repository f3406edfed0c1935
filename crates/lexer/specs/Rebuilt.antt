-- Kinds and texts determine the tokens. Assumes nothing.
use Rattle.std.specs.Prelude.{ℕ, ◌≡◌, refl, List, [], ◌∷◌, get_or, drop}
use Rattle.std.proofs.Common.{ap}
use Rattle.grammar.specs.Expr as expr
use Rattle.grammar.specs.Lex.{Tok, cited, op, opening, closing, texts}
use Rattle.lexer.specs.Tokens.{sign_token, kind_of, kinds_of}
use Rattle.lexer.specs.declared.TokenKind.{TokenKind}
use Rattle.lexer.specs.declared.TokenKind.TheVariants.{Citation, And, Or, Xor, Opening, Closing}

-- the tokens of these kinds that cite these texts
unfoldable pub rebuilt : List TokenKind → List (List ℕ) → List Tok
rebuilt [] us = []
rebuilt (Citation ∷ ks) us = cited (get_or us 0 []) ∷ rebuilt ks (drop 1 us)
rebuilt (And ∷ ks) us = op expr.And ∷ rebuilt ks us
rebuilt (Or ∷ ks) us = op expr.Or ∷ rebuilt ks us
rebuilt (Xor ∷ ks) us = op expr.Xor ∷ rebuilt ks us
rebuilt (Opening ∷ ks) us = opening ∷ rebuilt ks us
rebuilt (Closing ∷ ks) us = closing ∷ rebuilt ks us

-- tokens are those of their kinds that cite their texts
pub rebuilt_is : (ts : List Tok) → rebuilt (kinds_of ts) (texts ts) ≡ ts
unfolding rebuilt kinds_of kind_of sign_token texts
rebuilt_is [] = refl
rebuilt_is (cited u ∷ ts) = ap (λ (x : List Tok). cited u ∷ x) (rebuilt_is ts)
rebuilt_is (op expr.And ∷ ts) = ap (λ (x : List Tok). op expr.And ∷ x) (rebuilt_is ts)
rebuilt_is (op expr.Or ∷ ts) = ap (λ (x : List Tok). op expr.Or ∷ x) (rebuilt_is ts)
rebuilt_is (op expr.Xor ∷ ts) = ap (λ (x : List Tok). op expr.Xor ∷ x) (rebuilt_is ts)
rebuilt_is (opening ∷ ts) = ap (λ (x : List Tok). opening ∷ x) (rebuilt_is ts)
rebuilt_is (closing ∷ ts) = ap (λ (x : List Tok). closing ∷ x) (rebuilt_is ts)

-- The tokens of kinds, with empty texts. Assumes nothing.
use Rattle.std.specs.Prelude.{Bool, true, false, List, [], ◌∷◌, map, ℕ, drop, Option, Some, None}
use Rattle.grammar.specs.Expr as expr
use Rattle.grammar.specs.Lex.{Tok, cited, op, opening, closing}
use Rattle.grammar.specs.Kinds.{sign_kind}
use Rattle.grammar.specs.declared.NodeKind.{NodeKind}
use Rattle.lexer.specs.declared.TokenKind.{TokenKind}
use Rattle.lexer.specs.declared.TokenKind.TheVariants.{Citation, And, Or, Xor, Opening, Closing}

-- the token of a kind; a citation's text is empty
unfoldable pub tok : TokenKind → Tok
tok Citation = cited []
tok And = op expr.And
tok Or = op expr.Or
tok Xor = op expr.Xor
tok Opening = opening
tok Closing = closing

-- the tokens from the place `at` on
unfoldable pub from : List TokenKind → ℕ → List Tok
from s at = map tok (drop at s)

-- the kind of the operator that follows, if one does
unfoldable pub op_ahead : List Tok → Option NodeKind
op_ahead [] = None
op_ahead (cited t ∷ ts) = None
op_ahead (op o ∷ ts) = Some (sign_kind o)
op_ahead (opening ∷ ts) = None
op_ahead (closing ∷ ts) = None

-- an operand follows
unfoldable pub operand_ahead : List Tok → Bool
operand_ahead [] = false
operand_ahead (cited t ∷ ts) = true
operand_ahead (op o ∷ ts) = false
operand_ahead (opening ∷ ts) = true
operand_ahead (closing ∷ ts) = false

-- What `parse_tokens` answers and writes. Assumes nothing.
use Rattle.std.specs.Prelude.{List, [], ◌∷◌, map, ℕ, suc, Result, Ok, Err}
use Rattle.refusal.specs.declared.Refusal.{Refusal}
use Rattle.grammar.specs.Expr.{Expr}
use Rattle.grammar.specs.Parse.{parse}
use Rattle.grammar.specs.Rows.{rows}
use Rattle.text.specs.Bytes.{over}
use Rattle.lexer.specs.declared.TokenKind.{TokenKind}
use Rattle.lexer.specs.declared.TokenKind.TheVariants.{Citation, And, Or, Xor, Opening, Closing}
use Rattle.parser.specs.Packed.{packed}
use Rattle.parser.specs.declared.Row.{Row}
use Rattle.parser.specs.Tokens.{tok}

-- how many of these kinds are citations
unfoldable pub cites_in : List TokenKind → ℕ
cites_in [] = 0
cites_in (Citation ∷ ks) = suc (cites_in ks)
cites_in (And ∷ ks) = cites_in ks
cites_in (Or ∷ ks) = cites_in ks
cites_in (Xor ∷ ks) = cites_in ks
cites_in (Opening ∷ ks) = cites_in ks
cites_in (Closing ∷ ks) = cites_in ks

-- the rows of what was parsed; none of a refusal
abbrev pub rows_in : Result Expr Refusal → List Row
rows_in (Ok e) = packed (rows 0 e)
rows_in (Err k) = []

-- what kinds parse to, their citations having empty texts
unfoldable pub parsed_kinds : List TokenKind → Result Expr Refusal
parsed_kinds kinds = parse (map tok kinds)

-- the rows of what was parsed, and behind them what stood there; on a refusal all that stood there
abbrev pub rows_over : Result Expr Refusal → List Row → List Row
rows_over r old = over (rows_in r) old

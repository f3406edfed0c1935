-- How reading goes on where a run of operands ends. The theorems stand in proofs/Steps. Assumes nothing.
use Rattle.std.specs.Prelude.{List, [], ◌∷◌, Result, Ok, Err}
use Rattle.refusal.specs.declared.Refusal.{Refusal}
use Rattle.refusal.specs.declared.Refusal.TheVariants.{MissingOperand, Parentheses}
use Rattle.grammar.specs.Expr.{Expr, none, ◌▸◌}
use Rattle.grammar.specs.Lex.{Tok, cited, op, opening, closing}
use Rattle.grammar.specs.Parse.{Side, whole, after, Opens, top, within, read}

-- what ends a run of juxtaposed operands: an operator, a closing parenthesis, the end
abbrev pub Ends : List Tok → Type 0
Ends [] = Unit
Ends (cited t ∷ ts) = ⊥
Ends (op o ∷ ts) = Unit
Ends (opening ∷ ts) = ⊥
Ends (closing ∷ ts) = Unit

-- how reading goes on where a run ends, after the side s inside the open parentheses w
unfoldable pub resume : List Tok → Side → Opens → Result Expr Refusal
resume [] s top = Ok (whole s)
resume [] s (within l run w) = Err Parentheses
resume (cited t ∷ ts) s w = Err MissingOperand
resume (op o ∷ ts) s w = read ts (after s o) none w
resume (opening ∷ ts) s w = Err MissingOperand
resume (closing ∷ ts) s top = Err Parentheses
resume (closing ∷ ts) s (within l run w) = read ts l (run ▸ whole s) w

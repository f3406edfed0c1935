-- Terms with an operator before each, in tokens (docs/FORMAT.md, 'Texts'). The theorems stand in proofs/Sentences. Assumes nothing.
use Rattle.std.specs.Prelude.{List, [], ◌∷◌, ◌++◌}
use Rattle.grammar.specs.Expr.{Op, Expr, Exprs, none, ◌◂◌}
use Rattle.grammar.specs.Lex.{Tok, op}
use Rattle.grammar.specs.Rules.{Term, Derives}

-- tokens that are terms, the operator before each, with the terms' expressions
pub data Links (o : Op) : List Tok → Exprs → Type 0 where
  ends : Links o [] none
  link : {ts us : List Tok} {e : Expr} {es : Exprs} → Derives ts (Term e) → Links o us es → Links o (op o ∷ (ts ++ us)) (e ◂ es)

-- The grammar as rules (docs/FORMAT.md, 'Texts'). That `parse` gives exactly what they derive stands in proofs/Rules. Assumes nothing.
use Rattle.std.specs.Prelude.{◌≡◌, List, [], ◌∷◌, ◌++◌, false, ℕ}
use Rattle.grammar.specs.Expr.{Op, Expr, Exprs, cite, Then, join, none, ◌◂◌, ◌▸◌, Two}
use Rattle.grammar.specs.Lex.{Tok, cited, op, opening, closing}
use Rattle.grammar.specs.Parse.{same}

-- what tokens can be, with what they stand for: an operand, a run of operands side by side, such a run as one term, terms chained by one operator, an expression
pub data Phrase : Type 0 where
  Operand : Expr → Phrase
  Run : Exprs → Phrase
  Term : Expr → Phrase
  Chain : Op → Exprs → Phrase
  Expression : Expr → Phrase

-- tokens in parentheses
abbrev pub group : List Tok → List Tok
group ts = opening ∷ (ts ++ (closing ∷ []))

-- the rules
pub data Derives : List Tok → Phrase → Type 0 where
  -- an operand is a citation, or an expression in parentheses, which add no node to it
  citation : (t : List ℕ) → Derives (cited t ∷ []) (Operand (cite t))
  grouped : {ts : List Tok} {e : Expr} → Derives ts (Expression e) → Derives (group ts) (Operand e)
  -- a run is operands one after another
  empty : Derives [] (Run none)
  next : {ts us : List Tok} {es : Exprs} {e : Expr} → Derives ts (Run es) → Derives us (Operand e) → Derives (ts ++ us) (Run (es ▸ e))
  -- a term is a run: of one operand that operand, of more a Then
  single : {ts : List Tok} {e : Expr} → Derives ts (Run (e ◂ none)) → Derives ts (Term e)
  several : {ts : List Tok} {es : Exprs} → Derives ts (Run es) → Two es → Derives ts (Term (Then es))
  -- an operator chains two terms; met again it chains one more; another one begins a chain, of which the whole chain before it is the first operand
  pair : {ts us : List Tok} {a b : Expr} → Derives ts (Term a) → (o : Op) → Derives us (Term b) → Derives (ts ++ (op o ∷ us)) (Chain o (a ◂ b ◂ none))
  longer : {ts us : List Tok} {o : Op} {es : Exprs} {b : Expr} → Derives ts (Chain o es) → Derives us (Term b) → Derives (ts ++ (op o ∷ us)) (Chain o (es ▸ b))
  another : {ts us : List Tok} {p : Op} {es : Exprs} {b : Expr}
      → Derives ts (Chain p es) → (o : Op) → same p o ≡ false → Derives us (Term b) → Derives (ts ++ (op o ∷ us)) (Chain o (join p es ◂ b ◂ none))
  -- an expression is a term alone, or a chain
  lone : {ts : List Tok} {e : Expr} → Derives ts (Term e) → Derives ts (Expression e)
  chained : {ts : List Tok} {o : Op} {es : Exprs} → Derives ts (Chain o es) → Derives ts (Expression (join o es))

-- The rows of an expression, as they are handed over to be written. Assumes nothing.
use Rattle.std.proofs.Common.{◌≡◌, refl, ap, ap₂, ◌∙◌, ℕ, ◌+◌, List, [], ◌∷◌, ◌++◌}
use Rattle.grammar.specs.Expr.{Op, Expr, Exprs, cite, Then, join, none, more, count}
use Rattle.grammar.specs.Rows.{Row, row, op_kind, node, rows, rows_of}
use Rattle.grammar.specs.Kinds.{kind_number, numbered, sign-number, numbered-sign}
use Rattle.parser.specs.Packed.{packed}
use Rattle.writer.specs.Unpacked.{row_of, unpacked}

-- every row has the number of a kind
abbrev Known : List Row → Type 0
Known [] = Unit
Known (row k m z ∷ rs) = (kind_number (numbered k) ≡ k) × Known rs

known_append : (xs ys : List Row) → Known xs → Known ys → Known (xs ++ ys)
known_append [] ys h g = g
known_append (row k m z ∷ xs) ys h g = (h.0, known_append xs ys h.1 g)

op_known : (o : Op) → kind_number (numbered (op_kind o)) ≡ op_kind o
op_known o = ap kind_number (numbered-sign o) ∙ sign-number o

mutual
  unfolding rows node kind_number numbered

  known : (n : ℕ) (e : Expr) → Known (rows n e)
  known n (cite t) = (refl, tt)
  known n (Then es) = (refl, knowns n es)
  known n (join o es) = (op_known o, knowns n es)

  knowns : (n : ℕ) (es : Exprs) → Known (rows_of n es)
  knowns n none = tt
  knowns n (more e es) = known_append (rows n e) (rows_of (n + count e) es) (known n e) (knowns (n + count e) es)

back : (rs : List Row) → Known rs → unpacked (packed rs) ≡ rs
unfolding packed row_of
back [] h = refl
back (row k m z ∷ rs) h = ap₂ (λ (a : ℕ) (x : List Row). row a m z ∷ x) h.0 (back rs h.1)

-- rows as the parser writes them are those of the tree
pub rows_back : (n : ℕ) (e : Expr) → unpacked (packed (rows n e)) ≡ rows n e
rows_back n e = back (rows n e) (known n e)

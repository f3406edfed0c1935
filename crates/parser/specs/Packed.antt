-- Node rows as the parser writes them, in the order of the tree and with each node after its operands. Assumes nothing.
use Rattle.std.specs.Prelude.{List, [], ◌∷◌, ◌++◌, ℕ, suc, ◌+◌}
use Rattle.grammar.specs.Expr as expr
use Rattle.grammar.specs.Expr.{Expr, Exprs, cite, join, none, more, count}
use Rattle.grammar.specs.Rows as grammar
use Rattle.grammar.specs.Rows.{row, many, spans}
use Rattle.grammar.specs.Kinds.{sign_kind, numbered}
use Rattle.grammar.specs.declared.NodeKind.{NodeKind}
use Rattle.grammar.specs.declared.NodeKind.TheVariants.{Citation, Then}
use Rattle.parser.specs.declared.Row.{Row}

-- a row: kind; how many children, or which citation; how many rows in the subtree
abbrev pub pack : NodeKind → (number size : ℕ) → Row
pack k m z = record { kind = k; number = m; size = z }

-- rows as the parser writes them
unfoldable pub packed : List grammar.Row → List Row
packed [] = []
packed (row k m z ∷ rs) = pack (numbered k) m z ∷ packed rs

-- how many children a row of this kind and number has
abbrev pub child_count : NodeKind → ℕ → ℕ
child_count Citation m = 0
child_count k m = m

-- an inner node's row
abbrev pub node_row : NodeKind → Exprs → Row
node_row k es = pack k (many es) (suc (spans es))

unfoldable mutual
  -- the rows of a tree in postorder, its first citation having the number n
  pub postorder : ℕ → Expr → List Row
  postorder n (cite t) = pack Citation n 1 ∷ []
  postorder n (expr.Then es) = postorders n es ++ (node_row Then es ∷ [])
  postorder n (join o es) = postorders n es ++ (node_row (sign_kind o) es ∷ [])

  -- the rows of operands in postorder, one operand after another
  pub postorders : ℕ → Exprs → List Row
  postorders n none = []
  postorders n (more e es) = postorder n e ++ postorders (n + count e) es

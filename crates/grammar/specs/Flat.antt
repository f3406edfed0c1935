-- The flat tree (a term of document 01; docs/FORMAT.md, 'The printed form'). Assumes nothing.
use Rattle.grammar.specs.Expr.{Expr, Exprs, cite, Then, join, none, more, ◌◂◌, ◌⧺◌}

-- what an expression gives to a Then that it is an operand of: itself, or its own operands if it is a Then
unfoldable pub operands : Expr → Exprs
operands (cite t) = cite t ◂ none
operands (Then es) = es
operands (join o es) = join o es ◂ none

unfoldable mutual
  -- the flat tree: a Then inside a Then is opened up, at every depth, so that the operands of both are one run
  pub flat : Expr → Expr
  flat (cite t) = cite t
  flat (Then es) = Then (spliced es)
  flat (join o es) = join o (flats es)

  -- the flat trees of operands
  pub flats : Exprs → Exprs
  flats none = none
  flats (more e es) = flat e ◂ flats es

  -- the operands of a flat Then
  pub spliced : Exprs → Exprs
  spliced none = none
  spliced (more e es) = operands (flat e) ⧺ spliced es

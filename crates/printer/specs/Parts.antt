-- The parts of a print, by the kinds in the rows. Assumes nothing.
use Rattle.std.specs.Prelude.{List, [], ◌∷◌, Bool, true, false, cond, ℕ}
use Rattle.grammar.specs.Expr as expr
use Rattle.grammar.specs.Print.{in_bytes}
use Rattle.grammar.specs.declared.NodeKind.{NodeKind}
use Rattle.grammar.specs.declared.NodeKind.TheVariants.{Citation, Then, And, Or, Xor}

-- what stands between the operands of a node of a kind; a citation has none
abbrev pub separator : NodeKind → List ℕ
separator Citation = []
separator Then = in_bytes.gap
separator And = in_bytes.sign expr.And
separator Or = in_bytes.sign expr.Or
separator Xor = in_bytes.sign expr.Xor

-- what stands before an operand: nothing before the first
abbrev pub separator_after : (first : Bool) → NodeKind → List ℕ
separator_after true k = []
separator_after false k = separator k

-- the kind is that of And, Or or Xor, which stand in parentheses as operands
abbrev pub is_join : NodeKind → Bool
is_join Citation = false
is_join Then = false
is_join And = true
is_join Or = true
is_join Xor = true

-- a parenthesis, where an operand of a kind stands in parentheses
abbrev pub beside : (paren : ℕ) → NodeKind → List ℕ
beside paren k = cond (is_join k) (paren ∷ []) []

-- what opens an operand of a kind
abbrev pub left_of : NodeKind → List ℕ
left_of k = cond (is_join k) in_bytes.left []

-- what closes it
abbrev pub right_of : NodeKind → List ℕ
right_of k = cond (is_join k) in_bytes.right []

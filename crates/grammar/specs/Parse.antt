-- From tokens to an expression. Assumes nothing.
use Rattle.std.specs.Prelude.{List, [], ◌∷◌, Bool, true, false, cond, Result, Ok, Err}
use Rattle.refusal.specs.declared.Refusal.{Refusal}
use Rattle.refusal.specs.declared.Refusal.TheVariants.{MissingOperand, Parentheses}
use Rattle.grammar.specs.Expr.{Op, And, Or, Xor, Expr, Exprs, cite, Then, join, none, more, ◌◂◌, ◌▸◌}
use Rattle.grammar.specs.Lex.{Tok, cited, op, opening, closing}

-- the same operator
unfoldable pub same : Op → Op → Bool
same And And = true
same And Or = false
same And Xor = false
same Or And = false
same Or Or = true
same Or Xor = false
same Xor And = false
same Xor Or = false
same Xor Xor = true

-- a run of juxtaposed operands: two or more are one Then, one alone makes no node
unfoldable pub gather : Exprs → Expr
gather none = Then none
gather (more e none) = e
gather (more e (more f es)) = Then (e ◂ f ◂ es)

-- what stands left of an operator: a lead operand, or a chain of one operator built inside the same parentheses
pub data Side : Type 0 where
  lead : Expr → Side
  chain : Op → Exprs → Side

-- its expression
unfoldable pub whole : Side → Expr
whole (lead e) = e
whole (chain o es) = join o es

-- one more operand: a chain grows by its own operator; what else stands left, a lead or a chain of another operator, is the first operand of a new one
unfoldable pub grow : Side → Op → Expr → Side
grow (lead a) o b = chain o (a ◂ b ◂ none)
grow (chain p es) o b = cond (same p o) (chain p (es ▸ b)) (chain o (join p es ◂ b ◂ none))

-- what stands left of the run that is being read, inside the innermost open parentheses: nothing, or a side and its operator
pub data Left : Type 0 where
  start : Left
  after : Side → Op → Left

-- the open parentheses, the innermost first, each with what stands before it: the left part and the run so far
pub data Opens : Type 0 where
  top : Opens
  within : Left → Exprs → Opens → Opens

-- the left part and the run after it, as one side
unfoldable pub value : Left → Exprs → Side
value start run = lead (gather run)
value (after s o) run = grow s o (gather run)

-- the expression of tokens, or the first met of the refusals 4 and 5; while the run is empty, an operand is due
unfoldable pub read : List Tok → Left → Exprs → Opens → Result Expr Refusal
read [] l none w = Err MissingOperand
read [] l (more e es) top = Ok (whole (value l (e ◂ es)))
read [] l (more e es) (within l' run' w) = Err Parentheses
read (cited t ∷ ts) l run w = read ts l (run ▸ cite t) w
read (opening ∷ ts) l run w = read ts start none (within l run w)
read (op o ∷ ts) l none w = Err MissingOperand
read (op o ∷ ts) l (more e es) w = read ts (after (value l (e ◂ es)) o) none w
read (closing ∷ ts) l none w = Err MissingOperand
read (closing ∷ ts) l (more e es) top = Err Parentheses
read (closing ∷ ts) l (more e es) (within l' run' w) = read ts l' (run' ▸ whole (value l (e ◂ es))) w

-- the expression of all tokens
unfoldable pub parse : List Tok → Result Expr Refusal
parse ts = read ts start none top

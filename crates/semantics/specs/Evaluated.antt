-- Which citations presence evaluates: all but those in dropped operands. The theorems stand in proofs/Evaluated. Assumes nothing.
use Rattle.std.specs.Prelude.{Bool, true, false, not, ◌&&◌, ◌||◌, ℕ, ◌+◌, eqb}
use Rattle.grammar.specs.Expr.{And, Or, Xor, Expr, Exprs, cite, Then, join, none, more, count}
use Rattle.semantics.specs.Presence.{dropped}

unfoldable mutual
  -- the citation with the number k is evaluated in an expression whose first citation has the number n
  pub evaluates : (k n : ℕ) → Expr → Bool
  evaluates k n (cite t) = eqb k n
  evaluates k n (Then es) = evaluates_of k false n es
  evaluates k n (join And es) = evaluates_of k false n es
  evaluates k n (join Or es) = evaluates_of k true n es
  evaluates k n (join Xor es) = evaluates_of k true n es

  -- the same of operands; a choice does not evaluate the dropped
  pub evaluates_of : (k : ℕ) (choosing : Bool) (n : ℕ) → Exprs → Bool
  evaluates_of k choosing n none = false
  evaluates_of k choosing n (more e es) = (not (choosing && dropped e) && evaluates k n e) || evaluates_of k choosing (n + count e) es

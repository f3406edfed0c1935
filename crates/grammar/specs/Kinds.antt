-- The kinds of nodes, and the numbers that stand for them in rows. Assumes nothing.
use Rattle.std.specs.Prelude.{◌≡◌, refl, ℕ, zero, suc, ◌<◌}
use Rattle.std.proofs.Common.{arith}
use Rattle.grammar.specs.Expr as expr
use Rattle.grammar.specs.Expr.{Op, Expr, Exprs, cite, join}
use Rattle.grammar.specs.Rows.{cite_kind, then_kind, op_kind, made}
use Rattle.grammar.specs.declared.NodeKind.{NodeKind}
use Rattle.grammar.specs.declared.NodeKind.TheVariants.{Citation, Then, And, Or, Xor}

-- an operator's kind
unfoldable pub sign_kind : Op → NodeKind
sign_kind expr.And = And
sign_kind expr.Or = Or
sign_kind expr.Xor = Xor

-- an expression's kind
unfoldable pub node_kind : Expr → NodeKind
node_kind (cite t) = Citation
node_kind (expr.Then es) = Then
node_kind (join o es) = sign_kind o

-- the number that stands for a kind
unfoldable pub kind_number : NodeKind → ℕ
kind_number Citation = cite_kind
kind_number Then = then_kind
kind_number And = op_kind expr.And
kind_number Or = op_kind expr.Or
kind_number Xor = op_kind expr.Xor

-- the kind for which a number stands; no row of a tree has one over 4
unfoldable pub numbered : ℕ → NodeKind
numbered zero = Citation
numbered (suc zero) = Then
numbered (suc (suc zero)) = And
numbered (suc (suc (suc zero))) = Or
numbered (suc (suc (suc (suc n)))) = Xor

-- a kind's number stands for it
pub numbered-back : (k : NodeKind) → numbered (kind_number k) ≡ k
unfolding numbered kind_number op_kind
numbered-back Citation = refl
numbered-back Then = refl
numbered-back And = refl
numbered-back Or = refl
numbered-back Xor = refl

-- an operator's number is that of its kind
pub sign-number : (o : Op) → kind_number (sign_kind o) ≡ op_kind o
unfolding kind_number sign_kind
sign-number expr.And = refl
sign-number expr.Or = refl
sign-number expr.Xor = refl

-- and stands for its kind
pub numbered-sign : (o : Op) → numbered (op_kind o) ≡ sign_kind o
unfolding numbered sign_kind op_kind
numbered-sign expr.And = refl
numbered-sign expr.Or = refl
numbered-sign expr.Xor = refl

-- the inner node that is made of a number has the kind for which the next number stands
pub made-kind : (k : ℕ) (es : Exprs) → node_kind (made k es) ≡ numbered (suc k)
unfolding node_kind made numbered sign_kind
made-kind zero es = refl
made-kind (suc zero) es = refl
made-kind (suc (suc zero)) es = refl
made-kind (suc (suc (suc k))) es = refl

-- what is over 3 stands for Xor
pub numbered_over : (n : ℕ) → 3 < n → numbered n ≡ Xor
unfolding numbered
numbered_over zero h = absurd (omega arith)
numbered_over (suc zero) h = absurd (omega arith)
numbered_over (suc (suc zero)) h = absurd (omega arith)
numbered_over (suc (suc (suc zero))) h = absurd (omega arith)
numbered_over (suc (suc (suc (suc n)))) h = refl

-- What follows at a place, by the kind there. Assumes nothing.
use Rattle.std.specs.Prelude.{Option, Some, None}
use mathlib.Core.Path.{◌≡◌, refl, sym, ◌∙◌}
use mathlib.Core.Bool.{Bool, true, false}
use mathlib.Core.Logic.{◌⊎◌, inl, inr}
use mathlib.Core.List.{List, [], ◌∷◌}
use Prim.Native.Nat.{ℕ, zero, suc, ◌+◌, ◌≤◌, ◌<◌}
use native.Mathlib.Nat.{le_of_suc-le-suc, not-suc-le-zero}
use native.Mathlib.Omega.{arith}
use native.Mathlib.Numerals.{add-one}
use lib.Dec.{ltb}
use lib.ListN.{length, get_or, drop, drop_of_length-le}
use lib.Seq.{drop-cons}
use borrow.Author.Tests.{ltb-true, ltb-false}
use Rattle.grammar.specs.Expr as expr
use Rattle.grammar.specs.Expr.{Op}
use Rattle.grammar.specs.Lex.{Tok, cited, op, opening, closing}
use Rattle.grammar.specs.Kinds.{sign_kind}
use Rattle.grammar.specs.declared.NodeKind.{NodeKind}
use Rattle.grammar.specs.declared.NodeKind.TheVariants as node
use Rattle.grammar.specs.Steps.{Ends}
use Rattle.lexer.specs.declared.TokenKind.{TokenKind}
use Rattle.lexer.specs.declared.TokenKind.TheVariants.{Citation, And, Or, Xor, Opening, Closing}
use Rattle.parser.specs.Answer.{cites_in}
use Rattle.parser.specs.Tokens.{tok, from, op_ahead, operand_ahead}
use Rattle.parser.specs.Reading.{Stops}

module _ (s : List TokenKind) (at : ℕ) where
  pub from_end : length s ≤ at → from s at ≡ []
  unfolding from
  from_end h = rw (drop_of_length-le s h)

  pub from_some : at < length s → from s at ≡ tok (get_or s at Citation) ∷ from s (at + 1)
  unfolding from
  from_some h = rw (add-one, drop-cons s at Citation)

  -- at the end

  pub op_end : length s ≤ at → None ≡ op_ahead (from s at)
  unfolding op_ahead
  op_end h = rw (from_end h)

  pub operand_end : length s ≤ at → false ≡ operand_ahead (from s at)
  unfolding operand_ahead
  operand_end h = rw (from_end h)

-- what the kind at a place tells

-- the operator's kind, if it is one
abbrev pub operator : TokenKind → Option NodeKind
operator Citation = None
operator And = Some node.And
operator Or = Some node.Or
operator Xor = Some node.Xor
operator Opening = None
operator Closing = None

-- an operand begins with it
abbrev pub begins_operand : TokenKind → Bool
begins_operand Citation = true
begins_operand And = false
begins_operand Or = false
begins_operand Xor = false
begins_operand Opening = true
begins_operand Closing = false

no_operator : (k : TokenKind) → ¬ (k ≡ And) → ¬ (k ≡ Or) → ¬ (k ≡ Xor) → None ≡ operator k
no_operator Citation a o x = refl
no_operator And a o x = absurd (a refl)
no_operator Or a o x = absurd (o refl)
no_operator Xor a o x = absurd (x refl)
no_operator Opening a o x = refl
no_operator Closing a o x = refl

begins_none : (k : TokenKind) → ¬ (k ≡ Citation) → ¬ (k ≡ Opening) → false ≡ begins_operand k
begins_none Citation h l = absurd (h refl)
begins_none And h l = refl
begins_none Or h l = refl
begins_none Xor h l = refl
begins_none Opening h l = absurd (l refl)
begins_none Closing h l = refl

operand_here : (k : TokenKind) (ts : List Tok) → begins_operand k ≡ operand_ahead (tok k ∷ ts)
unfolding operand_ahead tok
operand_here Citation ts = refl
operand_here And ts = refl
operand_here Or ts = refl
operand_here Xor ts = refl
operand_here Opening ts = refl
operand_here Closing ts = refl

op_here : (k : TokenKind) (ts : List Tok) → operator k ≡ op_ahead (tok k ∷ ts)
unfolding op_ahead tok sign_kind
op_here Citation ts = refl
op_here And ts = refl
op_here Or ts = refl
op_here Xor ts = refl
op_here Opening ts = refl
op_here Closing ts = refl

ends_here : (k : TokenKind) (ts : List Tok) → ¬ (k ≡ Citation) → ¬ (k ≡ Opening) → Ends (tok k ∷ ts)
unfolding tok
ends_here Citation ts h l = absurd (h refl)
ends_here And ts h l = tt
ends_here Or ts h l = tt
ends_here Xor ts h l = tt
ends_here Opening ts h l = absurd (l refl)
ends_here Closing ts h l = tt

closes_here : (k : TokenKind) (ts : List Tok) → Stops (tok k ∷ ts) → tok k ≡ closing
unfolding tok
closes_here Citation ts h = absurd h
closes_here And ts h = absurd h
closes_here Or ts h = absurd h
closes_here Xor ts h = absurd h
closes_here Opening ts h = absurd h
closes_here Closing ts h = refl

-- an operator of the kind k, where one follows
pub record Sign (ts us : List Tok) (k : NodeKind) : Type 0 where
  pub sign : Op
  pub is : ts ≡ op sign ∷ us
  pub kind : k ≡ sign_kind sign

same_some : {j k : NodeKind} → ◌≡◌ {A = Option NodeKind} (Some j) (Some k) → j ≡ k
same_some h = cc

sign_ahead : (k : TokenKind) (us : List Tok) (n : NodeKind) → Some n ≡ op_ahead (tok k ∷ us) → Sign (tok k ∷ us) us n
unfolding op_ahead tok
sign_ahead Citation us n h = absurd cc
sign_ahead And us n h = record { sign = expr.And; is = refl; kind = same_some h }
sign_ahead Or us n h = record { sign = expr.Or; is = refl; kind = same_some h }
sign_ahead Xor us n h = record { sign = expr.Xor; is = refl; kind = same_some h }
sign_ahead Opening us n h = absurd cc
sign_ahead Closing us n h = absurd cc

module _ (s : List TokenKind) (at : ℕ) where
  pub op_known : (k : TokenKind) → at < length s → get_or s at Citation ≡ k → operator k ≡ op_ahead (from s at)
  op_known k h e = rw (from_some s at h, e) (op_here k (from s (at + 1)))

  operand_known : (k : TokenKind) → at < length s → get_or s at Citation ≡ k → begins_operand k ≡ operand_ahead (from s at)
  operand_known k h e = rw (from_some s at h, e) (operand_here k (from s (at + 1)))

  pub operand_some : {k : TokenKind} → at < length s → k ≡ get_or s at Citation → (k ≡ Citation) ⊎ (k ≡ Opening) → true ≡ operand_ahead (from s at)
  operand_some h e (inl i) = operand_known Citation h (sym e ∙ i)
  operand_some h e (inr i) = operand_known Opening h (sym e ∙ i)

  pub op_none : at < length s → ¬ (get_or s at Citation ≡ And) → ¬ (get_or s at Citation ≡ Or) → ¬ (get_or s at Citation ≡ Xor) → None ≡ op_ahead (from s at)
  op_none h a o x = no_operator (get_or s at Citation) a o x ∙ op_known (get_or s at Citation) h refl

  pub operand_none : at < length s → ¬ (get_or s at Citation ≡ Citation) → ¬ (get_or s at Citation ≡ Opening) → false ≡ operand_ahead (from s at)
  operand_none h k l = begins_none (get_or s at Citation) k l ∙ operand_known (get_or s at Citation) h refl

  pub cite_here : at < length s → get_or s at Citation ≡ Citation → from s at ≡ cited [] ∷ from s (at + 1)
  unfolding tok
  cite_here h k = rw (from_some s at h, k)

  pub open_here : at < length s → get_or s at Citation ≡ Opening → from s at ≡ opening ∷ from s (at + 1)
  unfolding tok
  open_here h k = rw (from_some s at h, k)

  pub no_operand : at < length s → ¬ (get_or s at Citation ≡ Citation) → ¬ (get_or s at Citation ≡ Opening) → Ends (from s at)
  no_operand h k l = rw (from_some s at h) (ends_here (get_or s at Citation) (from s (at + 1)) k l)

  pub close_here : at < length s → Stops (from s at) → from s at ≡ closing ∷ from s (at + 1)
  close_here h k =
      from_some s at h
      ∙ rw (closes_here (get_or s at Citation) (from s (at + 1)) (rw (from_some s at h) at k))

  module _ (k : NodeKind) (h : Some k ≡ op_ahead (from s at)) where
    -- an operator follows: there is a token
    pub op_inside : at < length s
    op_inside = go (ltb at (length s)) refl
      where
        go : (b : Bool) → ltb at (length s) ≡ b → at < length s
        go true e = ltb-true at (length s) e
        go false e = absurd (let z = op_end s at (ltb-false at (length s) e) in cc)

    pub sign_here : Sign (from s at) (from s (at + 1)) k
    sign_here =
        let i = from_some s at op_inside in
        rw i (sign_ahead (get_or s at Citation) (from s (at + 1)) k (rw i at h))

-- citations left

rest : (l : List TokenKind) (at : ℕ) → cites_in (drop (suc at) l) ≤ cites_in (drop at l)
unfolding cites_in
rest [] zero = omega arith
rest [] (suc at) = omega arith
rest (Citation ∷ xs) zero = omega arith
rest (And ∷ xs) zero = omega arith
rest (Or ∷ xs) zero = omega arith
rest (Xor ∷ xs) zero = omega arith
rest (Opening ∷ xs) zero = omega arith
rest (Closing ∷ xs) zero = omega arith
rest (x ∷ xs) (suc at) = rest xs at

cites_more : (k : TokenKind) (l : List TokenKind) → k ≡ Citation → cites_in (k ∷ l) ≡ suc (cites_in l)
unfolding cites_in
cites_more k l e = rw e

rest_cite : (l : List TokenKind) (at : ℕ) → at < length l → get_or l at Citation ≡ Citation → cites_in (drop at l) ≡ suc (cites_in (drop (suc at) l))
rest_cite [] at h e = absurd (not-suc-le-zero h)
rest_cite (x ∷ xs) zero h e = cites_more x xs e
rest_cite (x ∷ xs) (suc at) h e = rest_cite xs at (le_of_suc-le-suc h) e

pub cites_cite : (s : List TokenKind) (at : ℕ) → at < length s → get_or s at Citation ≡ Citation → cites_in (drop at s) ≡ suc (cites_in (drop (at + 1) s))
cites_cite s at h e = rw (add-one at) (rest_cite s at h e)

pub cites-any : (s : List TokenKind) (at : ℕ) → cites_in (drop (at + 1) s) ≤ cites_in (drop at s)
cites-any s at = rw (add-one at) (rest s at)

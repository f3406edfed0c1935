-- A tree as node rows, and the trees that rows stand for. Assumes nothing.
use Rattle.std.specs.Prelude.{◌≡◌, refl, length, get_or, drop}
use Rattle.std.proofs.Math.Path.{sym, ap}
use Rattle.std.proofs.Common.{◌∙◌, subst, length-append, drop-drop}
use mathlib.Core.List.{List, [], ◌∷◌, ◌++◌}
use Prim.Native.Nat.{ℕ, zero, suc, ◌+◌}
use Rattle.grammar.specs.Expr.{Op, And, Or, Xor, Expr, Exprs, cite, Then, join, none, more, ◌◂◌, ◌⧺◌, count}

-- a node row: kind; how many children, or which citation; how many rows in the subtree
pub data Row : Type 0 where
  row : (kind number size : ℕ) → Row

-- the kind of a citation's row
abbrev pub cite_kind : ℕ
cite_kind = 0

-- the kind of a Then's row
abbrev pub then_kind : ℕ
then_kind = 1

-- the kind of an operator's row
unfoldable pub op_kind : Op → ℕ
op_kind And = 2
op_kind Or = 3
op_kind Xor = 4

-- how many operands
unfoldable pub many : Exprs → ℕ
many none = 0
many (more e es) = suc (many es)

-- a node's row before the rows of its children
unfoldable pub node : (kind children : ℕ) → List Row → List Row
node k m below = row k m (suc (length below)) ∷ below

unfoldable mutual
  -- the rows of a tree whose first citation has the number n
  pub rows : ℕ → Expr → List Row
  rows n (cite t) = row cite_kind n 1 ∷ []
  rows n (Then es) = node then_kind (many es) (rows_of n es)
  rows n (join o es) = node (op_kind o) (many es) (rows_of n es)

  -- the rows of operands, one after another
  pub rows_of : ℕ → Exprs → List Row
  rows_of n none = []
  rows_of n (more e es) = rows n e ++ rows_of (n + count e) es

unfoldable mutual
  -- how many rows a tree has
  pub span : Expr → ℕ
  span (cite t) = 1
  span (Then es) = suc (spans es)
  span (join o es) = suc (spans es)

  -- how many rows operands have
  pub spans : Exprs → ℕ
  spans none = 0
  spans (more e es) = span e + spans es

-- the first m of trees
unfoldable pub firsts : ℕ → Exprs → Exprs
firsts zero es = none
firsts (suc m) none = none
firsts (suc m) (more e es) = e ◂ firsts m es

-- the trees after the first m
unfoldable pub rests : ℕ → Exprs → Exprs
rests zero es = es
rests (suc m) none = none
rests (suc m) (more e es) = rests m es

-- the inner node of the kind k + 1
unfoldable pub made : ℕ → Exprs → Expr
made zero es = Then es
made (suc zero) es = join And es
made (suc (suc zero)) es = join Or es
made (suc (suc (suc k))) es = join Xor es

-- the first of trees
unfoldable pub first : Exprs → Expr
first none = Then none
first (more e es) = e

-- the operands of a node
unfoldable pub children : Expr → Exprs
children (cite t) = none
children (Then es) = es
children (join o es) = es

module _ (texts : List (List ℕ)) where
  -- one row before the trees that stand after it: a node takes its children from them
  unfoldable pub place : Row → Exprs → Exprs
  place (row zero n z) st = cite (get_or texts n []) ◂ st
  place (row (suc k) m z) st = made k (firsts m st) ◂ rests m st

  -- the trees that rows stand for, one after another, with the cited texts
  unfoldable pub build : List Row → Exprs
  build [] = none
  build (r ∷ rs) = place r (build rs)

mutual
  unfolding rows node span

  pub rows_span : (n : ℕ) (e : Expr) → length (rows n e) ≡ span e
  rows_span n (cite t) = refl
  rows_span n (Then es) = rw (rows_spans n es)
  rows_span n (join o es) = rw (rows_spans n es)

  pub rows_spans : (n : ℕ) (es : Exprs) → length (rows_of n es) ≡ spans es
  rows_spans n none = refl
  rows_spans n (more e es) = length-append (rows n e) (rows_of (n + count e) es) ∙ rw (rows_span n e, rows_spans (n + count e) es)

-- the first m and the rest are all
pub firsts-rests : (m : ℕ) (st : Exprs) → firsts m st ⧺ rests m st ≡ st
unfolding firsts rests ◌⧺◌
firsts-rests zero st = refl
firsts-rests (suc m) none = refl
firsts-rests (suc m) (more e st) = ap (more e) (firsts-rests m st)

-- the operands of a node that was made
pub children-made : (k : ℕ) (es : Exprs) → children (made k es) ≡ es
unfolding made children
children-made zero es = refl
children-made (suc zero) es = refl
children-made (suc (suc zero)) es = refl
children-made (suc (suc (suc k))) es = refl

suc-drop : (n : ℕ) (rs : List Row) → drop (suc n) rs ≡ drop n (drop 1 rs)
suc-drop zero [] = refl
suc-drop (suc n) [] = refl
suc-drop n (r ∷ rs) = refl

more_tail : (a b : Expr) (as' bs : Exprs) → a ◂ as' ≡ b ◂ bs → as' ≡ bs
more_tail a b as' bs h = cc

more_head : (a b : Expr) (as' bs : Exprs) → a ◂ as' ≡ b ◂ bs → a ≡ b
more_head a b as' bs h = cc

abbrev empty : Exprs → Type 0
empty none = Unit
empty (more e es) = ⊥

module _ (texts : List (List ℕ)) where
  -- one row on stand the tree's children, and then the trees that follow it
  pub below : (rs : List Row) (e : Expr) (st : Exprs) → build texts rs ≡ e ◂ st → build texts (drop 1 rs) ≡ children e ⧺ st
  unfolding build place children ◌⧺◌
  below [] e st h = absurd (subst empty h tt)
  below (row zero n z ∷ rs) e st h = more_tail _ e _ st h ∙ ap (λ x. children x ⧺ st) (more_head _ e _ st h)
  below (row (suc k) m z ∷ rs) e st h =
      sym (firsts-rests m (build texts rs))
      ∙ ap (λ x. firsts m (build texts rs) ⧺ x) (more_tail _ e _ st h)
      ∙ ap (λ x. x ⧺ st) (sym (children-made k (firsts m (build texts rs))) ∙ ap children (more_head _ e _ st h))

  mutual
    unfolding span children ◌⧺◌

    -- the next tree starts as many rows on as the tree has
    pub next-tree : (e : Expr) (rs : List Row) (st : Exprs) → build texts rs ≡ e ◂ st → build texts (drop (span e) rs) ≡ st
    next-tree (cite t) rs st h = below rs (cite t) st h
    next-tree (Then es) rs st h = rw (suc-drop (spans es) rs) (next_trees es (drop 1 rs) st (below rs (Then es) st h))
    next-tree (join o es) rs st h = rw (suc-drop (spans es) rs) (next_trees es (drop 1 rs) st (below rs (join o es) st h))

    next_trees : (es : Exprs) (rs : List Row) (st : Exprs) → build texts rs ≡ es ⧺ st → build texts (drop (spans es) rs) ≡ st
    next_trees none rs st h = h
    next_trees (more e es) rs st h = rw (← drop-drop (spans es) (span e) rs) (next_trees es (drop (span e) rs) st (next-tree e rs (es ⧺ st) h))

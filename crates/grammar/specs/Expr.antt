-- Condition expressions and what they cite. Assumes nothing.
use Rattle.std.specs.Prelude.{◌≡◌, refl, List, [], ◌∷◌, ◌++◌, ℕ, length}
use Rattle.std.proofs.Common.{sym, append_assoc}

infixr 50 ◌◂◌
infixr 50 ◌⧺◌
infixl 45 ◌▸◌
-- the operators ∧, ∨ and ⊻
pub data Op : Type 0 where
  And Or Xor : Op

mutual
  -- an expression: a citation with the bytes of its text, a Then of juxtaposed operands, or operands joined by one operator
  pub data Expr : Type 0 where
    cite : List ℕ → Expr
    Then : Exprs → Expr
    join : Op → Exprs → Expr

  -- operands, from left to right
  pub data Exprs : Type 0 where
    none : Exprs
    more : Expr → Exprs → Exprs

-- an operand before others
abbrev pub ◌◂◌ : Expr → Exprs → Exprs
e ◂ es = more e es

-- operands before others
unfoldable pub ◌⧺◌ : Exprs → Exprs → Exprs
none ⧺ fs = fs
more e es ⧺ fs = e ◂ (es ⧺ fs)

-- one operand after others
abbrev pub ◌▸◌ : Exprs → Expr → Exprs
es ▸ e = es ⧺ (e ◂ none)

-- there is an operand
abbrev pub Some : Exprs → Type 0
Some none = ⊥
Some (more e es) = Unit

-- there are two operands or more
abbrev pub Two : Exprs → Type 0
Two none = ⊥
Two (more e none) = ⊥
Two (more e (more f es)) = Unit

abbrev mutual
  -- inner nodes have two operands or more
  pub Wide : Expr → Type 0
  Wide (cite t) = Unit
  Wide (Then es) = Two es × Wides es
  Wide (join o es) = Two es × Wides es

  -- each of them is wide
  pub Wides : Exprs → Type 0
  Wides none = Unit
  Wides (more e es) = Wide e × Wides es

unfoldable mutual
  -- the texts that an expression cites, in order; a citation's number is its place here, from 0
  pub citations : Expr → List (List ℕ)
  citations (cite t) = t ∷ []
  citations (Then es) = citations_of es
  citations (join o es) = citations_of es

  -- the texts that operands cite, in order
  pub citations_of : Exprs → List (List ℕ)
  citations_of none = []
  citations_of (more e es) = citations e ++ citations_of es

-- how many citations an expression has
abbrev pub count : Expr → ℕ
count e = length (citations e)

-- texts one after another
unfoldable pub concat : List (List ℕ) → List ℕ
concat [] = []
concat (t ∷ ts) = t ++ concat ts

-- operands before others cite first
pub citations_append : (a b : Exprs) → citations_of (a ⧺ b) ≡ citations_of a ++ citations_of b
unfolding citations_of ◌⧺◌
citations_append none b = refl
citations_append (more e a) b = rw (citations_append a b) (sym (append_assoc (citations e) (citations_of a) (citations_of b)))

-- The printed form, and one induction over it. Assumes nothing.
use Rattle.std.specs.Prelude.{◌≡◌, List, [], ◌∷◌, ◌++◌, true, ℕ}
use Rattle.utf8.specs.Utf8.{encode}
use Rattle.grammar.specs.Expr.{Op, Expr, Exprs, cite, Then, join, none, more}
use Rattle.grammar.specs.Lex.{Tok, cited, op, opening, closing, cite_begin, cite_end, group_begin, group_end, blank_char, symbol}
use Rattle.grammar.specs.Citable.{citable}

-- how the parts of a printed form are written, in tokens or in bytes: a citation, what stands between the operands of a Then, an operator with what is around it, the parentheses
pub record Style (A : Type 0) : Type 0 where
  pub word : List ℕ → List A
  pub gap : List A
  pub sign : Op → List A
  pub left : List A
  pub right : List A

module _ {A : Type 0} (s : Style A) where
  -- an operand's print: And, Or and Xor are put in parentheses, nothing else is
  unfoldable pub bracketed : Expr → List A → List A
  bracketed (cite t) p = p
  bracketed (Then es) p = p
  bracketed (join o es) p = s.left ++ (p ++ s.right)

  unfoldable mutual
    -- the print of an expression
    pub print : Expr → List A
    print (cite t) = s.word t
    print (Then es) = listed s.gap es
    print (join o es) = listed (s.sign o) es

    -- the operands with a separator between them
    pub listed : List A → Exprs → List A
    listed sep none = []
    listed sep (more e es) = bracketed e (print e) ++ links sep es

    -- the operands with a separator before each
    pub links : List A → Exprs → List A
    links sep none = []
    links sep (more e es) = sep ++ (bracketed e (print e) ++ links sep es)

  -- the print of an expression that is an operand
  abbrev pub operand : Expr → List A
  operand e = bracketed e (print e)

-- the print as tokens
abbrev pub in_tokens : Style Tok
in_tokens = record { word = λ t. cited t ∷ []; gap = []; sign = λ o. op o ∷ []; left = opening ∷ []; right = closing ∷ [] }

-- an operator's sign between two spaces
unfoldable pub sign_bytes : Op → List ℕ
sign_bytes o = encode (blank_char ∷ symbol o ∷ blank_char ∷ [])

-- the print as bytes
abbrev pub in_bytes : Style ℕ
in_bytes = record {
  word = λ t. cite_begin ∷ (t ++ (cite_end ∷ []));
  gap = blank_char ∷ [];
  sign = sign_bytes;
  left = group_begin ∷ [];
  right = group_end ∷ [];
}

-- what `Display` writes
abbrev pub printed : Expr → List ℕ
printed e = print in_bytes e

-- what relates the parts of two styles, and goes along with `++`
pub record Related {A B : Type 0} (s : Style A) (s' : Style B) (R : List A → List B → Type 0) : Type 0 where
  pub nil : R [] []
  pub both : (a b : List A) (a' b' : List B) → R a a' → R b b' → R (a ++ b) (a' ++ b')
  pub word : (t : List ℕ) → citable t ≡ true → R (s.word t) (s'.word t)
  pub gap : R s.gap s'.gap
  pub sign : (o : Op) → R (s.sign o) (s'.sign o)
  pub left : R s.left s'.left
  pub right : R s.right s'.right

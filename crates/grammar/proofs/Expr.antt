-- Condition expressions and what they cite. Assumes nothing.
use Rattle.std.specs.Prelude.{◌≡◌, refl}
use Rattle.grammar.specs.Expr.{Expr, Exprs, none, more, ◌◂◌, ◌⧺◌, ◌▸◌, Some, Two, Wides}

-- none after operands
pub append_none : (es : Exprs) → es ⧺ none ≡ es
unfolding ◌⧺◌
append_none none = refl
append_none (more e es) = rw (append_none es)

-- three lists of operands
pub appends_assoc : (a b c : Exprs) → (a ⧺ b) ⧺ c ≡ a ⧺ (b ⧺ c)
unfolding ◌⧺◌
appends_assoc none b c = refl
appends_assoc (more e a) b c = rw (appends_assoc a b c)

-- operands before others
pub some_append : (a b : Exprs) → Some a → Some (a ⧺ b)
unfolding ◌⧺◌
some_append (more e a) b s = tt
some_append none b s = elim s [ ]

-- one operand after others
pub some_more : (es : Exprs) (e : Expr) → Some (es ▸ e)
unfolding ◌⧺◌
some_more none e = tt
some_more (more f es) e = tt

-- two operands are some
pub two_some : (es : Exprs) → Two es → Some es
two_some (more e es) h = tt
two_some none h = elim h [ ]

-- of two operands or more, some follow the first
pub two_rest : (e : Expr) (es : Exprs) → Two (e ◂ es) → Some es
two_rest e (more f es) h = tt
two_rest e none h = elim h [ ]

-- some operands before some
pub two_append : (a b : Exprs) → Some a → Some b → Two (a ⧺ b)
unfolding ◌⧺◌
two_append (more e none) (more f b) s s' = tt
two_append (more e (more f a)) b s s' = tt
two_append none b s s' = elim s [ ]
two_append (more e none) none s s' = elim s' [ ]

-- wide operands before wide ones
pub wides_append : (a b : Exprs) → Wides a → Wides b → Wides (a ⧺ b)
unfolding ◌⧺◌
wides_append none b v w = w
wides_append (more e a) b v w = (v.0, wides_append a b v.1 w)

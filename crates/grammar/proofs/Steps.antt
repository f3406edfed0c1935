-- How reading goes on where a run of operands ends, and how a side grows. Assumes nothing.
use Rattle.std.specs.Prelude.{◌≡◌, refl, List, [], ◌∷◌, false, Ok, Result}
use Rattle.refusal.specs.declared.Refusal.{Refusal}
use Rattle.grammar.specs.Expr.{Op, And, Or, Xor, Expr, Exprs, Then, join, none, more, ◌◂◌, ◌▸◌, Some, Two}
use Rattle.grammar.specs.Lex.{Tok, cited, op, opening, closing}
use Rattle.grammar.specs.Parse.{same, gather, chain, grow, Left, start, after, Opens, top, within, value, read}
use Rattle.grammar.specs.Steps.{Ends, resume}

-- where a run ends, what was read since the last open parenthesis counts as one side
pub settled : (ts : List Tok) → Ends ts → (l : Left) (run : Exprs) → Some run → (w : Opens) → read ts l run w ≡ resume ts (value l run) w
unfolding read resume
settled [] h l (more e es) s top = refl
settled [] h l (more e es) s (within l' run' w) = refl
settled (op o ∷ ts) h l (more e es) s w = refl
settled (closing ∷ ts) h l (more e es) s top = refl
settled (closing ∷ ts) h l (more e es) s (within l' run' w) = refl
settled (cited t ∷ ts) h l run s w = absurd h
settled (opening ∷ ts) h l run s w = absurd h
settled [] h l none s w = elim s [ ]
settled (op o ∷ ts) h l none s w = elim s [ ]
settled (closing ∷ ts) h l none s w = elim s [ ]

-- a run counts as the one operand that it is gathered to
pub value_gather : (l : Left) (run : Exprs) → value l run ≡ value l (gather run ◂ none)
unfolding value gather
value_gather start run = refl
value_gather (after s o) run = refl

-- two operands or more are one Then
pub gather_two : (es : Exprs) → Two es → gather es ≡ Then es
unfolding gather
gather_two (more e (more f es)) h = refl
gather_two none h = elim h [ ]
gather_two (more e none) h = elim h [ ]

-- a chain grows by its own operator
pub grow_own : (o : Op) (es : Exprs) (b : Expr) → grow (chain o es) o b ≡ chain o (es ▸ b)
unfolding grow same
grow_own And es b = refl
grow_own Or es b = refl
grow_own Xor es b = refl

-- another operator begins a new one
pub grow_other : (p o : Op) (es : Exprs) (b : Expr) → same p o ≡ false → grow (chain p es) o b ≡ chain o (join p es ◂ b ◂ none)
unfolding grow
grow_other p o es b h = rw h

-- the same answer, the same expression
pub ok_same : (a b : Expr) → ◌≡◌ {A = Result Expr Refusal} (Ok a) (Ok b) → a ≡ b
ok_same a b h = cc

-- How reading goes on after an atom, a juxtaposition, a chain: `ts` are the tokens before it, `us` those after it. Assumes nothing.
use Rattle.std.specs.Prelude.{◌≡◌, List, [], ◌∷◌, Err}
use Rattle.refusal.specs.declared.Refusal.{Refusal}
use Rattle.grammar.specs.Expr.{Op, Expr, Exprs, none, more, ◌◂◌, ◌▸◌, Some}
use Rattle.grammar.specs.Lex.{Tok, cited, op, opening, closing}
use Rattle.grammar.specs.Parse.{Side, chain, whole, grow, Left, start, after, Opens, value, read}
use Rattle.grammar.specs.Steps.{Ends, resume}

-- an operand is due after the run, or one follows
abbrev pub Due : List Tok → Exprs → Type 0
Due (cited t ∷ ts) run = Unit
Due (opening ∷ ts) run = Unit
Due (op o ∷ ts) none = Unit
Due (op o ∷ ts) (more e es) = ⊥
Due (closing ∷ ts) none = Unit
Due (closing ∷ ts) (more e es) = ⊥
Due [] none = Unit
Due [] (more e es) = ⊥

-- what ends a chain: a closing parenthesis, the end
abbrev pub Stops : List Tok → Type 0
Stops [] = Unit
Stops (cited t ∷ ts) = ⊥
Stops (op o ∷ ts) = ⊥
Stops (opening ∷ ts) = ⊥
Stops (closing ∷ ts) = Unit

-- an atom was read
pub record Atom (ts us : List Tok) (e : Expr) : Type 0 where
  pub goes : (l : Left) (run : Exprs) (w : Opens) → read ts l run w ≡ read us l (run ▸ e) w

-- no atom can be read
pub record NoAtom (ts : List Tok) (why : Refusal) : Type 0 where
  pub goes : (l : Left) (run : Exprs) (w : Opens) → Due ts run → read ts l run w ≡ Err why

-- juxtaposed operands were read, and more may follow
pub record Run (ts us : List Tok) (run : Exprs) : Type 0 where
  pub some : Some run
  pub goes : (l : Left) (w : Opens) → read ts l none w ≡ read us l run w

-- a juxtaposition was read
pub record Jux (ts us : List Tok) (e : Expr) : Type 0 where
  pub ends : Ends us
  pub goes : (l : Left) (w : Opens) → read ts l none w ≡ resume us (value l (e ◂ none)) w

-- no juxtaposition can be read
pub record NoJux (ts : List Tok) (why : Refusal) : Type 0 where
  pub goes : (l : Left) (w : Opens) → read ts l none w ≡ Err why

-- a chain was read up to an operator, with which its operands are es
pub record Waits (ts us : List Tok) (o : Op) (es : Exprs) : Type 0 where
  pub side : Side
  pub grows : (b : Expr) → grow side o b ≡ chain o (es ▸ b)
  pub goes : (w : Opens) → read ts start none w ≡ read us (after side o) none w

-- a chain was read up to the end of an operand
pub record Links (ts us : List Tok) (o : Op) (es : Exprs) : Type 0 where
  pub ends : Ends us
  pub goes : (w : Opens) → read ts start none w ≡ resume us (chain o es) w

-- a whole chain was read
pub record Chain (ts us : List Tok) (e : Expr) : Type 0 where
  pub stops : Stops us
  pub side : Side
  pub is : whole side ≡ e
  pub goes : (w : Opens) → read ts start none w ≡ resume us side w

-- no chain can be read
pub record NoChain (ts : List Tok) (why : Refusal) : Type 0 where
  pub goes : (w : Opens) → read ts start none w ≡ Err why

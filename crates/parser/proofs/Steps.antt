-- Steps of reading: atoms, juxtapositions, chains. Assumes nothing.
use Rattle.std.specs.Prelude.{Ok, Err, None}
use mathlib.Core.Path.{◌≡◌, refl, ap, ◌∙◌}
use mathlib.Core.Bool.{true, false, true≢false, false≢true}
use mathlib.Core.List.{List, [], ◌∷◌}
use Prim.Native.Nat.{ℕ}
use Rattle.refusal.specs.declared.Refusal.{Refusal}
use Rattle.refusal.specs.declared.Refusal.TheVariants.{MissingOperand, Parentheses}
use Rattle.grammar.specs.Expr.{Op, Expr, Exprs, cite, join, none, more, ◌◂◌, ◌⧺◌, ◌▸◌}
use Rattle.grammar.proofs.Expr.{some_more}
use Rattle.grammar.specs.Lex.{Tok, cited, op, opening, closing}
use Rattle.grammar.specs.Parse.{same, gather, lead, chain, whole, grow, Left, start, after, Opens, top, within, value, read, parse}
use Rattle.grammar.specs.Steps.{Ends, resume}
use Rattle.grammar.proofs.Steps.{settled, value_gather, grow_own, grow_other}
use Rattle.parser.specs.Tokens.{op_ahead, operand_ahead}
use Rattle.parser.specs.Reading.{Due, Stops, Atom, NoAtom, Run, Jux, NoJux, Waits, Links, Chain, NoChain}

-- what follows, by what the code asks

pub ends-if : (ts : List Tok) → operand_ahead ts ≡ false → Ends ts
unfolding operand_ahead
ends-if [] h = tt
ends-if (cited t ∷ ts) h = absurd (true≢false h)
ends-if (op o ∷ ts) h = tt
ends-if (opening ∷ ts) h = absurd (true≢false h)
ends-if (closing ∷ ts) h = tt

operand-due : (ts : List Tok) → operand_ahead ts ≡ true → (run : Exprs) → Due ts run
unfolding operand_ahead
operand-due [] h run = absurd (false≢true h)
operand-due (cited t ∷ ts) h run = tt
operand-due (op o ∷ ts) h run = absurd (false≢true h)
operand-due (opening ∷ ts) h run = tt
operand-due (closing ∷ ts) h run = absurd (false≢true h)

none_due : (ts : List Tok) → Due ts none
none_due [] = tt
none_due (cited t ∷ ts) = tt
none_due (op o ∷ ts) = tt
none_due (opening ∷ ts) = tt
none_due (closing ∷ ts) = tt

pub stops_if : (ts : List Tok) → Ends ts → None ≡ op_ahead ts → Stops ts
unfolding op_ahead
stops_if [] q h = tt
stops_if (cited t ∷ ts) q h = absurd q
stops_if (op o ∷ ts) q h = absurd cc
stops_if (opening ∷ ts) q h = absurd q
stops_if (closing ∷ ts) q h = tt

-- atoms

pub atom_cite : {t : List ℕ} {ts : List Tok} → Atom (cited t ∷ ts) ts (cite t)
unfolding read
atom_cite = record { goes = λ l run w. refl }

closed : (ts us : List Tok) (e : Expr) → (h : Chain ts (closing ∷ us) e) → (l : Left) (run : Exprs) (w : Opens) → read (opening ∷ ts) l run w ≡ read us l (run ▸ e) w
unfolding read resume
closed ts us e h l run w = h.goes (within l run w) ∙ ap (λ x. read us l (run ▸ x) w) h.is

pub atom_group : {ts us : List Tok} {e : Expr} → Chain ts (closing ∷ us) e → Atom (opening ∷ ts) us e
atom_group {ts} {us} {e} h = record { goes = closed ts us e h }

pub atom_unclosed : {ts : List Tok} {e : Expr} → Chain ts [] e → NoAtom (opening ∷ ts) Parentheses
unfolding read resume
atom_unclosed h = record { goes = λ l run w d. h.goes (within l run w) }

pub atom_inner : {ts : List Tok} {why : Refusal} → NoChain ts why → NoAtom (opening ∷ ts) why
unfolding read
atom_inner h = record { goes = λ l run w d. h.goes (within l run w) }

missing : (ts : List Tok) → Ends ts → (l : Left) (run : Exprs) (w : Opens) → Due ts run → read ts l run w ≡ Err MissingOperand
unfolding read
missing [] q l none w d = refl
missing (op o ∷ ts) q l none w d = refl
missing (closing ∷ ts) q l none w d = refl
missing [] q l (more _ _) w d = elim d [ ]
missing (cited _ ∷ ts) q l run w d = elim q [ ]
missing (op o ∷ ts) q l (more _ _) w d = elim d [ ]
missing (opening ∷ ts) q l run w d = elim q [ ]
missing (closing ∷ ts) q l (more _ _) w d = elim d [ ]

pub atom_missing : (ts : List Tok) → Ends ts → NoAtom ts MissingOperand
atom_missing ts q = record { goes = missing ts q }

-- juxtapositions

pub run-first : {ts us : List Tok} {e : Expr} → Atom ts us e → Run ts us (none ▸ e)
unfolding ◌⧺◌
run-first h = record { some = tt; goes = λ l w. h.goes l none w }

pub run_more : {ts us vs : List Tok} {run : Exprs} {e : Expr} → Run ts us run → Atom us vs e → Run ts vs (run ▸ e)
run_more {run} {e} h k = record { some = some_more run e; goes = λ l w. h.goes l w ∙ k.goes l run w }

pub run_fails : {ts us : List Tok} {run : Exprs} {why : Refusal} → Run ts us run → operand_ahead us ≡ true → NoAtom us why → NoJux ts why
run_fails {us} {run} h b f = record { goes = λ l w. h.goes l w ∙ f.goes l run w (operand-due us b run) }

pub run_ends : {ts us : List Tok} {run : Exprs} → Run ts us run → Ends us → Jux ts us (gather run)
run_ends {us} {run} h q =
    record { ends = q; goes = λ l w. h.goes l w ∙ settled us q l run h.some w ∙ ap (λ x. resume us x w) (value_gather l run) }

pub jux_fails : {ts : List Tok} {why : Refusal} → NoAtom ts why → NoJux ts why
jux_fails {ts} f = record { goes = λ l w. f.goes l none w (none_due ts) }

-- chains

pub chain_fails : {ts : List Tok} {why : Refusal} → NoJux ts why → NoChain ts why
chain_fails f = record { goes = λ w. f.goes start w }

-- a lead alone
pub chain_lead : {ts us : List Tok} {e : Expr} → Jux ts us e → Stops us → Chain ts us e
unfolding value gather whole
chain_lead {e} h q = record { stops = q; side = lead e; is = refl; goes = λ w. h.goes start w }

-- a lead before an operator
pub waits_lead : {ts us : List Tok} {o : Op} {e : Expr} → Jux ts (op o ∷ us) e → Waits ts us o (e ◂ none)
unfolding value gather grow resume ◌⧺◌
waits_lead {e} h = record { side = lead e; grows = λ b. refl; goes = λ w. h.goes start w }

linked : (ts us vs : List Tok) (o : Op) (es : Exprs) (b : Expr) (h : Waits ts us o es) → Jux us vs b → (w : Opens)
    → read ts start none w ≡ resume vs (chain o (es ▸ b)) w
unfolding value gather
linked ts us vs o es b h k w = h.goes w ∙ k.goes (after h.side o) w ∙ ap (λ x. resume vs x w) (h.grows b)

-- one more operand
pub chain_operand : {ts us vs : List Tok} {o : Op} {es : Exprs} {b : Expr} → Waits ts us o es → Jux us vs b → Links ts vs o (es ▸ b)
chain_operand {ts} {us} {vs} {o} {es} {b} h k = record { ends = k.ends; goes = linked ts us vs o es b h k }

pub operand_fails : {ts us : List Tok} {o : Op} {es : Exprs} {why : Refusal} → Waits ts us o es → NoJux us why → NoChain ts why
operand_fails {o} h f = record { goes = λ w. h.goes w ∙ f.goes (after h.side o) w }

-- its own operator follows
pub waits_again : {ts us : List Tok} {o : Op} {es : Exprs} → Links ts (op o ∷ us) o es → Waits ts us o es
unfolding resume
waits_again {o} {es} h = record { side = chain o es; grows = λ b. grow_own o es b; goes = λ w. h.goes w }

-- another operator follows
pub waits_other : {ts us : List Tok} {o p : Op} {es : Exprs} → Links ts (op p ∷ us) o es → same o p ≡ false → Waits ts us p (join o es ◂ none)
unfolding resume ◌⧺◌
waits_other {o} {p} {es} h d = record { side = chain o es; grows = λ b. grow_other o p es b d; goes = λ w. h.goes w }

-- no operator follows
pub chain_whole : {ts us : List Tok} {o : Op} {es : Exprs} → Links ts us o es → Stops us → Chain ts us (join o es)
unfolding whole
chain_whole {o} {es} h q = record { stops = q; side = chain o es; is = refl; goes = h.goes }

-- all tokens

pub parse_done : {ts : List Tok} {e : Expr} → Chain ts [] e → parse ts ≡ Ok e
unfolding parse resume
parse_done {e} h = h.goes top ∙ ap Ok h.is

pub parse_left_over : {ts us : List Tok} {e : Expr} → Chain ts (closing ∷ us) e → parse ts ≡ Err Parentheses
unfolding parse resume
parse_left_over h = h.goes top

pub parse_fails : {ts : List Tok} {why : Refusal} → NoChain ts why → parse ts ≡ Err why
unfolding parse
parse_fails f = f.goes top

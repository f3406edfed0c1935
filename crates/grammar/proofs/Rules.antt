-- What the rules derive is parsed, and what is parsed they derive. Assumes nothing.
use Rattle.std.specs.Prelude.{◌≡◌, refl, List, [], ◌∷◌, ◌++◌, Bool, true, false, ◌↔◌, Ok}
use Rattle.std.proofs.Common.{sym, ap, ◌∙◌, subst, append_assoc, append-nil}
use Rattle.std.proofs.lemmas.Bool.{false≢true}
use Rattle.refusal.specs.Result.{err≢ok}
use Rattle.grammar.specs.Expr.{Op, And, Or, Xor, Expr, Exprs, none, more, ◌◂◌, ◌⧺◌, ◌▸◌, Some, Two, Wide, Wides}
use Rattle.grammar.proofs.Expr.{two_some, two_append, wides_append}
use Rattle.grammar.specs.Lex.{Tok, cited, op, opening, closing}
use Rattle.grammar.specs.Parse.{same, gather, Side, lead, chain, whole, grow, Left, start, after, Opens, top, within, value, read, parse}
use Rattle.grammar.specs.Rules.{Phrase, Operand, Run, Term, Chain, Expression, Derives, citation, grouped, empty, next, single, several, pair, longer, another, lone, chained}
use Rattle.grammar.specs.Steps.{Ends, resume}
use Rattle.grammar.proofs.Steps.{settled, value_gather, gather_two, grow_own, grow_other, ok_same}

-- an operand alone is a term
pub operand_term : {ts : List Tok} {e : Expr} → Derives ts (Operand e) → Derives ts (Term e)
unfolding ◌⧺◌
operand_term d = single (next empty d)

-- What the rules derive is parsed.

-- how the tokens of a phrase are read, wherever they stand
abbrev PhraseRead : List Tok → Phrase → Type 0
PhraseRead ts (Operand e) = (us : List Tok) (l : Left) (run : Exprs) (w : Opens) → read (ts ++ us) l run w ≡ read us l (run ▸ e) w
PhraseRead ts (Run es) = (us : List Tok) (l : Left) (w : Opens) → read (ts ++ us) l none w ≡ read us l es w
PhraseRead ts (Term e) = (us : List Tok) → Ends us → (l : Left) (w : Opens) → read (ts ++ us) l none w ≡ resume us (value l (e ◂ none)) w
PhraseRead ts (Chain o es) = (us : List Tok) → Ends us → (w : Opens) → read (ts ++ us) start none w ≡ resume us (chain o es) w
PhraseRead ts (Expression e) =
    (parse ts ≡ Ok e) × ((us : List Tok) (l : Left) (run : Exprs) (w : Opens) → read (ts ++ (closing ∷ us)) start none (within l run w) ≡ read us l (run ▸ e) w)

reads : {ts : List Tok} {p : Phrase} → Derives ts p → PhraseRead ts p
unfolding read resume value gather whole grow parse
reads (citation t) = λ us l run w. refl
reads (grouped {ts} d) = λ us l run w. ap (λ x. read x start none (within l run w)) (append_assoc ts (closing ∷ []) us) ∙ (reads d).1 us l run w
reads empty = λ us l w. refl
reads (next {ts} {us} {es} d d') =
    λ vs l w. ap (λ x. read x l none w) (append_assoc ts us vs) ∙ reads d (us ++ vs) l w ∙ reads d' vs l es w
reads (single {e} d) = λ us q l w. reads d us l w ∙ settled us q l (e ◂ none) tt w
reads (several {es} d h) = λ us q l w. reads d us l w ∙ settled us q l es (two_some es h) w ∙ ap (λ x. resume us x w) (value_gather l es ∙ ap (λ x. value l (x ◂ none)) (gather_two es h))
reads (pair {ts} {us} {a} {b} d o d') =
    λ vs q w. ap (λ x. read x start none w) (append_assoc ts (op o ∷ us) vs)
    ∙ reads d (op o ∷ (us ++ vs)) tt start w
    ∙ reads d' vs q (after (lead a) o) w
reads (longer {ts} {us} {o} {es} {b} d d') =
    λ vs q w. ap (λ x. read x start none w) (append_assoc ts (op o ∷ us) vs)
    ∙ reads d (op o ∷ (us ++ vs)) tt w
    ∙ reads d' vs q (after (chain o es) o) w
    ∙ ap (λ x. resume vs x w) (grow_own o es b)
reads (another {ts} {us} {p} {es} {b} d o h d') =
    λ vs q w. ap (λ x. read x start none w) (append_assoc ts (op o ∷ us) vs)
    ∙ reads d (op o ∷ (us ++ vs)) tt w
    ∙ reads d' vs q (after (chain p es) o) w
    ∙ ap (λ x. resume vs x w) (grow_other p o es b h)
reads (lone {ts} d) = (rw append-nil at (reads d [] tt start top), λ us l run w. reads d (closing ∷ us) tt start (within l run w))
reads (chained {ts} d) = (rw append-nil at (reads d [] tt top), λ us l run w. reads d (closing ∷ us) tt (within l run w))

-- What is parsed, the rules derive.

-- operators that the test finds the same are the same
same_op : (p o : Op) → same p o ≡ true → p ≡ o
unfolding same
same_op And And h = refl
same_op And Or h = absurd (false≢true h)
same_op And Xor h = absurd (false≢true h)
same_op Or And h = absurd (false≢true h)
same_op Or Or h = refl
same_op Or Xor h = absurd (false≢true h)
same_op Xor And h = absurd (false≢true h)
same_op Xor Or h = absurd (false≢true h)
same_op Xor Xor h = refl

-- the tokens of a side
data Sided : List Tok → Side → Type 0 where
  leads : {ts : List Tok} {e : Expr} → Derives ts (Term e) → Sided ts (lead e)
  chains : {ts : List Tok} {o : Op} {es : Exprs} → Derives ts (Chain o es) → Sided ts (chain o es)

-- the tokens of what stands left of the run that is being read
data LeftTokens : List Tok → Left → Type 0 where
  nothing : LeftTokens [] start
  operator : {ts : List Tok} {s : Side} → Sided ts s → (o : Op) → LeftTokens (ts ++ (op o ∷ [])) (after s o)

-- the tokens up to the innermost open parenthesis
data OpenTokens : List Tok → Opens → Type 0 where
  none_open : OpenTokens [] top
  one_open : {ts us vs : List Tok} {l : Left} {run : Exprs} {w : Opens}
      → OpenTokens ts w → LeftTokens us l → Derives vs (Run run) → OpenTokens (ts ++ (us ++ (vs ++ (opening ∷ [])))) (within l run w)

gather_term : {ts : List Tok} (es : Exprs) → Derives ts (Run es) → Some es → Derives ts (Term (gather es))
unfolding gather
gather_term (more e none) d h = single d
gather_term (more e (more f es)) d h = several d tt
gather_term none d h = elim h [ ]

grow_sided : {ts us : List Tok} {s : Side} {b : Expr} → Sided ts s → (o : Op) → Derives us (Term b) → Sided (ts ++ (op o ∷ us)) (grow s o b)
unfolding grow
grow_sided (leads d) o d' = chains (pair d o d')
grow_sided {us} {b} (chains {ts} {o = p} {es} d) o d' = go (same p o) refl
  where
    go : (x : Bool) → same p o ≡ x → Sided (ts ++ (op o ∷ us)) (grow (chain p es) o b)
    go true h = rw h (chains (subst (λ q. Derives (ts ++ (op q ∷ us)) (Chain p (es ▸ b))) (same_op p o h) (longer d d')))
    go false h = rw h (chains (another d o h d'))

value_sided : {ts us : List Tok} {l : Left} {es : Exprs} → LeftTokens ts l → Derives us (Run es) → Some es → Sided (ts ++ us) (value l es)
unfolding value
value_sided {es} nothing d h = leads (gather_term es d h)
value_sided {us} {es} (operator {ts} c o) d h = rw (append_assoc ts (op o ∷ []) us) (grow_sided c o (gather_term es d h))

whole_derives : {ts : List Tok} {s : Side} → Sided ts s → Derives ts (Expression (whole s))
unfolding whole
whole_derives (leads d) = lone d
whole_derives (chains d) = chained d

derives : (ts : List Tok) {us vs xs : List Tok} {l : Left} {run : Exprs} {w : Opens}
    → OpenTokens us w → LeftTokens vs l → Derives xs (Run run) → (e : Expr) → read ts l run w ≡ Ok e → Derives (us ++ (vs ++ (xs ++ ts))) (Expression e)
unfolding read
derives [] {run = none} v b d e h = absurd (err≢ok h)
derives [] {l} {run = more f fs} none_open b d e h =
    rw (append-nil, ← ok_same (whole (value l (f ◂ fs))) e h) (whole_derives (value_sided b d tt))
derives [] {run = more f fs} (one_open v b' d') b d e h = absurd (err≢ok h)
derives (cited t ∷ ts) v b d e h = simp append_assoc at (derives ts v b (next d (citation t)) e h)
derives (opening ∷ ts) v b d e h = simp append_assoc at (derives ts (one_open v b d) nothing empty e h)
derives (op o ∷ ts) {run = none} v b d e h = absurd (err≢ok h)
derives (op o ∷ ts) {run = more f fs} v b d e h = simp append_assoc at (derives ts v (operator (value_sided b d tt) o) empty e h)
derives (closing ∷ ts) {run = none} v b d e h = absurd (err≢ok h)
derives (closing ∷ ts) {run = more f fs} none_open b d e h = absurd (err≢ok h)
derives (closing ∷ ts) {run = more f fs} (one_open v b' d') b d e h =
    simp append_assoc (simp append_assoc at (derives ts v b' (next d' (grouped (whole_derives (value_sided b d tt)))) e h))

-- tokens parse to an expression exactly if the rules derive it from them
pub parse_exactly : (ts : List Tok) (e : Expr) → (parse ts ≡ Ok e) ↔ Derives ts (Expression e)
unfolding parse
parse_exactly ts e = (derives ts none_open nothing empty e, λ d. (reads d).0)

-- the rules derive no two expressions from the same tokens
pub one_expression : (ts : List Tok) (a b : Expr) → Derives ts (Expression a) → Derives ts (Expression b) → a ≡ b
one_expression ts a b d d' = ok_same a b (sym (reads d).0 ∙ (reads d').0)

-- Inner nodes have two operands or more.

abbrev PhraseWide : Phrase → Type 0
PhraseWide (Operand e) = Wide e
PhraseWide (Run es) = Wides es
PhraseWide (Term e) = Wide e
PhraseWide (Chain o es) = Two es × Wides es
PhraseWide (Expression e) = Wide e

derived_wide : {ts : List Tok} {p : Phrase} → Derives ts p → PhraseWide p
derived_wide (citation t) = tt
derived_wide (grouped d) = derived_wide d
derived_wide empty = tt
derived_wide (next {es} {e} d d') = wides_append es (e ◂ none) (derived_wide d) (derived_wide d', tt)
derived_wide (single d) = (derived_wide d).0
derived_wide (several d h) = (h, derived_wide d)
derived_wide (pair d o d') = (tt, (derived_wide d, (derived_wide d', tt)))
derived_wide (longer {es} {b} d d') =
    let w = derived_wide d in
    (two_append es (b ◂ none) (two_some es w.0) tt, wides_append es (b ◂ none) w.1 (derived_wide d', tt))
derived_wide (another d o h d') = (tt, (derived_wide d, (derived_wide d', tt)))
derived_wide (lone d) = derived_wide d
derived_wide (chained d) = derived_wide d

-- inner nodes of what is parsed have two operands or more
pub parse_wide : (ts : List Tok) (e : Expr) → parse ts ≡ Ok e → Wide e
parse_wide ts e h = derived_wide ((parse_exactly ts e).0 h)

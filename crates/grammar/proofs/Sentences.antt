-- The rules of reading in words (docs/FORMAT.md, 'Texts'), for all tokens that parse. Assumes nothing.
use Rattle.std.specs.Prelude.{◌≡◌, refl, List, [], ◌∷◌, ◌++◌, ℕ, false, cond, Ok, Err}
use Rattle.std.proofs.Common.{◌∙◌, append_assoc, append-nil}
use Rattle.refusal.specs.declared.Refusal.TheVariants.{Unterminated, EmptyCondition}
use Rattle.utf8.specs.Utf8.{encode}
use Rattle.grammar.specs.Expr.{Op, Expr, Exprs, Then, join, none, ◌◂◌, ◌⧺◌, ◌▸◌, Some, Two}
use Rattle.grammar.proofs.Expr.{append_none, appends_assoc, some_more, two_append}
use Rattle.grammar.specs.Lex.{Tok, cited, op, cite_begin, cite_end, blank, also, inner, lex, inside}
use Rattle.grammar.specs.Citable.{holds}
use Rattle.grammar.proofs.LexPrint.{word_begun, inside_read, inside_open}
use Rattle.grammar.specs.Parse.{same, parse}
use Rattle.grammar.specs.Rules.{group, Run, Term, Chain, Expression, Derives, grouped, next, several, pair, longer, another, lone, chained}
use Rattle.grammar.proofs.Rules.{operand_term, parse_exactly}
use Rattle.grammar.specs.Sentences.{Links, ends, link}

-- a chain goes on with its own operator
links_chain : {o : Op} {ts us : List Tok} {fs es : Exprs} → Derives ts (Chain o fs) → Links o us es → Derives (ts ++ us) (Chain o (fs ⧺ es))
unfolding ◌⧺◌
links_chain d ends = rw (append-nil, append_none) d
links_chain {o} {ts} {fs} d (link {ts = vs} {us} {e} {es} t k) =
    rw (← append_assoc ts (op o ∷ vs) us, ← appends_assoc fs (e ◂ none) es) (links_chain (longer d t) k)

-- terms with one operator between them are one node of it
pub links_joined : {o : Op} {ts us : List Tok} {a : Expr} {es : Exprs} → Derives ts (Term a) → Links o us es → Some es → Derives (ts ++ us) (Expression (join o (a ◂ es)))
unfolding ◌⧺◌
links_joined {o} {ts} t (link {ts = vs} {us} u k) h = rw (← append_assoc ts (op o ∷ vs) us) (chained (links_chain (pair t o u) k))
links_joined t ends h = elim h [ ]

-- one more term
links_more : {o : Op} {us vs : List Tok} {es : Exprs} {e : Expr} → Links o us es → Derives vs (Term e) → Links o (us ++ op o ∷ vs) (es ▸ e)
unfolding ◌⧺◌
links_more {vs} ends t = rw (← append-nil vs) (link t ends)
links_more {o} {vs} (link {ts} {us} t k) t' = rw (append_assoc ts us (op o ∷ vs)) (link t (links_more k t'))

-- juxtaposed operands, two or more, are one Then
pub juxtaposed_one_node : (ts : List Tok) (es : Exprs) → Derives ts (Run es) → Two es → parse ts ≡ Ok (Then es)
juxtaposed_one_node ts es d h = (parse_exactly ts (Then es)).1 (lone (several d h))

-- a term with links of one operator behind it is one node of that operator
pub operator_one_node : (o : Op) (ts us : List Tok) (e : Expr) (es : Exprs) → Derives ts (Term e) → Links o us es → Some es
    → parse (ts ++ us) ≡ Ok (join o (e ◂ es))
operator_one_node o ts us e es t k h = (parse_exactly (ts ++ us) (join o (e ◂ es))).1 (links_joined t k h)

-- what parses is one term in parentheses, whatever it parses to
pub group_term : (ts : List Tok) (e : Expr) → parse ts ≡ Ok e → Derives (group ts) (Term e)
group_term ts e h = operand_term (grouped ((parse_exactly ts e).0 h))

-- brackets alone make no node
pub brackets_make_none : (ts : List Tok) (e : Expr) → parse ts ≡ Ok e → parse (group ts) ≡ Ok e
brackets_make_none ts e h = (parse_exactly (group ts) e).1 (lone (group_term ts e h))

-- what parses, in parentheses, is one operand behind others, also if it is a Then
pub group_in_run : (ts us : List Tok) (e : Expr) (es : Exprs) → Derives us (Run es) → Some es → parse ts ≡ Ok e → parse (us ++ group ts) ≡ Ok (Then (es ▸ e))
group_in_run ts us e es d h k =
    (parse_exactly (us ++ group ts) (Then (es ▸ e))).1 (lone (several (next d (grouped ((parse_exactly ts e).0 k))) (two_append es (e ◂ none) h tt)))

-- what parses, in parentheses, is one operand in front of an operator, also if it is a node of that operator
pub leading_group_stays : (o : Op) (ts us : List Tok) (e : Expr) (es : Exprs) → parse ts ≡ Ok e → Links o us es → Some es
    → parse (group ts ++ us) ≡ Ok (join o (e ◂ es))
leading_group_stays o ts us e es h k = operator_one_node o (group ts) us e es (group_term ts e h) k

-- and behind one likewise
pub later_group_stays : (o : Op) (ts us vs : List Tok) (a e : Expr) (es : Exprs) → Derives ts (Term a) → Links o us es → parse vs ≡ Ok e
    → parse (ts ++ (us ++ op o ∷ group vs)) ≡ Ok (join o (a ◂ (es ▸ e)))
later_group_stays o ts us vs a e es t k h =
    operator_one_node o ts (us ++ op o ∷ group vs) a (es ▸ e) t (links_more k (group_term vs e h)) (some_more es e)

another_chain : {p o : Op} {ts us : List Tok} {es : Exprs} {a b : Expr} → Derives ts (Expression a) → a ≡ join p es → same p o ≡ false → Derives us (Term b)
    → Derives (ts ++ op o ∷ us) (Chain o (join p es ◂ b ◂ none))
another_chain {o} (lone d) e n t = rw (← e) (pair d o t)
another_chain {p} {o} (chained {o = q} d) e n t = let k : q ≡ p = cc in rw (← e) (another d o (rw k n) t)

-- the operators bind equally, from left to right: all that stands left of another operator, whatever operators it has, is its first operand
pub operators_group_left : (p o : Op) (ts us : List Tok) (es : Exprs) (b : Expr) → parse ts ≡ Ok (join p es) → same p o ≡ false → Derives us (Term b)
    → parse (ts ++ op o ∷ us) ≡ Ok (join o (join p es ◂ b ◂ none))
operators_group_left p o ts us es b h n t =
    (parse_exactly (ts ++ op o ∷ us) (join o (join p es ◂ b ◂ none))).1 (chained (another_chain ((parse_exactly ts (join p es)).0 h) refl n t))

-- juxtaposition binds tighter than the operators: a run is one operand, left of an operator and right of it
pub juxtaposition_tighter : (o : Op) (ts us : List Tok) (es fs : Exprs) → Derives ts (Run es) → Derives us (Run fs) → Two es → Two fs
    → parse (ts ++ op o ∷ us) ≡ Ok (join o (Then es ◂ Then fs ◂ none))
juxtaposition_tighter o ts us es fs r k h g =
    (parse_exactly (ts ++ op o ∷ us) (join o (Then es ◂ Then fs ◂ none))).1 (chained (pair (several r h) o (several k g)))

-- a citation ends at the first `]`; spaces belong to its text; one of white space alone is refused by 3
pub citation_to_first_end : (t cs : List ℕ) → holds cite_end t ≡ false
    → lex (cite_begin ∷ (t ++ (cite_end ∷ cs))) ≡ cond (blank t) (Err EmptyCondition) (also (cited (encode t)) (lex cs))
unfolding inside inner
citation_to_first_end t cs h = word_begun (t ++ (cite_end ∷ cs)) ∙ inside_read [] t cs h

-- a citation without `]` is not terminated
pub citation_without_end : (t : List ℕ) → holds cite_end t ≡ false → lex (cite_begin ∷ t) ≡ Err Unterminated
citation_without_end t h = word_begun t ∙ inside_open [] t h

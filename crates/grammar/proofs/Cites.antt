-- A tree cites what its tokens cite, and lexing yields citable texts only. Assumes nothing.
use Rattle.std.specs.Prelude.{◌≡◌, refl, List, [], ◌∷◌, ◌++◌, Bool, true, false, cond, ℕ, eqb, Result, Ok, Err}
use Rattle.std.proofs.Common.{sym, ◌∙◌, subst, append-nil}
use Rattle.refusal.specs.declared.Refusal.{Refusal}
use Rattle.refusal.specs.Result.{map_ok}
use Rattle.refusal.specs.declared.Refusal.TheVariants.{EmptyCondition}
use Rattle.utf8.specs.Utf8.{encode, Scalar, Scalars}
use Rattle.grammar.specs.Expr.{Expr, Exprs, none, ◌◂◌, ◌▸◌, citations, citations_of, citations_append}
use Rattle.grammar.specs.Lex.{Tok, cited, op, opening, closing, cite_end, blank, Part, bracket, sign, left, right, space, stray, part, also, outer, inner, lex, inside, texts}
use Rattle.grammar.specs.Citable.{holds, AllCitable}
use Rattle.grammar.proofs.Citable.{holds_none, citable_encoded}
use Rattle.grammar.specs.Parse.{parse}
use Rattle.grammar.specs.Rules.{Phrase, Operand, Run, Term, Chain, Expression, Derives, citation, grouped, empty, next, single, several, pair, longer, another, lone, chained}
use Rattle.grammar.proofs.Rules.{parse_exactly}

snoc_cites : (run : Exprs) (e : Expr) → citations_of (run ▸ e) ≡ citations_of run ++ citations e
unfolding citations
snoc_cites run e = rw (citations_append run (e ◂ none), append-nil)

texts_append : (a b : List Tok) → texts (a ++ b) ≡ texts a ++ texts b
unfolding texts
texts_append [] b = refl
texts_append (cited t ∷ a) b = rw (texts_append a b)
texts_append (op o ∷ a) b = texts_append a b
texts_append (opening ∷ a) b = texts_append a b
texts_append (closing ∷ a) b = texts_append a b

-- the texts that a phrase cites
abbrev phrase_texts : Phrase → List (List ℕ)
phrase_texts (Operand e) = citations e
phrase_texts (Run es) = citations_of es
phrase_texts (Term e) = citations e
phrase_texts (Chain o es) = citations_of es
phrase_texts (Expression e) = citations e

derived_cites : {ts : List Tok} {p : Phrase} → Derives ts p → phrase_texts p ≡ texts ts
unfolding texts citations
derived_cites (citation t) = refl
derived_cites (grouped {ts} d) = rw (texts_append ts (closing ∷ []), append-nil) (derived_cites d)
derived_cites empty = refl
derived_cites (next {ts} {us} {es} {e} d d') = snoc_cites es e ∙ rw (texts_append ts us, derived_cites d, derived_cites d')
derived_cites (single {e} d) = sym (append-nil (citations e)) ∙ derived_cites d
derived_cites (several d h) = derived_cites d
derived_cites (pair {ts} {us} d o d') = rw (texts_append ts (op o ∷ us), append-nil, derived_cites d, derived_cites d')
derived_cites (longer {ts} {us} {o} {es} {b} d d') = snoc_cites es b ∙ rw (texts_append ts (op o ∷ us), derived_cites d, derived_cites d')
derived_cites (another {ts} {us} d o h d') = rw (texts_append ts (op o ∷ us), append-nil, derived_cites d, derived_cites d')
derived_cites (lone d) = derived_cites d
derived_cites (chained d) = derived_cites d

-- a tree cites what its tokens cite, in their order
pub parse-cites : (ts : List Tok) (e : Expr) → parse ts ≡ Ok e → citations e ≡ texts ts
parse-cites ts e h = derived_cites ((parse_exactly ts e).0 h)

abbrev Lexed : Result (List Tok) Refusal → Type 0
Lexed (Ok ts) = AllCitable (texts ts)
Lexed (Err k) = Unit

-- the characters of a citation so far
abbrev Open : List ℕ → Type 0
Open t = Scalars t × (holds cite_end t ≡ false)

open_more : (t : List ℕ) (c : ℕ) → Open t → Scalar c → eqb c cite_end ≡ false → Open (t ++ (c ∷ []))
unfolding holds
open_more [] c u s h = ((s, tt), rw h)
open_more (d ∷ t) c u s h =
    let r = holds_none cite_end d t u.1 in
    let i = open_more t c (u.0.1, r.1) s h in
    ((u.0.0, i.0), rw r.0 i.1)

outer_lexed : (p : Part) (i r : Result (List Tok) Refusal) → Lexed i → Lexed r → Lexed (outer p i r)
unfolding outer map_ok texts
outer_lexed bracket i r hi hr = hi
outer_lexed (sign o) i (Ok ts) hi hr = hr
outer_lexed (sign o) i (Err k) hi hr = tt
outer_lexed left i (Ok ts) hi hr = hr
outer_lexed left i (Err k) hi hr = tt
outer_lexed right i (Ok ts) hi hr = hr
outer_lexed right i (Err k) hi hr = tt
outer_lexed space i r hi hr = hr
outer_lexed stray i r hi hr = tt

ended_lexed : (b : Bool) (t : List ℕ) (r : Result (List Tok) Refusal) → blank t ≡ b → Open t → Lexed r → Lexed (cond b (Err EmptyCondition) (also (cited (encode t)) r))
unfolding map_ok texts
ended_lexed true t r h u hr = tt
ended_lexed false t (Ok ts) h u hr = (citable_encoded t u.0 h u.1, hr)
ended_lexed false t (Err k) h u hr = tt

inner_lexed : (b : Bool) (t : List ℕ) (i r : Result (List Tok) Refusal) → Open t → (b ≡ false → Lexed i) → Lexed r → Lexed (inner b t i r)
unfolding inner
inner_lexed true t i r u hi hr = ended_lexed (blank t) t r refl u hr
inner_lexed false t i r u hi hr = hi refl

mutual
  unfolding lex texts holds

  lex_citable : (cs : List ℕ) → Scalars cs → Lexed (lex cs)
  lex_citable [] s = tt
  lex_citable (c ∷ cs) s = outer_lexed (part c) (inside [] cs) (lex cs) (inside_citable [] cs s.1 (tt, refl)) (lex_citable cs s.1)

  inside_citable : (t cs : List ℕ) → Scalars cs → Open t → Lexed (inside t cs)
  inside_citable t [] s u = tt
  inside_citable t (c ∷ cs) s u =
      inner_lexed (eqb c cite_end) t (inside (t ++ (c ∷ [])) cs) (lex cs) u
      (λ h. inside_citable (t ++ (c ∷ [])) cs s.1 (open_more t c u s.0 h)) (lex_citable cs s.1)

-- lexing yields citable texts only
pub lexed_citable : (cs : List ℕ) → Scalars cs → (ts : List Tok) → lex cs ≡ Ok ts → AllCitable (texts ts)
lexed_citable cs s ts h = subst Lexed h (lex_citable cs s)

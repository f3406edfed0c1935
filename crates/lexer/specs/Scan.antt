-- What characters are read as from left to right: tokens with their places, up to the end or to the leftmost refusal. Assumes nothing.
use Rattle.std.specs.Prelude.{ℕ, ◌+◌, ◌≡◌, refl, Bool, true, false, cond, List, [], ◌∷◌, ◌++◌, eqb, length, Result, Ok, Err}
use Rattle.std.proofs.Common.{ap, ap₂, ◌∙◌}
use Rattle.refusal.specs.Result.{err≢ok, map_ok}
use Rattle.refusal.specs.declared.Refusal.{Refusal}
use Rattle.refusal.specs.declared.Refusal.TheVariants.{Stray, Unterminated, EmptyCondition}
use Rattle.utf8.specs.Utf8.{encode, encode_char}
use Rattle.grammar.specs.Lex.{Tok, cited, op, opening, closing, cite_end, blank, Part, bracket, sign, left, right, space, stray, part, also, outer, inner, lex, inside}
use Rattle.lexer.specs.Tokens.{placed}
use Rattle.lexer.specs.declared.Place.{Place}

-- tokens, each with the number of its first byte, a citation with that of its text; then the end, or a refusal
pub data Scan : Type 0 where
  last : Scan
  halt : Refusal → Scan
  meets : ℕ → Tok → Scan → Scan

-- a character outside a citation, at the byte number `at`: `within` is what comes of the rest inside one, `rest` what comes of it outside
unfoldable pub outer_scan : Part → ℕ → (within rest : Scan) → Scan
outer_scan bracket at within rest = within
outer_scan (sign o) at within rest = meets at (op o) rest
outer_scan left at within rest = meets at opening rest
outer_scan right at within rest = meets at closing rest
outer_scan space at within rest = rest
outer_scan stray at within rest = halt Stray

-- a character inside a citation whose text begins at `from` and has the characters t so far; the test says that it is `]`
unfoldable pub inner_scan : Bool → ℕ → List ℕ → (within rest : Scan) → Scan
inner_scan true from t within rest = cond (blank t) (halt EmptyCondition) (meets from (cited (encode t)) rest)
inner_scan false from t within rest = within

unfoldable mutual
  -- what characters are read as, the first of them at the byte number `at`
  pub scan : ℕ → List ℕ → Scan
  scan at [] = last
  scan at (c ∷ cs) =
      let within = scan_in (at + length (encode_char c)) [] cs in
      let rest = scan (at + length (encode_char c)) cs in
      outer_scan (part c) at within rest

  -- the same inside a citation whose text begins at `from` and has the characters t so far
  pub scan_in : ℕ → List ℕ → List ℕ → Scan
  scan_in from t [] = halt Unterminated
  scan_in from t (c ∷ cs) =
      let within = scan_in from (t ++ (c ∷ [])) cs in
      let rest = scan (from + length (encode t) + 1) cs in
      inner_scan (eqb c cite_end) from t within rest

-- the tokens, all in front of the leftmost refusal
unfoldable pub scanned : Scan → List Tok
scanned last = []
scanned (halt why) = []
scanned (meets at t r) = t ∷ scanned r

-- the places of the texts that they cite
unfoldable pub places_in : Scan → List Place
places_in last = []
places_in (halt why) = []
places_in (meets at (cited t) r) = placed at (length t) ∷ places_in r
places_in (meets at (op o) r) = places_in r
places_in (meets at opening r) = places_in r
places_in (meets at closing r) = places_in r

-- the tokens, or the refusal
unfoldable pub outcome : Scan → Result (List Tok) Refusal
outcome last = Ok []
outcome (halt why) = Err why
outcome (meets at t r) = also t (outcome r)

outer-outcome : (p : Part) (at : ℕ) (x y : Scan) → outcome (outer_scan p at x y) ≡ outer p (outcome x) (outcome y)
unfolding outcome outer_scan outer
outer-outcome bracket at x y = refl
outer-outcome (sign o) at x y = refl
outer-outcome left at x y = refl
outer-outcome right at x y = refl
outer-outcome space at x y = refl
outer-outcome stray at x y = refl

inner-outcome : (b : Bool) (from : ℕ) (t : List ℕ) (x y : Scan) → outcome (inner_scan b from t x y) ≡ inner b t (outcome x) (outcome y)
unfolding outcome inner_scan inner
inner-outcome true from t x y = go (blank t)
  where
    go : (w : Bool) → outcome (cond w (halt EmptyCondition) (meets from (cited (encode t)) y)) ≡ cond w (Err EmptyCondition) (also (cited (encode t)) (outcome y))
    go true = refl
    go false = refl
inner-outcome false from t x y = refl

mutual
  unfolding scan lex outcome

  -- lexing says no more and no less
  pub scan_lex : (at : ℕ) (cs : List ℕ) → outcome (scan at cs) ≡ lex cs
  scan_lex at [] = refl
  scan_lex at (c ∷ cs) =
      outer-outcome (part c) at (scan_in (at + length (encode_char c)) [] cs) (scan (at + length (encode_char c)) cs)
      ∙ ap₂ (outer (part c)) (scan_inside (at + length (encode_char c)) [] cs) (scan_lex (at + length (encode_char c)) cs)

  scan_inside : (from : ℕ) (t cs : List ℕ) → outcome (scan_in from t cs) ≡ inside t cs
  scan_inside from t [] = refl
  scan_inside from t (c ∷ cs) =
      inner-outcome (eqb c cite_end) from t (scan_in from (t ++ (c ∷ [])) cs) (scan (from + length (encode t) + 1) cs)
      ∙ ap₂ (inner (eqb c cite_end) t) (scan_inside from (t ++ (c ∷ [])) cs) (scan_lex (from + length (encode t) + 1) cs)

-- where there is no refusal, all tokens were met
pub scanned-all : (r : Scan) (ts : List Tok) → outcome r ≡ Ok ts → scanned r ≡ ts
unfolding outcome scanned map_ok
scanned-all last ts e = cc
scanned-all (halt why) ts e = absurd (err≢ok e)
scanned-all (meets at t r) ts e = go (outcome r) refl e (scanned-all r)
  where
    go : (x : Result (List Tok) Refusal) → outcome r ≡ x → also t x ≡ Ok ts → ((us : List Tok) → outcome r ≡ Ok us → scanned r ≡ us) → t ∷ scanned r ≡ ts
    go (Ok us) q f h = let g : t ∷ us ≡ ts = cc in ap (λ x. t ∷ x) (h us q) ∙ g
    go (Err k) q f h = absurd (err≢ok f)

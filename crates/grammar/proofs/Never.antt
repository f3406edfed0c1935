-- Reading a status never says that there is no expression. Assumes nothing.
use Rattle.std.specs.Prelude.{◌≡◌, refl, List, [], ◌∷◌, ◌++◌, Bool, true, false, ℕ, eqb, leb, length, Result, Ok, Err}
use Rattle.std.proofs.Common.{sym, ◌∙◌, subst}
use Rattle.std.proofs.lemmas.Bool.{false≢true}
use Rattle.laws.specs.Tests.{cond_both}
use Rattle.refusal.specs.Result.{unless, then, map_ok}
use Rattle.refusal.specs.Refusals.{number_of}
use Rattle.refusal.specs.declared.Refusal.{Refusal}
use Rattle.refusal.specs.declared.Refusal.TheVariants.{Empty, EmptyCondition, TooLong, NotUtf8, TooManyCitations, TooDeep}
use Rattle.utf8.specs.Utf8.{is_utf8, decode, encode}
use Rattle.utf8.specs.White.{is_white}
use Rattle.utf8.specs.Limits.{text_limit, admitted}
use Rattle.text.specs.Bytes.{same}
use Rattle.status.specs.declared.StatusKind.{StatusKind}
use Rattle.status.specs.Status.{word_of, kinds, kind_among, kind_of_word}
use Rattle.grammar.specs.Expr.{And, Or, Xor, Expr, Exprs, cite, none, more, ◌◂◌, ◌▸◌}
use Rattle.grammar.specs.Lex.{Tok, cited, op, opening, closing, cite_begin, group_begin, group_end, symbol, blank, Part, bracket, sign, left, right, space, stray, part, also, outer, inner, lex, inside, texts, cite_end}
use Rattle.grammar.specs.Parse.{whole, Left, start, after, Opens, top, within, value, read, parse}
use Rattle.grammar.specs.Reading.{some_token, few, shallow, open_limit, tree, expression}
use Rattle.grammar.specs.Status.{ended, words_from, words, joined, stated, after_word, of_words, status_reading}

module _ {A : Type 0} where
  -- an answer, or another refusal than 6
  abbrev NotEmpty : Result A Refusal → Type 0
  NotEmpty (Ok a) = Unit
  NotEmpty (Err k) = eqb (number_of k) (number_of Empty) ≡ false

  unless_not : (b : Bool) (why : Refusal) (r : Result A Refusal) → eqb (number_of why) (number_of Empty) ≡ false → NotEmpty r → NotEmpty (unless b why r)
  unless_not true why r h k = k
  unless_not false why r h k = h

read-not : (ts : List Tok) (l : Left) (run : Exprs) (w : Opens) → NotEmpty (read ts l run w)
unfolding read
read-not [] l none w = refl
read-not [] l (more e es) top = tt
read-not [] l (more e es) (within l' run' w) = refl
read-not (cited t ∷ ts) l run w = read-not ts l (run ▸ cite t) w
read-not (opening ∷ ts) l run w = read-not ts start none (within l run w)
read-not (op o ∷ ts) l none w = refl
read-not (op o ∷ ts) l (more e es) w = read-not ts (after (value l (e ◂ es)) o) none w
read-not (closing ∷ ts) l none w = refl
read-not (closing ∷ ts) l (more e es) top = refl
read-not (closing ∷ ts) l (more e es) (within l' run' w) = read-not ts l' (run' ▸ whole (value l (e ◂ es))) w

tree-not : (t : Tok) (ts : List Tok) → NotEmpty (tree (t ∷ ts))
unfolding tree some_token parse
tree-not t ts =
    unless_not (few (texts (t ∷ ts))) TooManyCitations _ refl
    (unless_not (shallow open_limit 0 (t ∷ ts)) TooDeep _ refl (read-not (t ∷ ts) start none top))

-- tokens, or another refusal than 6
abbrev SomeTokens : Result (List Tok) Refusal → Type 0
SomeTokens (Ok []) = ⊥
SomeTokens (Ok (t ∷ ts)) = Unit
SomeTokens (Err k) = eqb (number_of k) (number_of Empty) ≡ false

abbrev Tokens : Result (List Tok) Refusal → Type 0
Tokens (Ok ts) = Unit
Tokens (Err k) = eqb (number_of k) (number_of Empty) ≡ false

also_some : (t : Tok) (r : Result (List Tok) Refusal) → Tokens r → SomeTokens (also t r)
unfolding map_ok
also_some t (Ok ts) h = tt
also_some t (Err k) h = h

some_tokens : (r : Result (List Tok) Refusal) → SomeTokens r → Tokens r
some_tokens (Ok []) h = tt
some_tokens (Ok (t ∷ ts)) h = tt
some_tokens (Err k) h = h

abbrev NotSpace : Part → Type 0
NotSpace bracket = Unit
NotSpace (sign o) = Unit
NotSpace left = Unit
NotSpace right = Unit
NotSpace space = ⊥
NotSpace stray = Unit

part-not : (c : ℕ) → is_white c ≡ false → NotSpace (part c)
unfolding part
part-not c w =
    cond_both NotSpace (eqb c cite_begin) _ _ (λ _. tt)
    λ _. cond_both NotSpace (eqb c group_begin) _ _ (λ _. tt)
    λ _. cond_both NotSpace (eqb c group_end) _ _ (λ _. tt)
    λ _. cond_both NotSpace (eqb c (symbol And)) _ _ (λ _. tt)
    λ _. cond_both NotSpace (eqb c (symbol Or)) _ _ (λ _. tt)
    λ _. cond_both NotSpace (eqb c (symbol Xor)) _ _ (λ _. tt)
    λ _. cond_both NotSpace (is_white c) _ _ (λ t. absurd (false≢true (sym w ∙ t))) λ _. tt

outer_some : (p : Part) (i r : Result (List Tok) Refusal) → SomeTokens i → Tokens r → NotSpace p → SomeTokens (outer p i r)
unfolding outer
outer_some bracket i r hi hr n = hi
outer_some (sign o) i r hi hr n = also_some (op o) r hr
outer_some left i r hi hr n = also_some opening r hr
outer_some right i r hi hr n = also_some closing r hr
outer_some space i r hi hr n = absurd n
outer_some stray i r hi hr n = refl

outer_tokens : (p : Part) (i r : Result (List Tok) Refusal) → SomeTokens i → Tokens r → Tokens (outer p i r)
unfolding outer
outer_tokens bracket i r hi hr = some_tokens i hi
outer_tokens (sign o) i r hi hr = some_tokens (also (op o) r) (also_some (op o) r hr)
outer_tokens left i r hi hr = some_tokens (also opening r) (also_some opening r hr)
outer_tokens right i r hi hr = some_tokens (also closing r) (also_some closing r hr)
outer_tokens space i r hi hr = hr
outer_tokens stray i r hi hr = refl

inner_some : (b : Bool) (t : List ℕ) (i r : Result (List Tok) Refusal) → SomeTokens i → Tokens r → SomeTokens (inner b t i r)
unfolding inner
inner_some true t i r hi hr =
    cond_both SomeTokens (blank t) (Err EmptyCondition) (also (cited (encode t)) r) (λ _. refl) λ _. also_some (cited (encode t)) r hr
inner_some false t i r hi hr = hi

mutual
  unfolding lex

  lex_tokens : (cs : List ℕ) → Tokens (lex cs)
  lex_tokens [] = tt
  lex_tokens (c ∷ cs) = outer_tokens (part c) (inside [] cs) (lex cs) (inside_some [] cs) (lex_tokens cs)

  inside_some : (t cs : List ℕ) → SomeTokens (inside t cs)
  inside_some t [] = refl
  inside_some t (c ∷ cs) = inner_some (eqb c cite_end) t (inside (t ++ (c ∷ [])) cs) (lex cs) (inside_some (t ++ (c ∷ [])) cs) (lex_tokens cs)

-- it begins with a character that is no white space
abbrev Solid : List ℕ → Type 0
Solid [] = ⊥
Solid (c ∷ cs) = is_white c ≡ false

lex_solid : (cs : List ℕ) → Solid cs → SomeTokens (lex cs)
unfolding lex
lex_solid (c ∷ cs) w = outer_some (part c) (inside [] cs) (lex cs) (inside_some [] cs) (lex_tokens cs) (part-not c w)
lex_solid [] w = elim w [ ]

-- what begins with a character that is no white space is no empty expression
expression-not : (cs : List ℕ) → Solid cs → NotEmpty (expression cs)
unfolding expression then
expression-not cs w = go (lex cs) (lex_solid cs w)
  where
    go : (r : Result (List Tok) Refusal) → SomeTokens r → NotEmpty (then r tree)
    go (Ok (t ∷ ts)) h = tree-not t ts
    go (Ok []) h = elim h [ ]
    go (Err k) h = h

abbrev AllSolid : List (List ℕ) → Type 0
AllSolid [] = Unit
AllSolid (w ∷ ws) = Solid w × AllSolid ws

abbrev Begun : List ℕ → Type 0
Begun [] = Unit
Begun (c ∷ cs) = is_white c ≡ false

ended_solid : (t : List ℕ) (ws : List (List ℕ)) → Begun t → AllSolid ws → AllSolid (ended t ++ ws)
unfolding ended
ended_solid [] ws b h = h
ended_solid (c ∷ t) ws b h = (b, h)

begun_more : (t : List ℕ) (c : ℕ) → Begun t → is_white c ≡ false → Begun (t ++ (c ∷ []))
begun_more [] c b w = w
begun_more (d ∷ t) c b w = b

words_solid : (t cs : List ℕ) → Begun t → AllSolid (words_from t cs)
unfolding words_from ended
words_solid [] [] b = tt
words_solid (c ∷ t) [] b = (b, tt)
words_solid t (c ∷ cs) b =
    cond_both AllSolid (is_white c) (ended t ++ words_from [] cs) (words_from (t ++ (c ∷ [])) cs)
    (λ _. ended_solid t (words_from [] cs) b (words_solid [] cs tt))
    λ w. words_solid (t ++ (c ∷ [])) cs (begun_more t c b w)

joined_solid : (w : List ℕ) (ws : List (List ℕ)) → Solid w → Solid (joined (w ∷ ws))
unfolding joined
joined_solid (c ∷ w) ws h = h
joined_solid [] ws h = elim h [ ]

stated_not : (k : StatusKind) (r : Result Expr Refusal) → NotEmpty r → NotEmpty (map_ok (stated k) r)
unfolding map_ok
stated_not k (Ok e) h = tt
stated_not k (Err n) h = h

after-not : (k : StatusKind) (ws : List (List ℕ)) → AllSolid ws → NotEmpty (after_word k ws)
unfolding after_word
after-not k [] h = tt
after-not k (w ∷ ws) h = stated_not k (expression (joined (w ∷ ws))) (expression-not (joined (w ∷ ws)) (joined_solid w ws h.0))

kind_not : (ks : List StatusKind) (w : List ℕ) → NotEmpty (kind_among ks w)
unfolding kind_among
kind_not [] w = refl
kind_not (k ∷ ks) w = cond_both NotEmpty (same (word_of k) w) (Ok k) (kind_among ks w) (λ _. tt) λ _. kind_not ks w

words-not : (ws : List (List ℕ)) → AllSolid ws → NotEmpty (of_words ws)
unfolding of_words then kind_of_word
words-not [] h = refl
words-not (w ∷ ws) h = go (kind_among kinds (encode w)) (kind_not kinds (encode w))
  where
    go : (r : Result StatusKind Refusal) → NotEmpty r → NotEmpty (then r (λ k. after_word k ws))
    go (Ok k) n = after-not k ws h.1
    go (Err m) n = n

status_not : (s : List ℕ) → NotEmpty (status_reading s)
unfolding status_reading admitted words
status_not s =
    unless_not (leb (length s) text_limit) TooLong _ refl
    (unless_not (is_utf8 s) NotUtf8 _ refl (words-not (words_from [] (decode s)) (words_solid [] (decode s) tt)))

-- a status is never turned back with 6
pub status_never_empty : (s : List ℕ) → status_reading s ≡ Err Empty → ⊥
status_never_empty s h = false≢true (sym (subst NotEmpty h (status_not s)))

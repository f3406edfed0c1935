-- The tests before parsing, on counts and on tokens. Assumes nothing.
use Rattle.std.specs.Prelude.{Result, Ok, Err}
use Prim.Native.Nat.{ℕ, suc, pred, ◌≤◌, ◌<◌}
use mathlib.Core.Path.{◌≡◌, refl, sym, ap, ◌∙◌}
use mathlib.Core.Bool.{Bool, true, false, ◌&&◌}
use mathlib.Core.List.{List, [], ◌∷◌, ◌++◌}
use native.Mathlib.Omega.{arith}
use lib.Dec.{leb, ltb}
use lib.ListN.{length}
use borrow.Author.Tests.{le-leb, lt-leb, lt-ltb, le-ltb, ltb-true, ltb-false}
use Rattle.refusal.specs.Result.{unless, map_ok, then}
use Rattle.refusal.specs.declared.Refusal.{Refusal}
use Rattle.refusal.specs.declared.Refusal.TheVariants.{Empty, TooManyCitations, TooDeep}
use Rattle.grammar.specs.Expr as expr
use Rattle.grammar.specs.Expr.{Op, concat}
use Rattle.grammar.specs.Lex.{Tok, cited, op, opening, closing, lex, texts}
use Rattle.grammar.specs.Parse.{parse}
use Rattle.grammar.specs.Reading.{open_limit, some_token, few, shallow, tree, expression}
use Rattle.lexer.specs.Tokens.{sign_token, kind_of, deeper, depth, counted, limited, tokenized, counts_limited}
use Rattle.lexer.specs.declared.Count.{Count}
use Rattle.lexer.specs.declared.TokenKind.{TokenKind}
use Rattle.lexer.specs.declared.TokenKind.TheVariants.{Opening, Closing}

pub deeper-over : (d : ℕ) (k : TokenKind) → open_limit < d → d ≡ deeper d k
deeper-over d Opening h = rw (lt-ltb open_limit d h)
deeper-over d Closing h = rw (lt-ltb open_limit d h)
deeper-over d k h = refl

pub depth_snoc : (d : ℕ) (a : List Tok) (t : Tok) → depth d (a ++ (t ∷ [])) ≡ deeper (depth d a) (kind_of t)
unfolding depth
depth_snoc d [] t = refl
depth_snoc d (u ∷ a) t = depth_snoc (deeper d (kind_of u)) a t

depth-over : (d : ℕ) (ts : List Tok) → open_limit < d → depth d ts ≡ d
unfolding depth
depth-over d [] h = refl
depth-over d (t ∷ ts) h = ap (λ (x : ℕ). depth x ts) (sym (deeper-over d (kind_of t) h)) ∙ depth-over d ts h

depth_by : (d e : ℕ) (t : Tok) (ts : List Tok) → deeper d (kind_of t) ≡ e → depth d (t ∷ ts) ≡ depth e ts
unfolding depth
depth_by d e t ts h = ap (λ (x : ℕ). depth x ts) h

plain_op : (d : ℕ) (o : Op) → deeper d (kind_of (op o)) ≡ d
unfolding kind_of sign_token
plain_op d expr.And = refl
plain_op d expr.Or = refl
plain_op d expr.Xor = refl

plain_cite : (d : ℕ) (t : List ℕ) → deeper d (kind_of (cited t)) ≡ d
unfolding kind_of
plain_cite d t = refl

opens : (d : ℕ) → d ≤ open_limit → deeper d (kind_of opening) ≡ suc d
unfolding kind_of
opens d h = rw (le-ltb open_limit d h)

shuts : (d : ℕ) → d ≤ open_limit → deeper d (kind_of closing) ≡ pred d
unfolding kind_of
shuts d h = rw (le-ltb open_limit d h)

depth_none : (d : ℕ) → depth d [] ≡ d
unfolding depth
depth_none d = refl

-- the depth tells whether too many parentheses were open
pub shallow-depth : (d : ℕ) (ts : List Tok) → d ≤ open_limit → leb (depth d ts) open_limit ≡ shallow open_limit d ts
unfolding shallow
shallow-depth d [] h = ap (λ (x : ℕ). leb x open_limit) (depth_none d) ∙ le-leb d open_limit h
shallow-depth d (cited t ∷ ts) h = rw (depth_by d d (cited t) ts (plain_cite d t)) (shallow-depth d ts h)
shallow-depth d (op o ∷ ts) h = rw (depth_by d d (op o) ts (plain_op d o)) (shallow-depth d ts h)
shallow-depth d (closing ∷ ts) h = rw (depth_by d (pred d) closing ts (shuts d h)) (shallow-depth (pred d) ts (omega arith))
shallow-depth d (opening ∷ ts) h = rw (depth_by d (suc d) opening ts (opens d h)) (go (ltb d open_limit) refl (λ l. shallow-depth (suc d) ts l))
  where
    go : (b : Bool) → ltb d open_limit ≡ b → (suc d ≤ open_limit → leb (depth (suc d) ts) open_limit ≡ shallow open_limit (suc d) ts)
        → leb (depth (suc d) ts) open_limit ≡ (ltb d open_limit && shallow open_limit (suc d) ts)
    go true e ih = rw e (ih (omega (arith, ltb-true d open_limit e)))
    go false e ih =
        let l : open_limit < suc d = omega (arith, ltb-false d open_limit e) in
        rw (e, depth-over (suc d) ts l) (lt-leb (suc d) open_limit l)

some_token_lem : (ts : List Tok) → ltb 0 (length ts) ≡ some_token ts
unfolding some_token
some_token_lem [] = refl
some_token_lem (t ∷ ts) = lt-ltb 0 (suc (length ts)) (omega arith)

map-unless : (b : Bool) (why : Refusal) (r : Result (List Tok) Refusal) → map_ok counted (unless b why r) ≡ unless b why (map_ok counted r)
unfolding map_ok
map-unless true why r = refl
map-unless false why r = refl

-- the tests on the counts of tokens are the tests on the tokens
pub counts_limited_lem : (p : Count) (ts : List Tok) → p.tokens ≡ length ts → p.cites ≡ length (texts ts) → p.bytes ≡ length (concat (texts ts)) → p.depth ≡ depth 0 ts
    → counts_limited p ≡ map_ok counted (limited ts)
unfolding counts_limited limited few map_ok
counts_limited_lem p ts a b c d =
    rw (a, b, c, d, some_token_lem ts, shallow-depth 0 ts (omega arith))
    (sym (map-unless (some_token ts) Empty _
    ∙ ap (unless (some_token ts) Empty) (map-unless (few (texts ts)) TooManyCitations _
    ∙ ap (unless (few (texts ts)) TooManyCitations) (map-unless (shallow open_limit 0 ts) TooDeep (Ok ts)))))

then-unless : (b : Bool) (why : Refusal) (r : Result (List Tok) Refusal) → then (unless b why r) parse ≡ unless b why (then r parse)
unfolding then
then-unless true why r = refl
then-unless false why r = refl

limited_parsed : (ts : List Tok) → then (limited ts) parse ≡ tree ts
unfolding limited tree then
limited_parsed ts =
    then-unless (some_token ts) Empty _
    ∙ ap (unless (some_token ts) Empty) (then-unless (few (texts ts)) TooManyCitations _
    ∙ ap (unless (few (texts ts)) TooManyCitations) (then-unless (shallow open_limit 0 ts) TooDeep (Ok ts)))

-- tokens that are ready, and then parsed: the reading of the characters
pub tokenized_parsed : (cs : List ℕ) → then (tokenized cs) parse ≡ expression cs
unfolding tokenized expression then
tokenized_parsed cs = go (lex cs)
  where
    go : (r : Result (List Tok) Refusal) → then (then r limited) parse ≡ then r tree
    go (Ok ts) = limited_parsed ts
    go (Err k) = refl

-- Reading a text as an expression, with the refusals in their order. Assumes nothing.
use Rattle.std.specs.Prelude.{◌≡◌, refl, List, true, ℕ, ◌≤◌, leb, length, Result, Ok, Err}
use Rattle.std.proofs.Common.{leb-true, le-leb}
use Rattle.laws.specs.Tests.{and_both}
use Rattle.refusal.specs.declared.Refusal.{Refusal}
use Rattle.refusal.specs.Result.{then, err≢ok, unless_ok}
use Rattle.refusal.specs.declared.Refusal.TheVariants.{Empty, TooManyCitations, TooDeep}
use Rattle.utf8.specs.Utf8.{decode, Scalars}
use Rattle.utf8.specs.Limits.{text_limit}
use Rattle.utf8.proofs.Sound.{utf8_sound}
use Rattle.utf8.proofs.Limits.{admitted_ok}
use Rattle.grammar.specs.Expr.{Expr, concat, citations, count}
use Rattle.grammar.specs.Lex.{Tok, lex, texts}
use Rattle.grammar.proofs.Rules.{parse_wide}
use Rattle.grammar.proofs.Cites.{parse-cites, lexed_citable}
use Rattle.grammar.specs.Reading.{citation_limit, cited_limit, open_limit, some_token, few, shallow, tree, expression, reading, Fits, Gave}

-- what 12's test says
pub few_says : (ts : List (List ℕ)) → few ts ≡ true → (length ts ≤ citation_limit) × (length (concat ts) ≤ cited_limit)
unfolding few
few_says ts h =
    let a = and_both (leb (length ts) citation_limit) (leb (length (concat ts)) cited_limit) h in
    (leb-true (length ts) citation_limit a.0, leb-true (length (concat ts)) cited_limit a.1)

-- 12's test holds of what fits
pub fits_few : (e : Expr) → Fits e → few (citations e) ≡ true
unfolding few
fits_few e f = rw (le-leb (count e) citation_limit f.few, le-leb (length (concat (citations e))) cited_limit f.small)

-- what characters that were read gave
pub gave : (cs : List ℕ) (e : Expr) → expression cs ≡ Ok e → Gave cs e
unfolding expression then tree
gave cs e h = go (lex cs) refl h
  where
    go : (r : Result (List Tok) Refusal) → lex cs ≡ r → then r tree ≡ Ok e → Gave cs e
    go (Ok ts) q k =
        let p = unless_ok (some_token ts) Empty _ e k in
        let p₂ = unless_ok (few (texts ts)) TooManyCitations _ e p.1 in
        let p₃ = unless_ok (shallow open_limit 0 ts) TooDeep _ e p₂.1 in
        record { toks = ts; lexed = q; limited = p₂.0; parsed = p₃.1 }
    go (Err n) q k = absurd (err≢ok k)

-- what was read fits
pub expression_fits : (cs : List ℕ) → Scalars cs → (e : Expr) → expression cs ≡ Ok e → Fits e
expression_fits cs s e h =
    let g = gave cs e h in
    let c = parse-cites g.toks e g.parsed in
    let f = few_says (citations e) (rw c g.limited) in
    record { wide = parse_wide g.toks e g.parsed; few = f.0; small = f.1; citable = rw c (lexed_citable cs s g.toks g.lexed) }

-- the characters of an admitted text
pub reading_says : (s : List ℕ) (e : Expr) → reading s ≡ Ok e → Scalars (decode s) × (expression (decode s) ≡ Ok e)
unfolding reading
reading_says s e h =
    let a = admitted_ok text_limit s (expression (decode s)) e h in
    ((utf8_sound s a.0.1).0, a.1)

-- what a text reads as fits
pub reading_fits : (s : List ℕ) (e : Expr) → reading s ≡ Ok e → Fits e
reading_fits s e h = let r = reading_says s e h in expression_fits (decode s) r.0 e r.1

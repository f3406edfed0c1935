-- The token that a text begins with. Assumes nothing.
use Prim.Native.Nat.{ℕ, ◌+◌, ◌<◌}
use mathlib.Core.Path.{◌≡◌, refl, sym, ap, ◌∙◌}
use mathlib.Core.Bool.{true}
use mathlib.Core.List.{List, [], ◌∷◌}
use native.Mathlib.Omega.{arith}
use lib.ListN.{length, drop, length-drop}
use Rattle.refusal.specs.declared.Refusal.{Refusal}
use Rattle.refusal.specs.declared.Refusal.TheVariants.{Stray}
use Rattle.utf8.specs.Utf8.{is_utf8, decode, step_at}
use Rattle.utf8.specs.declared.Step.{Step}
use Rattle.utf8.specs.declared.Step.TheVariants.{Char, Bad, End}
use Rattle.utf8.proofs.Laws.{char_at, decode-at, step_bad, step_end}
use Rattle.grammar.specs.Lex.{Tok, op, opening, closing, Part, bracket, sign, left, right, space, stray, part, texts}
use Rattle.lexer.specs.Tokens.{kind_of, meaning}
use Rattle.lexer.specs.declared.TokenKind.{TokenKind}
use Rattle.lexer.specs.declared.Meaning.{Meaning}
use Rattle.lexer.specs.declared.Meaning.TheVariants as meanings
use Rattle.lexer.specs.declared.Meaning.TheVariants.{Bracket, Mark, White}
use Rattle.lexer.specs.Scan.{Scan, halt, meets, outer_scan, scan, scan_in}
use Rattle.lexer.specs.State.{Ahead, Closing, Marked, Cites}
use Rattle.lexer.proofs.Split.{step_width}

-- in UTF-8 a character stands at each place before the end
pub no_step : (s : List ℕ) (i : ℕ) → i < length s → is_utf8 (drop i s) ≡ true → ((c w : ℕ) → step_at s i ≡ Char c w → ⊥) → ⊥
no_step s i h u n = go (step_at s i) refl
  where
    go : (x : Step) → step_at s i ≡ x → ⊥
    go (Char c w) e = n c w e
    go Bad e =
        let g = sym (step_bad (drop i s) e) ∙ u in
        let z : ◌≡◌ {A = ℕ} 0 1 = cc in omega arith
    go End e = omega (arith, ap length (step_end (drop i s) e), length-drop i s)

-- the part behind a meaning
by_bracket : (p : Part) → meaning p ≡ Bracket → p ≡ bracket
unfolding meaning
by_bracket bracket e = refl
by_bracket p e = cc

by_space : (p : Part) → meaning p ≡ White → p ≡ space
unfolding meaning
by_space space e = refl
by_space p e = cc

by_stray : (p : Part) → meaning p ≡ meanings.Stray → p ≡ stray
unfolding meaning
by_stray stray e = refl
by_stray p e = cc

-- a part that is a token by itself
record Plain (p : Part) (k : TokenKind) : Type 0 where
  pub tok : Tok
  pub kind : kind_of tok ≡ k
  pub plain : texts (tok ∷ []) ≡ []
  pub goes : (at : ℕ) (x y : Scan) → outer_scan p at x y ≡ meets at tok y

plain_part : (p : Part) (k : TokenKind) → meaning p ≡ Mark k → Plain p k
unfolding meaning kind_of texts outer_scan
plain_part (sign o) k e = record { tok = op o; kind = cc; plain = refl; goes = λ at x y. refl }
plain_part left k e = record { tok = opening; kind = cc; plain = refl; goes = λ at x y. refl }
plain_part right k e = record { tok = closing; kind = cc; plain = refl; goes = λ at x y. refl }
plain_part p k e = let z : ◌≡◌ {A = ℕ} 0 1 = cc in absurd (omega arith)

scan_bracket : (at : ℕ) (x y : Scan) → outer_scan bracket at x y ≡ x
unfolding outer_scan
scan_bracket at x y = refl

scan_space : (at : ℕ) (x y : Scan) → outer_scan space at x y ≡ y
unfolding outer_scan
scan_space at x y = refl

scan_stray : (at : ℕ) (x y : Scan) → outer_scan stray at x y ≡ halt Stray
unfolding outer_scan
scan_stray at x y = refl

scan_step : (s : List ℕ) (at c w : ℕ) → step_at s at ≡ Char c w
    → scan at (decode (drop at s)) ≡ outer_scan (part c) at (scan_in (at + w) [] (decode (drop (at + w) s))) (scan (at + w) (decode (drop (at + w) s)))
unfolding scan
scan_step s at c w e = rw (decode-at s at c w e, step_width s at c w e)

-- a character at `at` of w bytes, of which `part_of` then says m
module _ (s : List ℕ) (at c w : ℕ) (h : at < length s) (u : is_utf8 (drop at s) ≡ true) (e : step_at s at ≡ Char c w) where
  pub step_ahead : Ahead s at (at + w)
  step_ahead =
      let d = char_at s at c w e in
      record { later = omega (arith, d.2); room = d.3; well = sym d.0 ∙ u }

  module _ (m : Meaning) (r : m ≡ meaning (part c)) where
    goes : (p : Part) → part c ≡ p → scan at (decode (drop at s)) ≡ outer_scan p at (scan_in (at + w) [] (decode (drop (at + w) s))) (scan (at + w) (decode (drop (at + w) s)))
    goes p l =
        scan_step s at c w e ∙ ap (λ (x : Part). outer_scan x at (scan_in (at + w) [] (decode (drop (at + w) s))) (scan (at + w) (decode (drop (at + w) s)))) l

    pub token_space : m ≡ White → Ahead s at (at + w) × (scan at (decode (drop at s)) ≡ scan (at + w) (decode (drop (at + w) s)))
    token_space l = (step_ahead, goes space (by_space (part c) (sym r ∙ l)) ∙ scan_space _ _ _)

    pub token_stray : m ≡ meanings.Stray → scan at (decode (drop at s)) ≡ halt Stray
    token_stray l = goes stray (by_stray (part c) (sym r ∙ l)) ∙ scan_stray _ _ _

    pub token_mark : (k : TokenKind) → m ≡ Mark k → Marked s at k (at + w)
    token_mark k l =
        let p = plain_part (part c) k (sym r ∙ l) in
        record { tok = p.tok; kind = p.kind; plain = p.plain; ahead = step_ahead; goes = scan_step s at c w e ∙ p.goes _ _ _ }

    pub token_never : m ≡ Bracket → (why : Refusal) → scan_in (at + w) [] (decode (drop (at + w) s)) ≡ halt why → scan at (decode (drop at s)) ≡ halt why
    token_never l why g = goes bracket (by_bracket (part c) (sym r ∙ l)) ∙ scan_bracket _ _ _ ∙ g

    pub token_cite : m ≡ Bracket → (end : ℕ) → Closing s (at + w) end → Cites s at (at + w) end
    token_cite l end g =
        record { later = step_ahead.later; order = g.order; ahead = g.ahead; goes = goes bracket (by_bracket (part c) (sym r ∙ l)) ∙ scan_bracket _ _ _ ∙ g.goes }

-- The places of a scan are those of the texts that its tokens cite. Assumes nothing.
use Prim.Native.Nat.{ℕ, suc, ◌+◌}
use mathlib.Core.Path.{◌≡◌, refl, sym, ap, ap₂, ◌∙◌}
use mathlib.Core.Bool.{Bool, true, false, cond}
use mathlib.Core.List.{List, [], ◌∷◌, ◌++◌, append_assoc}
use native.Mathlib.Omega.{arith}
use lib.Dec.{eqb}
use lib.ListN.{length, take, drop, length-append}
use lib.Seq.{drop_at, take-append_seam}
use borrow.Author.Tests.{eqb-true}
use Rattle.refusal.specs.declared.Refusal.TheVariants.{EmptyCondition}
use Rattle.utf8.specs.Utf8.{encode, encode_char}
use Rattle.grammar.specs.Lex.{cited, op, opening, closing, cite_end, blank, Part, bracket, sign, left, right, space, stray, part, texts}
use Rattle.lexer.specs.Tokens.{placed, cut, cuts}
use Rattle.lexer.specs.Scan.{Scan, last, halt, meets, outer_scan, inner_scan, scan, scan_in, scanned, places_in}
use Rattle.lexer.proofs.Split.{encode_append}

-- as many places as texts
pub places_count : (r : Scan) → length (places_in r) ≡ length (texts (scanned r))
unfolding places_in scanned texts
places_count last = refl
places_count (halt why) = refl
places_count (meets at (cited t) r) = ap suc (places_count r)
places_count (meets at (op o) r) = places_count r
places_count (meets at opening r) = places_count r
places_count (meets at closing r) = places_count r

-- the texts stand at the places
abbrev Cut : List ℕ → Scan → Type 0
Cut s r = cuts s (places_in r) ≡ texts (scanned r)

outer-cut : (p : Part) (s : List ℕ) (at : ℕ) (x y : Scan) → Cut s x → Cut s y → Cut s (outer_scan p at x y)
unfolding outer_scan scanned places_in texts cuts
outer-cut bracket s at x y h k = h
outer-cut (sign o) s at x y h k = k
outer-cut left s at x y h k = k
outer-cut right s at x y h k = k
outer-cut space s at x y h k = k
outer-cut stray s at x y h k = refl

inner_cut : (b : Bool) (s : List ℕ) (from : ℕ) (t : List ℕ) (x y : Scan) → cut s (placed from (length (encode t))) ≡ encode t → Cut s x → (b ≡ true → Cut s y) → Cut s (inner_scan b from t x y)
unfolding inner_scan scanned places_in texts cuts
inner_cut true s from t x y e h k = go (blank t)
  where
    go : (w : Bool) → Cut s (cond w (halt EmptyCondition) (meets from (cited (encode t)) y))
    go true = refl
    go false = ap₂ ◌∷◌ e (k refl)
inner_cut false s from t x y e h k = h

text_cut : (s p t cs : List ℕ) (from : ℕ) → from ≡ length p → s ≡ p ++ (encode t ++ encode cs) → cut s (placed from (length (encode t))) ≡ encode t
text_cut s p t cs from e f =
    ap (λ (x : List ℕ). take (length (encode t)) (drop from x)) f
    ∙ ap (take (length (encode t))) (drop_at p (encode t ++ encode cs) from (sym e))
    ∙ take-append_seam (encode t) (encode cs)

end_size : length (encode_char cite_end) ≡ 1
unfolding encode_char
end_size = refl

-- one character more in front
front_more : (s p cs : List ℕ) (c : ℕ) → s ≡ p ++ encode (c ∷ cs) → s ≡ (p ++ encode_char c) ++ encode cs
front_more s p cs c f = f ∙ sym (append_assoc p (encode_char c) (encode cs))

text_more : (s p t cs : List ℕ) (c : ℕ) → s ≡ p ++ (encode t ++ encode (c ∷ cs)) → s ≡ p ++ (encode (t ++ (c ∷ [])) ++ encode cs)
text_more s p t cs c f =
    f ∙ ap (λ (x : List ℕ). p ++ x) (sym (ap (λ (x : List ℕ). x ++ encode cs) (encode_append t (c ∷ [])) ∙ append_assoc (encode t) (encode (c ∷ [])) (encode cs) ∙ ap (λ (x : List ℕ). encode t ++ x) (append_assoc (encode_char c) [] (encode cs))))

mutual
  unfolding scan scanned places_in texts cuts

  scan-cut : (s p cs : List ℕ) (at : ℕ) → at ≡ length p → s ≡ p ++ encode cs → Cut s (scan at cs)
  scan-cut s p [] at e f = refl
  scan-cut s p (c ∷ cs) at e f =
      let n : at + length (encode_char c) ≡ length (p ++ encode_char c) = omega (arith, e, length-append p (encode_char c)) in
      let g = front_more s p cs c f in
      outer-cut (part c) s at _ _ (inside_cut s (p ++ encode_char c) [] cs (at + length (encode_char c)) n g) (scan-cut s (p ++ encode_char c) cs (at + length (encode_char c)) n g)

  inside_cut : (s p t cs : List ℕ) (from : ℕ) → from ≡ length p → s ≡ p ++ (encode t ++ encode cs) → Cut s (scan_in from t cs)
  inside_cut s p t [] from e f = refl
  inside_cut s p t (c ∷ cs) from e f =
      inner_cut (eqb c cite_end) s from t _ _ (text_cut s p t (c ∷ cs) from e f) (inside_cut s p (t ++ (c ∷ [])) cs from e (text_more s p t cs c f))
      (λ b.
      let w : length (encode_char c) ≡ 1 = ap (λ (x : ℕ). length (encode_char x)) (eqb-true c cite_end b) ∙ end_size in
      scan-cut s ((p ++ encode t) ++ encode_char c) cs (from + length (encode t) + 1)
      (omega (arith, e, w, length-append (p ++ encode t) (encode_char c), length-append p (encode t)))
      (front_more s (p ++ encode t) cs c (f ∙ sym (append_assoc p (encode t) (encode (c ∷ cs))))))

-- the texts of a whole text stand at their places
pub places_cut : (s cs : List ℕ) → encode cs ≡ s → cuts s (places_in (scan 0 cs)) ≡ texts (scanned (scan 0 cs))
places_cut s cs e = scan-cut s [] cs 0 refl (sym e)

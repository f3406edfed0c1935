-- Writing rows and texts as bytes, and reading them back. Assumes nothing.
use Rattle.std.specs.Prelude.{◌≡◌, true, ◌&&◌, eqb, leb}
use Rattle.std.proofs.Math.Path.{refl, sym, ap}
use Rattle.std.proofs.Common.{◌∙◌, subst, drop-drop, get_or-drop, drop-cons}
use mathlib.Core.List.{List, [], ◌∷◌, ◌++◌, append_assoc}
use Prim.Native.Nat.{ℕ, zero, suc, ◌+◌, ◌*◌, ◌/◌, ◌%◌, ◌≤◌, ◌<◌}
use Rattle.std.proofs.Math.Nat.{add-zero}
use native.Mathlib.Omega.{arith}
use Rattle.std.proofs.Math.ListN.{length, get_or, take, drop, length-append, drop_of_length-le}
use Rattle.std.proofs.Math.Seq.{drop-append_seam}
use store.Seg.{eqb_same}
use borrow.Author.Tests.{eqb-true, leb-true, le-leb, eq-eqb}
use Rattle.laws.specs.Tests.{and_both}
use Rattle.grammar.specs.Expr.{concat}
use Rattle.grammar.specs.Citable.{citable, AllCitable}
use Rattle.grammar.specs.Rows.{Row, row}
use Rattle.grammar.specs.Bytes.{row_size, cite_size, two_bytes, row_bytes, cite_bytes, field, rows_from, cited_from, texts_at, cites_ok}

-- every element is a byte
abbrev pub IsBytes : List ℕ → Type 0
IsBytes b = (i : ℕ) → get_or b i 0 < 256

low : (x y : ℕ) → x < 256 → (x + 256 * y) % 256 ≡ x
low x y h = omega arith

high : (x y : ℕ) → x < 256 → (x + 256 * y) / 256 ≡ y
high x y h = omega arith

module _ (b : List ℕ) where
  pub put : (at : ℕ) → IsBytes b → at + 1 < length b → drop at b ≡ two_bytes (field b at) ++ drop (at + 2) b
  unfolding two_bytes
  put at i h =
      let one : at + 1 ≡ suc at = omega arith in
      let two : at + 2 ≡ suc (suc at) = omega arith in
      rw (low (get_or b at 0) (get_or b (at + 1) 0) (i at), high (get_or b at 0) (get_or b (at + 1) 0) (i at), two, one)
      (drop-cons b at 0 (omega arith) ∙ ap (λ x. get_or b at 0 ∷ x) (drop-cons b (suc at) 0 (omega arith)))

  whole : (v : ℕ) → v % 256 + 256 * (v / 256) ≡ v
  whole v = omega arith

  pub got : (x : List ℕ) (at v : ℕ) → drop at b ≡ two_bytes v ++ x → (field b at ≡ v) × (drop (at + 2) b ≡ x)
  unfolding two_bytes
  got x at v h =
      let first : get_or b at 0 ≡ v % 256 = sym (rw add-zero at (get_or-drop at b 0 0)) ∙ rw h in
      let second : get_or b (at + 1) 0 ≡ v / 256 = sym (get_or-drop at b 1 0) ∙ rw h in
      (rw (first, second) (whole v), sym (drop-drop 2 at b) ∙ rw h)

  pub at_same : {at at' : ℕ} {x : List ℕ} → at ≡ at' → drop at b ≡ x → drop at' b ≡ x
  at_same {at} {at'} {x} e h = subst (λ (p : ℕ). drop p b ≡ x) e h

  pub rows_got : (rs : List Row) (x : List ℕ) (at : ℕ) → drop at b ≡ row_bytes rs ++ x → (rows_from b (length rs) at ≡ rs) × (drop (at + row_size * length rs) b ≡ x)
  unfolding row_bytes rows_from
  rows_got [] x at h = let e : at ≡ at + row_size * 0 = omega arith in (refl, at_same e h)
  rows_got (row k m z ∷ rs) x at h =
      let four : at + 2 + 2 ≡ at + 4 = omega arith in
      let six : at + 4 + 2 ≡ at + 6 = omega arith in
      let g : drop at b ≡ two_bytes k ++ (two_bytes m ++ (two_bytes z ++ (row_bytes rs ++ x))) = h ∙ simp append_assoc in
      let k1 = got (two_bytes m ++ (two_bytes z ++ (row_bytes rs ++ x))) at k g in
      let m1 = got (two_bytes z ++ (row_bytes rs ++ x)) (at + 2) m k1.1 in
      let z1 = got (row_bytes rs ++ x) (at + 4) z (at_same four m1.1) in
      let r = rows_got rs x (at + 6) (at_same six z1.1) in
      let last : at + 6 + row_size * length rs ≡ at + row_size * suc (length rs) = omega arith in
      (rw (k1.0, m1.0, z1.0, r.0), at_same last r.1)

  pub rows_put : (n at : ℕ) → IsBytes b → at + row_size * n ≤ length b → drop at b ≡ row_bytes (rows_from b n at) ++ drop (at + row_size * n) b
  unfolding row_bytes rows_from
  rows_put zero at i h = let e : at ≡ at + row_size * 0 = omega arith in ap (λ (p : ℕ). drop p b) e
  rows_put (suc n) at i h =
      let four : at + 2 + 2 ≡ at + 4 = omega arith in
      let six : at + 4 + 2 ≡ at + 6 = omega arith in
      let last : at + 6 + row_size * n ≡ at + row_size * suc n = omega arith in
      let r : drop (at + 6) b ≡ row_bytes (rows_from b n (at + 6)) ++ drop (at + row_size * suc n) b = rw last at (rows_put n (at + 6) i (omega arith)) in
      let z1 : drop (at + 4) b ≡ two_bytes (field b (at + 4)) ++ (row_bytes (rows_from b n (at + 6)) ++ drop (at + row_size * suc n) b) =
      put (at + 4) i (omega arith) ∙ ap (λ x. two_bytes (field b (at + 4)) ++ x) (ap (λ (p : ℕ). drop p b) six ∙ r) in
      let m1 : drop (at + 2) b ≡ two_bytes (field b (at + 2)) ++ (two_bytes (field b (at + 4)) ++ (row_bytes (rows_from b n (at + 6)) ++ drop (at + row_size * suc n) b)) =
      put (at + 2) i (omega arith) ∙ ap (λ x. two_bytes (field b (at + 2)) ++ x) (ap (λ (p : ℕ). drop p b) four ∙ z1) in
      put at i (omega arith) ∙ ap (λ x. two_bytes (field b at) ++ x) m1 ∙ simp append_assoc

  pub rows_length : (n at : ℕ) → length (rows_from b n at) ≡ n
  unfolding rows_from
  rows_length zero at = refl
  rows_length (suc n) at = ap suc (rows_length n (at + 6))

  pub texts-length : (c at p : ℕ) → length (cited_from b c at p) ≡ c
  unfolding cited_from
  texts-length zero at p = refl
  texts-length (suc c) at p = ap suc (texts-length c (at + 4) (p + field b (at + 2)))

take-first : (t x : List ℕ) → take (length t) (t ++ x) ≡ t
take-first [] x = refl
take-first (a ∷ t) x = ap (λ y. a ∷ y) (take-first t x)

take_whole : (n : ℕ) (l : List ℕ) → take n l ++ drop n l ≡ l
take_whole zero l = refl
take_whole (suc n) [] = refl
take_whole (suc n) (x ∷ l) = ap (λ y. x ∷ y) (take_whole n l)

length-take : (n : ℕ) (l : List ℕ) → n ≤ length l → length (take n l) ≡ n
length-take zero l h = refl
length-take (suc n) [] h = absurd (omega arith)
length-take (suc n) (x ∷ l) h = ap suc (length-take n l (omega arith))

-- what is left after n elements
pub length-drop : (n : ℕ) (l : List ℕ) → n ≤ length l → n + length (drop n l) ≡ length l
length-drop zero l h = omega arith
length-drop (suc n) [] h = absurd (omega arith)
length-drop (suc n) (x ∷ l) h = omega (arith, length-drop n l (omega arith))

module _ (b : List ℕ) where
  pub cites-got : (ts : List (List ℕ)) (x : List ℕ) (at p o : ℕ) → drop at b ≡ cite_bytes o ts ++ x → drop p b ≡ concat ts → p ≤ length b → p ≡ texts_at b + o → AllCitable ts
      → (cited_from b (length ts) at p ≡ ts) × (cites_ok b (length ts) at p ≡ true)
  unfolding cite_bytes concat cited_from cites_ok
  cites-got [] x at p o h j l e k = let len = length-drop p b l in let none = ap length j in (refl, eq-eqb p (length b) (omega arith))
  cites-got (t ∷ ts) x at p o h j l e k =
      let four : at + 2 + 2 ≡ at + 4 = omega arith in
      let g : drop at b ≡ two_bytes o ++ (two_bytes (length t) ++ (cite_bytes (o + length t) ts ++ x)) = h ∙ simp append_assoc in
      let o1 = got b (two_bytes (length t) ++ (cite_bytes (o + length t) ts ++ x)) at o g in
      let n1 = got b (cite_bytes (o + length t) ts ++ x) (at + 2) (length t) o1.1 in
      let seam : drop (p + length t) b ≡ concat ts = sym (drop-drop (length t) p b) ∙ rw j (drop-append_seam t (concat ts)) in
      let len = length-drop p b l in
      let split = ap length j ∙ length-append t (concat ts) in
      let inside : p + length t ≤ length b = omega arith in
      let r = cites-got ts x (at + 4) (p + length t) (o + length t) (at_same b four n1.1) seam inside (omega arith) k.1 in
      let text : take (length t) (drop p b) ≡ t = rw j (take-first t (concat ts)) in
      (rw (n1.0, text, r.0), rw (n1.0, text, o1.0, ← e, eqb_same p, le-leb (p + length t) (length b) inside, k.0) r.1)

  pub record Cited (c at p o : ℕ) : Type 0 where
    pub written : drop at b ≡ cite_bytes o (cited_from b c at p) ++ drop (at + cite_size * c) b
    pub text : drop p b ≡ concat (cited_from b c at p)
    pub valid : AllCitable (cited_from b c at p)

  pub cites_put : (c at p o : ℕ) → IsBytes b → at + cite_size * c ≤ length b → p ≡ texts_at b + o → cites_ok b c at p ≡ true → Cited c at p o
  unfolding cite_bytes concat cited_from cites_ok
  cites_put zero at p o i h e k =
      let end : p ≡ length b = eqb-true p (length b) k in
      let same : at ≡ at + cite_size * 0 = omega arith in
      record { written = ap (λ (q : ℕ). drop q b) same; text = drop_of_length-le b {i = p} (omega arith); valid = tt }
  cites_put (suc c) at p o i h e k =
      let n = field b (at + 2) in
      let t = take n (drop p b) in
      let ts = cited_from b c (at + 4) (p + n) in
      let k1 = and_both (eqb (texts_at b + field b at) p) (leb (p + n) (length b) && (citable t && cites_ok b c (at + 4) (p + n))) k in
      let k2 = and_both (leb (p + n) (length b)) (citable t && cites_ok b c (at + 4) (p + n)) k1.1 in
      let k3 = and_both (citable t) (cites_ok b c (at + 4) (p + n)) k2.1 in
      let inside : p + n ≤ length b = leb-true (p + n) (length b) k2.0 in
      let off : texts_at b + field b at ≡ p = eqb-true (texts_at b + field b at) p k1.0 in
      let same-o : field b at ≡ o = omega arith in
      let r = cites_put c (at + 4) (p + n) (o + n) i (omega arith) (omega arith) k3.1 in
      let len = length-drop p b (omega arith) in
      let size : length t ≡ n = length-take n (drop p b) (omega arith) in
      let four : at + 2 + 2 ≡ at + 4 = omega arith in
      let last : at + 4 + cite_size * c ≡ at + cite_size * suc c = omega arith in
      let rest : drop (at + 4) b ≡ cite_bytes (o + n) ts ++ drop (at + cite_size * suc c) b = rw last at r.written in
      let n1 : drop (at + 2) b ≡ two_bytes n ++ (cite_bytes (o + n) ts ++ drop (at + cite_size * suc c) b) =
      put b (at + 2) i (omega arith) ∙ ap (λ x. two_bytes n ++ x) (ap (λ (q : ℕ). drop q b) four ∙ rest) in
      record {
        written = put b at i (omega arith) ∙ ap (λ x. two_bytes (field b at) ++ x) n1 ∙ rw (size, same-o) (simp append_assoc);
        text = sym (take_whole n (drop p b)) ∙ ap (λ x. t ++ x) (drop-drop n p b ∙ r.text);
        valid = (k3.0, r.valid);
      }

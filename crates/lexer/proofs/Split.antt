-- Where characters of a text end among its bytes. Assumes nothing.
use Prim.Native.Nat.{ℕ, ◌+◌, ◌≤◌, ◌<◌}
use mathlib.Core.Path.{◌≡◌, refl, sym, ap, ◌∙◌, subst}
use mathlib.Core.Bool.{true}
use mathlib.Core.List.{List, [], ◌∷◌, ◌++◌, append_assoc}
use native.Mathlib.Omega.{arith}
use lib.Dec.{ltb}
use lib.ListN.{length, take, drop, length-append, length-drop, drop_of_length-le}
use lib.Seq.{drop-drop, drop-append_seam, take-append_seam}
use Rattle.laws.specs.Tests.{cond_both}
use Rattle.utf8.specs.Utf8.{is_utf8, decode, encode, encode_char, step_at, Scalars}
use Rattle.utf8.specs.declared.Step.TheVariants.{Char}
use Rattle.utf8.proofs.Laws.{char_at, decode_nil}
use Rattle.utf8.proofs.Sound.{step_sound, utf8_sound}
use Rattle.utf8.proofs.Encode.{encoded}

pub encode_append : (a b : List ℕ) → encode (a ++ b) ≡ encode a ++ encode b
encode_append [] b = refl
encode_append (c ∷ a) b = ap (λ (x : List ℕ). encode_char c ++ x) (encode_append a b) ∙ sym (append_assoc (encode_char c) (encode a) (encode b))

-- a character has bytes
pub char_size : (c : ℕ) → 1 ≤ length (encode_char c)
unfolding encode_char
char_size c =
    cond_both (λ (l : List ℕ). 1 ≤ length l) (ltb c 0x80) _ _ (λ _. omega arith)
    λ _. cond_both (λ (l : List ℕ). 1 ≤ length l) (ltb c 0x800) _ _ (λ _. omega arith)
    λ _. cond_both (λ (l : List ℕ). 1 ≤ length l) (ltb c 0x10000) _ _ (λ _. omega arith) λ _. omega arith

pub size_cons : (c : ℕ) (cs : List ℕ) → length (encode (c ∷ cs)) ≡ length (encode_char c) + length (encode cs)
size_cons c cs = length-append (encode_char c) (encode cs)

-- what has no bytes has no characters
pub encode_none : (cs : List ℕ) → length (encode cs) ≡ 0 → cs ≡ []
encode_none [] h = refl
encode_none (c ∷ cs) h = absurd (omega (arith, size_cons c cs, char_size c))

scalars_right : (a b : List ℕ) → Scalars (a ++ b) → Scalars b
scalars_right [] b h = h
scalars_right (c ∷ a) b h = scalars_right a b h.1

-- the width of a step is that of its character
pub step_width : (s : List ℕ) (at c w : ℕ) → step_at s at ≡ Char c w → length (encode_char c) ≡ w
step_width s at c w e =
    let f = (step_sound (drop at s) c w e).1 in
    let d = char_at s at c w e in
    omega (arith, ap length f, length-append (encode_char c) (drop w (drop at s)), length-drop w (drop at s), length-drop at s, d.3)

-- the characters a from `at` on, and b after them
pub record Passed (s : List ℕ) (at : ℕ) (a b : List ℕ) : Type 0 where
  pub room : at + length (encode a) ≤ length s
  pub bytes : take (length (encode a)) (drop at s) ≡ encode a
  pub left : drop (at + length (encode a)) s ≡ encode b
  pub well : is_utf8 (drop (at + length (encode a)) s) ≡ true
  pub goes : decode (drop (at + length (encode a)) s) ≡ b

pub passed : (s : List ℕ) (at : ℕ) (a b : List ℕ) → at ≤ length s → is_utf8 (drop at s) ≡ true → decode (drop at s) ≡ a ++ b → Passed s at a b
passed s at a b h u e =
    let v = utf8_sound (drop at s) u in
    let n = length (encode a) in
    let all : drop at s ≡ encode a ++ encode b = sym v.1 ∙ ap encode e ∙ encode_append a b in
    let l : drop (at + n) s ≡ encode b = sym (drop-drop n at s) ∙ ap (drop n) all ∙ drop-append_seam (encode a) (encode b) in
    let d = encoded b (scalars_right a b (subst Scalars e v.0)) in
    record {
      room = omega (arith, ap length all, length-append (encode a) (encode b), length-drop at s);
      bytes = ap (take n) all ∙ take-append_seam (encode a) (encode b);
      left = l;
      well = ap is_utf8 l ∙ d.0;
      goes = ap decode l ∙ d.1;
    }

-- bytes that are left are characters that are left
pub some_left : (s : List ℕ) (at : ℕ) → at < length s → is_utf8 (drop at s) ≡ true → decode (drop at s) ≡ [] → ⊥
some_left s at h u e = omega (arith, length-drop at s, ap length (sym (utf8_sound (drop at s) u).1 ∙ ap encode e))

-- at the end no characters are left
pub none_left : (s : List ℕ) (at : ℕ) → length s ≤ at → decode (drop at s) ≡ []
none_left s at h = ap decode (drop_of_length-le s h) ∙ decode_nil

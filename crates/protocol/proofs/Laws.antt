-- Laws of hex, as loops over one byte or pair a turn use them. Assumes nothing.
use Prim.Native.Nat.{ℕ, suc, ◌+◌, ◌*◌, ◌/◌, ◌%◌, ◌≤◌, ◌<◌}
use mathlib.Core.Path.{◌≡◌, refl, sym, ap, ap₂, ◌∙◌}
use mathlib.Core.List.{List, [], ◌∷◌, ◌++◌, append_assoc}
use native.Mathlib.Omega.{arith}
use native.Mathlib.Numerals.{add-one}
use lib.ListN.{length, get_or, take, drop, set, length-drop, take-append-drop}
use lib.Seq.{drop-cons, take-suc, take-suc-set, length-take-le}
use Rattle.std.proofs.Common.{Some}
use Rattle.text.specs.Bytes.{over}
use Rattle.protocol.specs.Hex.{digit_of, digit_value, hex_of, before, pairs}

module _ (f : List ℕ) (i : ℕ) (h : i + 1 < length f) where
  two : drop i f ≡ get_or f i 0 ∷ get_or f (i + 1) 0 ∷ drop (i + 2) f
  two =
      drop-cons f i 0 (omega arith) ∙ ap (λ (l : List ℕ). get_or f i 0 ∷ l) (ap (λ (k : ℕ). drop k f) (sym (add-one i)) ∙ drop-cons f (i + 1) 0 h ∙ ap (λ (k : ℕ). get_or f (i + 1) 0 ∷ drop k f) (more i))
    where
      more : (i : ℕ) → suc (i + 1) ≡ i + 2
      more i = omega arith

  -- the next pair
  pub pairs_step : pairs (drop i f) ≡ before (digit_value (get_or f i 0)) (digit_value (get_or f (i + 1) 0)) (pairs (drop (i + 2) f))
  unfolding pairs
  pairs_step = ap pairs two

  -- a pair is read, and its byte put
  pub pairs_put : (out : List ℕ) (n high low : ℕ) → n < length out → digit_value (get_or f i 0) ≡ Some high → digit_value (get_or f (i + 1) 0) ≡ Some low → take (n + 1) (set out n (high * 16 + low)) ++ pairs (drop (i + 2) f) ≡ take n out ++ pairs (drop i f)
  pairs_put out n high low k p q =
      ap (λ (xs : List ℕ). xs ++ pairs (drop (i + 2) f)) (ap (λ (m : ℕ). take m (set out n (high * 16 + low))) (add-one n) ∙ take-suc-set out n (high * 16 + low) k)
      ∙ append_assoc (take n out) ((high * 16 + low) ∷ []) (pairs (drop (i + 2) f))
      ∙ ap (λ (l : List ℕ). take n out ++ l) (sym (pairs_step ∙ rw (p, q)))

-- less than two bytes are left
pub pairs_end : (f : List ℕ) (i : ℕ) → length f ≤ i + 1 → pairs (drop i f) ≡ []
unfolding pairs
pairs_end f i h = go (drop i f) (omega (arith, length-drop i f))
  where
    go : (s : List ℕ) → length s ≤ 1 → pairs s ≡ []
    go [] k = refl
    go (a ∷ []) k = refl
    go (a ∷ b ∷ s) k = absurd (omega arith)

-- what a buffer holds where its first bytes are a byte string and the others stayed
pub over_is : (new old s : List ℕ) (n : ℕ) → n ≤ length new → take n new ≡ s → drop n new ≡ drop n old → (n ≡ length s) × (new ≡ over s old)
over_is new old s n h e d =
    let l : n ≡ length s = sym (length-take-le n new h) ∙ ap length e in
    (l, sym (take-append-drop n new) ∙ ap₂ ◌++◌ e (d ∙ ap (λ (k : ℕ). drop k old) l))

pub length_hex : (s : List ℕ) → length (hex_of s) ≡ 2 * length s
unfolding hex_of
length_hex [] = refl
length_hex (b ∷ s) = ap (λ (n : ℕ). suc (suc n)) (length_hex s) ∙ twice (length s)
  where
    twice : (n : ℕ) → suc (suc (2 * n)) ≡ 2 * suc n
    twice n = omega arith

hex_append : (s t : List ℕ) → hex_of (s ++ t) ≡ hex_of s ++ hex_of t
unfolding hex_of
hex_append [] t = refl
hex_append (b ∷ s) t = ap (λ (l : List ℕ). digit_of (b / 16) ∷ digit_of (b % 16) ∷ l) (hex_append s t)

-- one byte more in hex
pub hex_more : (s : List ℕ) (i x y : ℕ) → i < length s → x ≡ digit_of (get_or s i 0 / 16) → y ≡ digit_of (get_or s i 0 % 16) → (hex_of (take i s) ++ (x ∷ [])) ++ (y ∷ []) ≡ hex_of (take (i + 1) s)
unfolding hex_of
hex_more s i x y h e f =
    rw (e, f, add-one, take-suc s i 0 h) (append_assoc (hex_of (take i s)) (digit_of (get_or s i 0 / 16) ∷ []) (digit_of (get_or s i 0 % 16) ∷ []) ∙ sym (hex_append (take i s) (get_or s i 0 ∷ [])))

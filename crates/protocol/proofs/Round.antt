-- What is written as a field is read back, and a field that is read is the one that is written. Assumes nothing.
use Prim.Native.Nat.{ℕ, suc, ◌+◌, ◌-◌, ◌*◌, ◌/◌, ◌%◌, ◌≤◌, ◌<◌}
use mathlib.Core.Path.{◌≡◌, refl, sym, ap, ap₂, ◌∙◌}
use mathlib.Core.Bool.{Bool, true, false, cond}
use mathlib.Core.List.{List, [], ◌∷◌}
use native.Mathlib.Omega.{arith}
use native.Mathlib.Nat.{div-add-mod'}
use lib.ListN.{length}
use Rattle.std.proofs.Common.{Option, None, Some}
use lib.Arith.{digits_div, digits_mod}
use lib.Dec.{ltb, eqb}
use borrow.Author.Tests.{lt-ltb, le-ltb, ltb-true, ltb-false, eq-eqb, ne_eqb, eqb-true, eqb-false}
use Rattle.laws.specs.Tests.{and_both}
use Rattle.text.specs.Bytes.{all, same}
use Rattle.text.proofs.Laws.{same_equal}
use Rattle.protocol.proofs.Laws.{length_hex}
use Rattle.protocol.specs.Hex.{digit_of, digit_value, hex_of, field_of, before, pairs, is_field}

-- a byte
abbrev pub is_byte : ℕ → Bool
is_byte b = ltb b 256

digit_back : (d : ℕ) → d < 16 → digit_value (digit_of d) ≡ Some d
unfolding digit_of digit_value
digit_back d h = go (ltb d 10) refl
  where
    some : (m n : ℕ) → m ≡ n → Some m ≡ Some n
    some m n e = ap (λ (x : ℕ). Some x) e

    go : (t : Bool) → ltb d 10 ≡ t → digit_value (digit_of d) ≡ Some d
    go true e = let l : d < 10 = ltb-true d 10 e in rw (e, le-ltb (48 + d) 48 (omega arith), lt-ltb (48 + d) 58 (omega arith)) (some _ _ (omega arith))
    go false e =
        let l : 10 ≤ d = ltb-false d 10 e in
        rw (e, le-ltb (87 + d) 48 (omega arith), le-ltb (87 + d) 58 (omega arith), le-ltb (87 + d) 97 (omega arith), lt-ltb (87 + d) 103 (omega arith)) (some _ _ (omega arith))

digit_only : (b d : ℕ) → digit_value b ≡ Some d → (d < 16) × (digit_of d ≡ b)
unfolding digit_of digit_value
digit_only b d h = go (ltb b 48) refl (ltb b 58) refl (ltb b 97) refl (ltb b 103) refl
  where
    go : (t : Bool) → ltb b 48 ≡ t → (u : Bool) → ltb b 58 ≡ u → (v : Bool) → ltb b 97 ≡ v → (w : Bool) → ltb b 103 ≡ w → (d < 16) × (digit_of d ≡ b)
    go true e u f v g w k = let z = rw e at h in cc
    go false e true f v g w k =
        let l : b < 58 = ltb-true b 58 f in
        let m : 48 ≤ b = ltb-false b 48 e in
        let z = rw (e, f) at h in
        let y : b - 48 ≡ d = cc in
        (omega arith, rw (lt-ltb d 10 (omega arith)) (omega arith))
    go false e false f true g w k = let z = rw (e, f, g) at h in cc
    go false e false f false g true k =
        let l : 97 ≤ b = ltb-false b 97 g in
        let m : b < 103 = ltb-true b 103 k in
        let z = rw (e, f, g, k) at h in
        let y : b - 87 ≡ d = cc in
        (omega arith, rw (le-ltb d 10 (omega arith)) (omega arith))
    go false e false f false g false k = let z = rw (e, f, g, k) at h in cc

high_half : (b : ℕ) → b < 256 → b / 16 < 16
high_half b h = omega arith

pairs_back : (s : List ℕ) → all is_byte s ≡ true → pairs (hex_of s) ≡ s
unfolding pairs hex_of
pairs_back [] h = refl
pairs_back (b ∷ s) h =
    let q = and_both (is_byte b) (all is_byte s) h in
    let low : b % 16 < 16 = omega arith in
    let high = high_half b (ltb-true b 256 q.0) in
    rw (digit_back (b / 16) high, digit_back (b % 16) low, pairs_back s q.1) (ap (λ (n : ℕ). n ∷ s) (div-add-mod' b 16))

-- two digits and more are more than `-`
field_hex : (f : List ℕ) → 1 < length f → 2 * length (pairs f) ≡ length f → is_field f ≡ true
field_hex f h e = rw (ne_eqb (length f) 1 (λ e. omega arith), ne_eqb (length f) 0 (λ e. omega arith), eq-eqb (2 * length (pairs f)) (length f) e)

-- what was written is a field, and read back
pub field_back : (s : List ℕ) → all is_byte s ≡ true → (is_field (field_of s) ≡ true) × (pairs (field_of s) ≡ s)
unfolding pairs
field_back [] h = (refl, refl)
field_back (b ∷ s) h =
    let e = pairs_back (b ∷ s) h in
    let l = length_hex (b ∷ s) in
    (field_hex (hex_of (b ∷ s)) (omega arith) (ap (λ (x : List ℕ). 2 * length x) e ∙ sym l), e)

-- pairs up to the end are those that are written for their bytes
pairs_only : (f : List ℕ) → 2 * length (pairs f) ≡ length f → hex_of (pairs f) ≡ f
unfolding pairs hex_of
pairs_only [] h = refl
pairs_only (a ∷ []) h = absurd (omega arith)
pairs_only (a ∷ b ∷ f) h = go (digit_value a) refl (digit_value b) refl (pairs_only f) h
  where
    go : (t : Option ℕ) → digit_value a ≡ t → (u : Option ℕ) → digit_value b ≡ u → (2 * length (pairs f) ≡ length f → hex_of (pairs f) ≡ f) → 2 * length (before t u (pairs f)) ≡ suc (suc (length f)) → hex_of (before t u (pairs f)) ≡ a ∷ b ∷ f
    go None d u e ih h = absurd (omega arith)
    go (Some x) d None e ih h = absurd (omega arith)
    go (Some x) d (Some y) e ih h =
        let p = digit_only a x d in
        let q = digit_only b y e in
        ap (λ (l : List ℕ). digit_of ((x * 16 + y) / 16) ∷ digit_of ((x * 16 + y) % 16) ∷ l) (ih (omega arith))
        ∙ ap₂ (λ (m n : ℕ). m ∷ n ∷ f) (ap digit_of (digits_div x q.0) ∙ p.1) (ap digit_of (digits_mod x q.0) ∙ q.1)

-- only what is written for a byte string is a field with it
pub field_only : (f : List ℕ) → is_field f ≡ true → field_of (pairs f) ≡ f
unfolding pairs hex_of
field_only f h = go (same (45 ∷ []) f) refl (eqb (length f) 0) refl h
  where
    some : (s : List ℕ) → hex_of s ≡ f → (length f ≡ 0 → ⊥) → field_of s ≡ f
    some [] e n = absurd (n (sym (ap length e)))
    some (b ∷ s) e n = e

    go : (t : Bool) → same (45 ∷ []) f ≡ t → (u : Bool) → eqb (length f) 0 ≡ u → cond t true (cond u false (eqb (2 * length (pairs f)) (length f))) ≡ true → field_of (pairs f) ≡ f
    go true e u g h = let d = same_equal (45 ∷ []) f e in ap (λ (l : List ℕ). field_of (pairs l)) (sym d) ∙ d
    go false e true g h = let z : ◌≡◌ {A = ℕ} 0 1 = cc in absurd (omega arith)
    go false e false g h = some (pairs f) (pairs_only f (eqb-true (2 * length (pairs f)) (length f) h)) (eqb-false (length f) 0 g)

-- Laws of the numbers that digits write. Assumes nothing.
use Prim.Native.Nat.{ℕ, zero, suc, ◌+◌, ◌-◌, ◌*◌, ◌^◌, ◌≤◌, ◌<◌, min}
use mathlib.Core.Path.{◌≡◌, refl, sym, ap, ◌∙◌}
use mathlib.Core.Bool.{true, false, and-false, false≢true}
use mathlib.Core.List.{List, [], ◌∷◌, ◌++◌}
use native.Mathlib.Omega.{arith}
use native.Mathlib.Numerals.{add-one}
use native.Mathlib.Nat.{mul-le-mul_right, pow-suc, mul_assoc, add-mul, mul_comm, zero-mul}
use native.Mathlib.Decide.{dec_lt}
use lib.ListN.{length, get_or, drop}
use Rattle.std.specs.Prelude.{Some, None}
use lib.Seq.{drop-cons}
use lib.Dec.{ltb, leb}
use borrow.Author.Tests.{lt-ltb, le-ltb, le-leb, lt-leb, leb-true, ne_eqb}
use Rattle.laws.specs.Tests.{and_both}
use Rattle.text.specs.Bytes.{begins, place, has}
use Rattle.text.specs.Digits.{is_digit, all_digits, nat_from, nat_of, digits_up_to}

-- a digit's bounds
pub digit_range : (b : ℕ) → is_digit b ≡ true → (48 ≤ b) × (b ≤ 57)
digit_range b h =
    let r = and_both (leb 48 b) (leb b 57) h in
    (leb-true 48 b r.0, leb-true b 57 r.1)

-- digits from a place on
pub all_drop : (k : ℕ) (s : List ℕ) → all_digits s ≡ true → all_digits (drop k s) ≡ true
all_drop zero s h = h
all_drop (suc k) [] h = refl
all_drop (suc k) (d ∷ s) h = all_drop k s (and_both (is_digit d) (all_digits s) h).1

-- the digit at a place of a list that ends in digits
pub digit_at : (s : List ℕ) (i : ℕ) → i < length s → all_digits (drop i s) ≡ true → (48 ≤ get_or s i 0) × (get_or s i 0 ≤ 57) × (all_digits (drop (i + 1) s) ≡ true)
digit_at s i h a =
    let b : all_digits (get_or s i 0 ∷ drop (i + 1) s) ≡ true = rw add-one (rw (drop-cons s i 0 h) at a) in
    let q = and_both (is_digit (get_or s i 0)) (all_digits (drop (i + 1) s)) b in
    let r = digit_range (get_or s i 0) q.0 in
    (r.0, r.1, q.1)

-- digits in front count, each ten times what stands behind it
pub nat_append : (n : ℕ) (a b : List ℕ) → nat_from n (a ++ b) ≡ nat_from (nat_from n a) b
nat_append n [] b = refl
nat_append n (d ∷ a) b = nat_append (n * 10 + (d - 48)) a b

pub nat_ge : (n : ℕ) (s : List ℕ) → n ≤ nat_from n s
nat_ge n [] = omega arith
nat_ge n (d ∷ s) = omega (arith, nat_ge (n * 10 + (d - 48)) s)

pub nat_shift : (n : ℕ) (s : List ℕ) → nat_from n s ≡ n * 10 ^ length s + nat_of s
nat_shift n [] = omega arith
nat_shift n (d ∷ s) =
    let p = 10 ^ length s in
    let a : nat_from (n * 10 + (d - 48)) s ≡ (n * 10 + (d - 48)) * p + nat_of s = nat_shift (n * 10 + (d - 48)) s in
    let b : nat_from (0 * 10 + (d - 48)) s ≡ (0 * 10 + (d - 48)) * p + nat_of s = nat_shift (0 * 10 + (d - 48)) s in
    let e : 10 ^ suc (length s) ≡ p * 10 = pow-suc 10 (length s) in
    let f : n * (p * 10) ≡ n * 10 * p = ap (λ (k : ℕ). n * k) (mul_comm p 10) ∙ sym (mul_assoc n 10 p) in
    let g : (n * 10 + (d - 48)) * p ≡ n * 10 * p + (d - 48) * p = add-mul (n * 10) (d - 48) p in
    let h : (0 * 10 + (d - 48)) * p ≡ 0 * 10 * p + (d - 48) * p = add-mul (0 * 10) (d - 48) p in
    let i : 0 * 10 * p ≡ 0 = zero-mul p in
    let j : n * 10 ^ suc (length s) ≡ n * 10 * p = ap (λ (k : ℕ). n * k) e ∙ f in
    omega arith

-- digits are less than their power of ten
pub nat_lt : (s : List ℕ) → all_digits s ≡ true → nat_of s < 10 ^ length s
nat_lt [] h = omega arith
nat_lt (d ∷ s) h =
    let p = 10 ^ length s in
    let q = and_both (is_digit d) (all_digits s) h in
    let u = digit_range d q.0 in
    let l : nat_of s < p = nat_lt s q.1 in
    let b : nat_from (0 * 10 + (d - 48)) s ≡ (0 * 10 + (d - 48)) * p + nat_of s = nat_shift (0 * 10 + (d - 48)) s in
    let e : 10 ^ suc (length s) ≡ p * 10 = pow-suc 10 (length s) in
    let m : (0 * 10 + (d - 48)) * p ≤ 9 * p = mul-le-mul_right p (omega arith) in
    let v : p * 10 ≡ 10 * p = mul_comm p 10 in
    omega arith

pub nat_next : (n : ℕ) (s : List ℕ) (i : ℕ) → i < length s → nat_from (n * 10 + (get_or s i 0 - 48)) (drop (i + 1) s) ≡ nat_from n (drop i s)
nat_next n s i h = rw (drop-cons s i 0 h, add-one)

-- a running value may be cut at a cap: what comes after never brings it below
pub nat_cut : (cap n : ℕ) (s : List ℕ) → min (nat_from (min n cap) s) cap ≡ min (nat_from n s) cap
nat_cut cap n s = go (dec_lt cap n)
  where
    go : Dec (cap < n) → min (nat_from (min n cap) s) cap ≡ min (nat_from n s) cap
    go (yes h) =
        let e : min n cap ≡ cap = omega arith in
        rw e (omega (arith, nat_ge cap s, nat_ge n s))
    go (no h) =
        let e : min n cap ≡ n = omega arith in
        rw e

module _ (most : ℕ) (d : List ℕ) where
  pub up_other : all_digits d ≡ false → None ≡ digits_up_to most d
  up_other e = rw (e, and-false (ltb 0 (length d)))

  pub up_over : most < nat_of d → None ≡ digits_up_to most d
  up_over h = rw (lt-leb (nat_of d) most h, and-false (all_digits d), and-false (ltb 0 (length d)))

  pub up_here : 0 < length d → all_digits d ≡ true → nat_of d ≤ most → Some (nat_of d) ≡ digits_up_to most d
  up_here h a l = rw (lt-ltb 0 (length d) h, a, le-leb (nat_of d) most l)

-- a digit that takes the number over the largest one
pub too_large : (most n : ℕ) (s : List ℕ) (i : ℕ) → i < length s → most < n * 10 + (get_or s i 0 - 48) → most < nat_from n (drop i s)
too_large most n s i h l = omega (arith, nat_ge (n * 10 + (get_or s i 0 - 48)) (drop (i + 1) s), nat_next n s i h)

-- nothing that begins with another byte than a digit stands among digits
module _ (x : ℕ) (t : List ℕ) (no : is_digit x ≡ false) where
  pub not_front : (s : List ℕ) → all_digits s ≡ true → begins (x ∷ t) s ≡ false
  not_front [] a = refl
  not_front (b ∷ s) a =
      let d = (and_both (is_digit b) (all_digits s) a).0 in
      rw (ne_eqb b x (λ e. false≢true (sym no ∙ ap is_digit (sym e) ∙ d)))

  pub place_none : (s : List ℕ) → all_digits s ≡ true → place (x ∷ t) s ≡ length s
  place_none [] a = refl
  place_none (b ∷ s) a =
      let q = and_both (is_digit b) (all_digits s) a in
      rw (not_front (b ∷ s) a) (ap suc (place_none s q.1))

  pub not_in : (s : List ℕ) → all_digits s ≡ true → has (x ∷ t) s ≡ false
  not_in s a = rw (place_none s a) (le-ltb (length s) (length s) (omega arith))

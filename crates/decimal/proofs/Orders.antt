-- The order of sizes by their digits, and that of signed numbers by their sizes. Assumes nothing.
use Prim.Native.Nat.{ℕ, ◌+◌, ◌-◌, ◌*◌, ◌^◌, ◌≤◌, ◌<◌, min}
use mathlib.Core.Path.{◌≡◌, refl, sym, ap, ap₂, ◌∙◌}
use mathlib.Core.Logic.{◌⊎◌, inl, inr, ⊎_elim}
use mathlib.Core.Bool.{Bool, true, false, cond, ◌&&◌}
use mathlib.Core.List.{List, [], ◌∷◌, ◌++◌}
use native.Mathlib.Nat.{mul-le-mul_right, mul-lt-mul_of_pos_right, add-mul, one-le-pow, zero-mul}
use native.Mathlib.Omega.{arith}
use native.Mathlib.Decide.{dec_lt}
use lib.ListN.{length}
use lib.Dec.{ltb, eqb}
use borrow.Author.Tests.{lt-ltb, le-ltb, eqb-true, eqb-false}
use Rattle.laws.specs.Tests.{and_both}
use Rattle.text.specs.Bytes.{all}
use Rattle.text.specs.Digits.{is_digit, all_digits, nat_from, nat_of}
use Rattle.text.proofs.Numbers.{digit_range, nat_append, nat_ge, nat_shift, nat_lt}
use Rattle.std.specs.declared.cmp.Ordering.TheVariants.{Less, Equal, Greater}
use Rattle.std.specs.Ordering.{nat_cmp, ordering_reverse}
use Rattle.std.specs.Cmp.{nat_cmp_is}
use Rattle.decimal.specs.Decimal.{is_zero, orderℕ, order_of, signed, is_number, integer_of, fraction_of}
use Rattle.decimal.specs.Signs.{by_sign, apart}

-- digits are 0 just where each of them is
pub nat_zeros : (s : List ℕ) → all_digits s ≡ true → all is_zero s ≡ true → nat_of s ≡ 0
nat_zeros [] h z = refl
nat_zeros (d ∷ s) h z =
    let q = and_both (is_digit d) (all_digits s) h in
    let w = and_both (is_zero d) (all is_zero s) z in
    let e : d ≡ 48 = eqb-true d 48 w.0 in
    rw e (nat_zeros s q.1 w.1)

pub nat_some : (s : List ℕ) → all_digits s ≡ true → all is_zero s ≡ false → 0 < nat_of s
nat_some [] h z = let y : ◌≡◌ {A = ℕ} 0 1 = cc in absurd (omega arith)
nat_some (d ∷ s) h z = go (is_zero d) refl (λ g y. nat_some s g y)
  where
    q : (is_digit d ≡ true) × (all_digits s ≡ true)
    q = and_both (is_digit d) (all_digits s) h

    go : (t : Bool) → is_zero d ≡ t → (all_digits s ≡ true → all is_zero s ≡ false → 0 < nat_of s) → 0 < nat_from (0 * 10 + (d - 48)) s
    go true e more =
        let f : d ≡ 48 = eqb-true d 48 e in
        let y : all is_zero s ≡ false = rw e at z in
        rw f (more q.1 y)
    go false e more =
        let r = digit_range d q.0 in
        let n : d ≡ 48 → ⊥ = eqb-false d 48 e in
        omega (arith, nat_ge (0 * 10 + (d - 48)) s)

-- The order of sizes, by the integer part and then by the fraction.

pub order_lt : (a b : ℕ) → a < b → orderℕ a b ≡ Less
order_lt a b h = simp (lt-ltb a b h)

pub order_gt : (a b : ℕ) → b < a → orderℕ a b ≡ Greater
order_gt a b h = simp (le-ltb a b (omega arith), lt-ltb b a h)

pub order_eq : (a b : ℕ) → a ≡ b → orderℕ a b ≡ Equal
order_eq a b h = simp (le-ltb a b (omega arith), le-ltb b a (omega arith))

pub tri : (a b : ℕ) → (a < b) ⊎ ((a ≡ b) ⊎ (b < a))
tri a b = elim (dec_lt a b) [ yes h ↦ inl h | no h ↦ elim (dec_lt b a) [ yes k ↦ inr (inr k) | no k ↦ inr (inl (omega arith)) ] ]

module _ (w f : List ℕ) (n : ℕ) (hf : all_digits f ≡ true) where
  abbrev p : ℕ
  p = 10 ^ length f

  joined : nat_of (w ++ f) ≡ nat_of w * p + nat_of f
  joined = nat_append 0 w f ∙ nat_shift (nat_of w) f

  pub size_lt : nat_of w < n → orderℕ (nat_of (w ++ f)) (n * 10 ^ length f) ≡ Less
  size_lt h =
      let m : (nat_of w + 1) * p ≤ n * p = mul-le-mul_right p (omega arith) in
      let g : (nat_of w + 1) * p ≡ nat_of w * p + 1 * p = add-mul (nat_of w) 1 p in
      order_lt (nat_of (w ++ f)) (n * p) (omega (arith, joined, nat_lt f hf))

  pub size_gt : n < nat_of w → orderℕ (nat_of (w ++ f)) (n * 10 ^ length f) ≡ Greater
  size_gt h =
      let m : n * p < nat_of w * p = mul-lt-mul_of_pos_right h (one-le-pow (length f) 10 (omega arith)) in
      order_gt (nat_of (w ++ f)) (n * p) (omega (arith, joined))

  pub size_eq : nat_of w ≡ n → all is_zero f ≡ true → orderℕ (nat_of (w ++ f)) (n * 10 ^ length f) ≡ Equal
  size_eq h z = order_eq (nat_of (w ++ f)) (n * p) (joined ∙ rw (h, nat_zeros f hf z) (omega arith))

  pub size_more : nat_of w ≡ n → all is_zero f ≡ false → orderℕ (nat_of (w ++ f)) (n * 10 ^ length f) ≡ Greater
  size_more h z =
      let e : nat_of w * p ≡ n * p = ap (λ (k : ℕ). k * p) h in
      order_gt (nat_of (w ++ f)) (n * p) (omega (arith, joined, nat_some f hf z))

  -- an integer part that is cut at a number above n decides where it differs from n
  pub size_differs : (cap m : ℕ) → m ≡ min (nat_of w) cap → n < cap → (nat_cmp m n ≡ Equal → ⊥) → nat_cmp m n ≡ orderℕ (nat_of (w ++ f)) (n * 10 ^ length f)
  size_differs cap m e l h =
      ⊎_elim (λ g. sym (nat_cmp_is m n Less g) ∙ sym (size_lt (omega arith)))
      (⊎_elim (λ g. absurd (h (sym (nat_cmp_is m n Equal g)))) (λ g. sym (nat_cmp_is m n Greater g) ∙ sym (size_gt (omega arith))))
      (tri m n)

-- The order of signed values, by the order of sizes.

pub flip_order : (a b : ℕ) → orderℕ b a ≡ ordering_reverse (orderℕ a b)
flip_order a b = ⊎_elim (λ h. rw (order_lt a b h) (order_gt b a h)) (⊎_elim (λ h. rw (order_eq a b h) (order_eq b a (sym h))) (λ h. rw (order_gt a b h) (order_lt b a h))) (tri a b)

module _ (N n k : ℕ) where
  positive : (n ≡ 0 → ⊥) → 0 < n * 10 ^ k
  positive h = let m : 1 * 10 ^ k ≤ n * 10 ^ k = mul-le-mul_right (10 ^ k) (omega arith) in omega (arith, one-le-pow k 10 (omega arith))

  down : orderℕ (0 * 10 ^ 0 + 0 * 10 ^ k) (n * 10 ^ k + N * 10 ^ 0) ≡ apart (orderℕ N (n * 10 ^ k)) (eqb n 0) Less
  down =
      ⊎_elim (λ h. rw (order_lt N (n * 10 ^ k) h) (order_lt (0 * 10 ^ 0 + 0 * 10 ^ k) (n * 10 ^ k + N * 10 ^ 0) (omega arith)))
      (⊎_elim (λ h. rw (order_eq N (n * 10 ^ k) h) (either_zero (eqb n 0) refl h)) (λ h. rw (order_gt N (n * 10 ^ k) h) (order_lt (0 * 10 ^ 0 + 0 * 10 ^ k) (n * 10 ^ k + N * 10 ^ 0) (omega arith))))
      (tri N (n * 10 ^ k))
    where
      either_zero : (t : Bool) → eqb n 0 ≡ t → N ≡ n * 10 ^ k → orderℕ (0 * 10 ^ 0 + 0 * 10 ^ k) (n * 10 ^ k + N * 10 ^ 0) ≡ cond t Equal Less
      either_zero true e h =
          let z : n ≡ 0 = eqb-true n 0 e in
          let y : n * 10 ^ k ≡ 0 = rw z (zero-mul (10 ^ k)) in
          order_eq (0 * 10 ^ 0 + 0 * 10 ^ k) (n * 10 ^ k + N * 10 ^ 0) (omega arith)
      either_zero false e h = order_lt (0 * 10 ^ 0 + 0 * 10 ^ k) (n * 10 ^ k + N * 10 ^ 0) (omega (arith, positive (eqb-false n 0 e)))

  up : orderℕ (N * 10 ^ 0 + n * 10 ^ k) (0 * 10 ^ k + 0 * 10 ^ 0) ≡ apart (orderℕ N (n * 10 ^ k)) (eqb n 0) Greater
  up =
      ⊎_elim (λ h. rw (order_lt N (n * 10 ^ k) h) (order_gt (N * 10 ^ 0 + n * 10 ^ k) (0 * 10 ^ k + 0 * 10 ^ 0) (omega arith)))
      (⊎_elim (λ h. rw (order_eq N (n * 10 ^ k) h) (either_zero (eqb n 0) refl h)) (λ h. rw (order_gt N (n * 10 ^ k) h) (order_gt (N * 10 ^ 0 + n * 10 ^ k) (0 * 10 ^ k + 0 * 10 ^ 0) (omega arith))))
      (tri N (n * 10 ^ k))
    where
      either_zero : (t : Bool) → eqb n 0 ≡ t → N ≡ n * 10 ^ k → orderℕ (N * 10 ^ 0 + n * 10 ^ k) (0 * 10 ^ k + 0 * 10 ^ 0) ≡ cond t Equal Greater
      either_zero true e h =
          let z : n ≡ 0 = eqb-true n 0 e in
          let y : n * 10 ^ k ≡ 0 = rw z (zero-mul (10 ^ k)) in
          order_eq (N * 10 ^ 0 + n * 10 ^ k) (0 * 10 ^ k + 0 * 10 ^ 0) (omega arith)
      either_zero false e h = order_gt (N * 10 ^ 0 + n * 10 ^ k) (0 * 10 ^ k + 0 * 10 ^ 0) (omega (arith, positive (eqb-false n 0 e)))

  pub signs : (minus below : Bool) → order_of (signed minus N k) (signed below n 0) ≡ by_sign (orderℕ N (n * 10 ^ k)) minus below (eqb n 0)
  signs true true =
      let a : 0 * 10 ^ 0 + n * 10 ^ k ≡ n * 10 ^ k = omega arith in
      let b : 0 * 10 ^ k + N * 10 ^ 0 ≡ N = omega arith in
      ap₂ orderℕ a b ∙ flip_order N (n * 10 ^ k)
  signs true false = down
  signs false true = up
  signs false false =
      let a : N * 10 ^ 0 + 0 * 10 ^ k ≡ N = omega arith in
      let b : n * 10 ^ k + 0 * 10 ^ 0 ≡ n * 10 ^ k = omega arith in
      ap₂ orderℕ a b

pub number_digits : (s : List ℕ) → is_number s ≡ true → (all_digits (integer_of s) ≡ true) × (all_digits (fraction_of s) ≡ true)
number_digits s e =
    let a = and_both (all_digits (integer_of s)) (all_digits (fraction_of s) && ltb 0 (length (integer_of s) + length (fraction_of s))) e in
    let b = and_both (all_digits (fraction_of s)) (ltb 0 (length (integer_of s) + length (fraction_of s))) a.1 in
    (a.0, b.0)

-- What the verdicts use of a number: its exact value. The comparison is the order of exact values, and that order is one; the digits that
-- count say how large the value is and which of its multiples by a power of ten are whole. Assumes nothing.
use Prim.Native.Nat.{ℕ, zero, suc, ◌+◌, ◌-◌, ◌*◌, ◌%◌, ◌^◌, ◌≤◌, ◌<◌, ◌∣◌}
use mathlib.Core.Path.{◌≡◌, refl, sym, ap, ap₂, ◌∙◌, subst}
use mathlib.Core.Logic.{◌↔◌}
use mathlib.Core.Bool.{Bool, true, false, cond}
use mathlib.Core.List.{List, [], ◌∷◌, ◌++◌, append_assoc, append-nil}
use native.Mathlib.Nat.{add-mul, mul_assoc, mul-le-mul_right, one-le-pow, lt_of_mul-lt-mul_right, mul-lt-mul_of_pos_right, mul_right_comm, pow-le-pow_right, dvd-mul_left, dvd_of_mul-dvd-mul_right, mul-dvd-mul_right, mod-eq-zero_of_dvd}
use native.Mathlib.Omega.{arith}
use native.Mathlib.Decide.{dec_lt}
use lib.ListN.{length, take, drop, length-drop, take-append-drop, drop_of_length-le}
use lib.Seq.{take-length}
use lib.Arith.{digits_mod}
use lib.Pow.{pow-add}
use lib.Dec.{ltb, leb}
use borrow.Author.Tests.{lt-ltb, ltb-true, leb-true, le-leb, eqb-true, eqb-false}
use Rattle.laws.specs.Tests.{and_both}
use Rattle.text.specs.Bytes.{all}
use Rattle.text.specs.Digits.{is_digit, all_digits, nat_from, nat_of}
use Rattle.text.proofs.Numbers.{digit_range, all_drop, nat_append, nat_shift, nat_lt, not_front, place_none}
use Rattle.std.specs.Prelude.{Some, None}
use Rattle.std.specs.declared.cmp.Ordering.TheVariants.{Less, Equal, Greater}
use Rattle.std.specs.Ordering.{ordering_reverse}
use Rattle.decimal.specs.Decimal.{is_negative, is_zero, is_number, integer_of, fraction_of, signed, exact_of, orderℕ, order_of, Exact, against, integer_digits, fraction_digits, integer_at_most, fraction_at_most}
use Rattle.decimal.proofs.Orders.{nat_zeros, nat_some, order_lt, flip_order, number_digits}
use Rattle.decimal.proofs.Digits.{fraction_zeros, fraction_le}

-- the comparison is the order of exact values
pub compared : (s : List ℕ) (below : Bool) (size : ℕ) → is_number s ≡ true → against s below size ≡ Some (order_of (exact_of s) (signed below size 0))
unfolding against
compared s below size h = rw h

-- what is no number stands in no order
pub not_compared : (s : List ℕ) (below : Bool) (size : ℕ) → is_number s ≡ false → against s below size ≡ None
unfolding against
not_compared s below size h = rw h

-- 0 is one value, whatever its sign
pub zero-signed : (k : ℕ) → signed true 0 k ≡ signed false 0 k
zero-signed k = refl

-- the order is one: turned round, and transitive
pub turned : (x y : Exact) → order_of y x ≡ ordering_reverse (order_of x y)
turned x y = flip_order (x.plus * 10 ^ y.places + y.minus * 10 ^ x.places) (y.plus * 10 ^ x.places + x.minus * 10 ^ y.places)

is_less_lem : (a b : ℕ) → orderℕ a b ≡ Less → a < b
is_less_lem a b e = go (ltb a b) refl
  where
    more : (u : Bool) → cond u Greater Equal ≡ Less → ⊥
    more true e = let z : ◌≡◌ {A = ℕ} 0 1 = cc in omega arith
    more false e = let z : ◌≡◌ {A = ℕ} 0 1 = cc in omega arith

    go : (t : Bool) → ltb a b ≡ t → a < b
    go true h = ltb-true a b h
    go false h = absurd (more (ltb b a) (rw h at e))

cross : (p m q n r l a b c : ℕ) → p * b + n * a < q * a + m * b → q * c + l * b < r * b + n * c → 0 < c → 0 < a → (p * c + l * a) * b < (r * a + m * c) * b
cross p m q n r l a b c h k hc ha =
    let h₁ : (p * b + n * a) * c < (q * a + m * b) * c = mul-lt-mul_of_pos_right h hc in
    let k₁ : (q * c + l * b) * a < (r * b + n * c) * a = mul-lt-mul_of_pos_right k ha in
    let e₁ : (p * b + n * a) * c ≡ p * c * b + n * a * c = add-mul (p * b) (n * a) c ∙ ap (λ (t : ℕ). t + n * a * c) (mul_right_comm p b c) in
    let e₂ : (q * a + m * b) * c ≡ q * a * c + m * c * b = add-mul (q * a) (m * b) c ∙ ap (λ (t : ℕ). q * a * c + t) (mul_right_comm m b c) in
    let e₃ : (q * c + l * b) * a ≡ q * a * c + l * a * b = add-mul (q * c) (l * b) a ∙ ap₂ ◌+◌ (mul_right_comm q c a) (mul_right_comm l b a) in
    let e₄ : (r * b + n * c) * a ≡ r * a * b + n * a * c = add-mul (r * b) (n * c) a ∙ ap₂ ◌+◌ (mul_right_comm r b a) (mul_right_comm n c a) in
    let e₅ : (p * c + l * a) * b ≡ p * c * b + l * a * b = add-mul (p * c) (l * a) b in
    let e₆ : (r * a + m * c) * b ≡ r * a * b + m * c * b = add-mul (r * a) (m * c) b in
    omega arith

pub less_trans : (x y z : Exact) → order_of x y ≡ Less → order_of y z ≡ Less → order_of x z ≡ Less
less_trans x y z e f =
    let h = is_less_lem (x.plus * 10 ^ y.places + y.minus * 10 ^ x.places) (y.plus * 10 ^ x.places + x.minus * 10 ^ y.places) e in
    let k = is_less_lem (y.plus * 10 ^ z.places + z.minus * 10 ^ y.places) (z.plus * 10 ^ y.places + y.minus * 10 ^ z.places) f in
    order_lt (x.plus * 10 ^ z.places + z.minus * 10 ^ x.places) (z.plus * 10 ^ x.places + x.minus * 10 ^ z.places)
    (lt_of_mul-lt-mul_right (10 ^ y.places)
    (cross x.plus x.minus y.plus y.minus z.plus z.minus (10 ^ x.places) (10 ^ y.places) (10 ^ z.places) h k (one-le-pow z.places 10 (omega arith)) (one-le-pow x.places 10 (omega arith))))

-- the digits of an integer part that count: n of them just where the number is below 10 ^ n and not below 10 ^ (n - 1)
pub integer_below : (w : List ℕ) → all_digits w ≡ true → nat_of w < 10 ^ integer_digits w
integer_below [] h = omega arith
integer_below (d ∷ w) h = go (is_zero d) refl (integer_below w (and_both (is_digit d) (all_digits w) h).1)
  where
    go : (t : Bool) → is_zero d ≡ t → nat_of w < 10 ^ integer_digits w → nat_from (0 * 10 + (d - 48)) w < 10 ^ cond t (integer_digits w) (suc (length w))
    go true e ih = let f : d ≡ 48 = eqb-true d 48 e in rw f ih
    go false e ih = nat_lt (d ∷ w) h

pub integer_reach : (w : List ℕ) (k : ℕ) → all_digits w ≡ true → integer_digits w ≡ suc k → 10 ^ k ≤ nat_of w
integer_reach [] k h e = absurd (omega arith)
integer_reach (d ∷ w) k h e = go (is_zero d) refl e (λ g. integer_reach w k (and_both (is_digit d) (all_digits w) h).1 g)
  where
    go : (t : Bool) → is_zero d ≡ t → cond t (integer_digits w) (suc (length w)) ≡ suc k → (integer_digits w ≡ suc k → 10 ^ k ≤ nat_of w) → 10 ^ k ≤ nat_from (0 * 10 + (d - 48)) w
    go true z e ih = let f : d ≡ 48 = eqb-true d 48 z in rw f (ih e)
    go false z e ih =
        let n : d ≡ 48 → ⊥ = eqb-false d 48 z in
        let q = and_both (is_digit d) (all_digits w) h in
        let l = digit_range d q.0 in
        let p : length w ≡ k = omega arith in
        let m : 1 * 10 ^ length w ≤ (0 * 10 + (d - 48)) * 10 ^ length w = mul-le-mul_right (10 ^ length w) (omega arith) in
        rw (← p) (omega (arith, nat_shift (0 * 10 + (d - 48)) w))

-- the number that is taken from 10 ^ places times an exact value, without its sign
abbrev pub size_of : Exact → ℕ
size_of x = x.plus + x.minus

module _ (w f : List ℕ) (k : ℕ) (hw : all_digits w ≡ true) (hf : all_digits f ≡ true) where
  joined : nat_of (w ++ f) ≡ nat_of w * 10 ^ length f + nat_of f
  joined = nat_append 0 w f ∙ nat_shift (nat_of w) f

  integer_small : leb (integer_digits w) k ≡ true → nat_of (w ++ f) < 10 ^ k * 10 ^ length f
  integer_small h =
      let p = 10 ^ length f in
      let a : 10 ^ integer_digits w ≤ 10 ^ k = pow-le-pow_right (omega arith) (leb-true (integer_digits w) k h) in
      let m : (nat_of w + 1) * p ≤ 10 ^ k * p = mul-le-mul_right p (omega (arith, integer_below w hw)) in
      let g : (nat_of w + 1) * p ≡ nat_of w * p + 1 * p = add-mul (nat_of w) 1 p in
      omega (arith, joined, nat_lt f hf)

  integer_few : nat_of (w ++ f) < 10 ^ k * 10 ^ length f → leb (integer_digits w) k ≡ true
  integer_few h = go (integer_digits w) refl
    where
      large : (j : ℕ) → integer_digits w ≡ suc j → k < suc j → ⊥
      large j e l =
          let p = 10 ^ length f in
          let a : 10 ^ k ≤ 10 ^ j = pow-le-pow_right (omega arith) (omega arith) in
          let m : 10 ^ k * p ≤ nat_of w * p = mul-le-mul_right p (omega (arith, integer_reach w j hw e)) in
          omega (arith, joined)

      go : (n : ℕ) → integer_digits w ≡ n → leb n k ≡ true
      go zero e = le-leb zero k (omega arith)
      go (suc j) e = elim (dec_lt k (suc j)) [ yes l ↦ absurd (large j e l) | no l ↦ le-leb (suc j) k (omega arith) ]

  left : ℕ
  left = nat_of (drop k f)

  unit : ℕ
  unit = 10 ^ length (drop k f)

  split : nat_of (w ++ f) ≡ nat_of (w ++ take k f) * unit + left
  unfolding unit left
  split =
      ap (λ (l : List ℕ). nat_of (w ++ l)) (sym (take-append-drop k f)) ∙ ap nat_of (sym (append_assoc w (take k f) (drop k f)))
      ∙ nat_append 0 (w ++ take k f) (drop k f) ∙ nat_shift (nat_of (w ++ take k f)) (drop k f)

  left_digits : all_digits (drop k f) ≡ true
  left_digits = all_drop k f hf

  unit_pos : 0 < 10 ^ k
  unit_pos = one-le-pow k 10 (omega arith)

  scale : k ≤ length f → 10 ^ length f ≡ unit * 10 ^ k
  unfolding unit
  scale h = ap (λ (n : ℕ). 10 ^ n) (let e = length-drop k f in let g : length f ≡ length (drop k f) + k = omega arith in g) ∙ pow-add 10 (length (drop k f)) k

  fraction_whole : leb (fraction_digits f) k ≡ true → 10 ^ length f ∣ nat_of (w ++ f) * 10 ^ k
  unfolding unit left
  fraction_whole h = elim (dec_lt (length f) k) [ yes l ↦ long l | no l ↦ short (omega arith) ]
    where
      long : length f < k → 10 ^ length f ∣ nat_of (w ++ f) * 10 ^ k
      long l =
          let e : k ≡ (k - length f) + length f = omega arith in
          let g : nat_of (w ++ f) * 10 ^ k ≡ nat_of (w ++ f) * 10 ^ (k - length f) * 10 ^ length f =
          ap (λ (n : ℕ). nat_of (w ++ f) * 10 ^ n) e ∙ ap (λ (n : ℕ). nat_of (w ++ f) * n) (pow-add 10 (k - length f) (length f)) ∙ sym (mul_assoc (nat_of (w ++ f)) (10 ^ (k - length f)) (10 ^ length f))
          in
          subst (λ (n : ℕ). 10 ^ length f ∣ n) (sym g) (dvd-mul_left (10 ^ length f) (nat_of (w ++ f) * 10 ^ (k - length f)))

      short : k ≤ length f → 10 ^ length f ∣ nat_of (w ++ f) * 10 ^ k
      short l =
          let z : left ≡ 0 = nat_zeros (drop k f) left_digits (sym (fraction_zeros f k) ∙ h) in
          let e : nat_of (w ++ f) ≡ nat_of (w ++ take k f) * unit = omega (arith, split) in
          let d : unit ∣ nat_of (w ++ f) = subst (λ (n : ℕ). unit ∣ n) (sym e) (dvd-mul_left unit (nat_of (w ++ take k f))) in
          subst (λ (n : ℕ). n ∣ nat_of (w ++ f) * 10 ^ k) (sym (scale l)) (mul-dvd-mul_right unit d (10 ^ k))

  fraction_few : 10 ^ length f ∣ nat_of (w ++ f) * 10 ^ k → leb (fraction_digits f) k ≡ true
  unfolding unit left
  fraction_few h = elim (dec_lt (length f) k) [ yes l ↦ le-leb (fraction_digits f) k (omega (arith, fraction_le f)) | no l ↦ short (omega arith) ]
    where
      short : k ≤ length f → leb (fraction_digits f) k ≡ true
      short l =
          let d : unit ∣ nat_of (w ++ f) = dvd_of_mul-dvd-mul_right unit unit_pos (subst (λ (n : ℕ). n ∣ nat_of (w ++ f) * 10 ^ k) (scale l) h) in
          let z : left ≡ 0 = sym (ap (λ (n : ℕ). n % unit) split ∙ digits_mod (nat_of (w ++ take k f)) (nat_lt (drop k f) left_digits)) ∙ mod-eq-zero_of_dvd unit d in
          fraction_zeros f k ∙ go (all is_zero (drop k f)) refl z
        where
          go : (t : Bool) → all is_zero (drop k f) ≡ t → left ≡ 0 → t ≡ true
          go true e z = refl
          go false e z = absurd (omega (arith, nat_some (drop k f) left_digits e))

-- what holds of a size and its places holds of the signed value
sized : (P : ℕ → ℕ → Type 0) (b : Bool) (n p : ℕ) → P n p → P (size_of (signed b n p)) (signed b n p).places
sized P true n p h = subst (λ (m : ℕ). P m p) (let e : n ≡ 0 + n = omega arith in e) h
sized P false n p h = subst (λ (m : ℕ). P m p) (let e : n ≡ n + 0 = omega arith in e) h

-- only a number has at most k integer digits
pub integer_number : (s : List ℕ) (k : ℕ) → integer_at_most s k ≡ true → is_number s ≡ true
unfolding integer_at_most
integer_number s k e = (and_both (is_number s) (leb (integer_digits (integer_of s)) k) e).0

-- only a number has at most k fraction digits
pub fraction_number : (s : List ℕ) (k : ℕ) → fraction_at_most s k ≡ true → is_number s ≡ true
unfolding fraction_at_most
fraction_number s k e = (and_both (is_number s) (leb (fraction_digits (fraction_of s)) k) e).0

-- at most k integer digits exactly if the value's size is below 10 ^ k
pub integer_exact : (s : List ℕ) (k : ℕ) → is_number s ≡ true → (integer_at_most s k ≡ true) ↔ (size_of (exact_of s) < 10 ^ k * 10 ^ (exact_of s).places)
unfolding integer_at_most
integer_exact s k h =
    let d = number_digits s h in
    sized (λ (n p : ℕ). (integer_at_most s k ≡ true) ↔ (n < 10 ^ k * 10 ^ p)) (is_negative s) (nat_of (integer_of s ++ fraction_of s)) (length (fraction_of s))
    (λ e. integer_small (integer_of s) (fraction_of s) k d.0 d.1 (and_both (is_number s) (leb (integer_digits (integer_of s)) k) e).1, λ l. rw h (integer_few (integer_of s) (fraction_of s) k d.0 d.1 l))

-- at most k fraction digits exactly if the value times 10 ^ k is whole
pub fraction_exact : (s : List ℕ) (k : ℕ) → is_number s ≡ true → (fraction_at_most s k ≡ true) ↔ (10 ^ (exact_of s).places ∣ size_of (exact_of s) * 10 ^ k)
unfolding fraction_at_most
fraction_exact s k h =
    let d = number_digits s h in
    sized (λ (n p : ℕ). (fraction_at_most s k ≡ true) ↔ (10 ^ p ∣ n * 10 ^ k)) (is_negative s) (nat_of (integer_of s ++ fraction_of s)) (length (fraction_of s))
    (λ e. fraction_whole (integer_of s) (fraction_of s) k d.0 d.1 (and_both (is_number s) (leb (fraction_digits (fraction_of s)) k) e).1, λ l. rw h (fraction_few (integer_of s) (fraction_of s) k d.0 d.1 l))

-- digits alone: all of them stand before the point
digits_parts : (s : List ℕ) → all_digits s ≡ true → (integer_of s ≡ s) × (fraction_of s ≡ [])
unfolding integer_of fraction_of
digits_parts s a =
    let m = not_front 45 [] refl s a in
    let p = not_front 43 [] refl s a in
    let d = place_none 46 [] refl s a in
    (rw (m, p, d) (take-length s), rw (m, p, d) (drop_of_length-le s {i = length s + 1} (omega arith)))

-- one digit or more, and nothing else, are a number; its value is the number that they write
pub digits_number : (s : List ℕ) → all_digits s ≡ true → 0 < length s → is_number s ≡ true
digits_number s a h =
    let q = digits_parts s a in
    rw (q.0, q.1, a) (lt-ltb 0 (length s + 0) (omega arith))

pub digits_exact : (s : List ℕ) → all_digits s ≡ true → exact_of s ≡ signed false (nat_of s) 0
digits_exact s a =
    let q = digits_parts s a in
    rw (q.0, q.1, not_front 45 [] refl s a) (ap (λ (l : List ℕ). signed false (nat_of l) 0) (append-nil s))

-- the order of integers that are not below zero is that of natural numbers
pub whole_order : (m n : ℕ) → order_of (signed false m 0) (signed false n 0) ≡ orderℕ m n
whole_order m n = ap₂ orderℕ (let e : m * 1 + 0 * 1 ≡ m = omega arith in e) (let e : n * 1 + 0 * 1 ≡ n = omega arith in e)

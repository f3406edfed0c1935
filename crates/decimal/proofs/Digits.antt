-- Digits that count, as a test of the outer ones. Assumes nothing.
use Prim.Native.Nat.{ℕ, zero, suc, ◌-◌, ◌≤◌, ◌<◌, zero-le, suc-le-suc}
use mathlib.Core.Path.{◌≡◌, refl, sym, ap, ◌∙◌}
use mathlib.Core.Bool.{Bool, true, false, cond, ◌&&◌}
use mathlib.Core.List.{List, [], ◌∷◌}
use native.Mathlib.Nat.{zero-sub}
use native.Mathlib.Omega.{arith}
use native.Mathlib.Decide.{dec_lt}
use lib.ListN.{length, take, drop}
use lib.Seq.{drop-nil}
use lib.Dec.{leb, leb-zero, leb-suc-zero, leb-suc-suc}
use borrow.Author.Tests.{le-leb, lt-leb}
use Rattle.laws.specs.Tests.{and_both}
use Rattle.text.specs.Bytes.{all}
use Rattle.decimal.specs.Decimal.{is_zero, integer_digits, fraction_digits}

-- at most k digits of a fraction count: those from the k-th on are zeros
pub fraction_zeros : (f : List ℕ) (k : ℕ) → leb (fraction_digits f) k ≡ all is_zero (drop k f)
fraction_zeros [] k = leb-zero k ∙ ap (all is_zero) (sym (drop-nil k))
fraction_zeros (d ∷ f) zero = go (all is_zero (d ∷ f)) refl
  where
    go : (t : Bool) → all is_zero (d ∷ f) ≡ t → leb (cond t 0 (suc (fraction_digits f))) zero ≡ t
    go true e = refl
    go false e = leb-suc-zero (fraction_digits f)
fraction_zeros (d ∷ f) (suc k) = go (all is_zero (d ∷ f)) refl (fraction_zeros f k)
  where
    zeros-drop : (s : List ℕ) (j : ℕ) → all is_zero s ≡ true → all is_zero (drop j s) ≡ true
    zeros-drop s zero h = h
    zeros-drop [] (suc j) h = refl
    zeros-drop (x ∷ s) (suc j) h = zeros-drop s j (and_both (is_zero x) (all is_zero s) h).1

    go : (t : Bool) → all is_zero (d ∷ f) ≡ t → leb (fraction_digits f) k ≡ all is_zero (drop k f) → leb (cond t 0 (suc (fraction_digits f))) (suc k) ≡ all is_zero (drop k f)
    go true e h = leb-zero (suc k) ∙ sym (zeros-drop f k (and_both (is_zero d) (all is_zero f) e).1)
    go false e h = leb-suc-suc (fraction_digits f) k ∙ h

pub fraction_le : (f : List ℕ) → fraction_digits f ≤ length f
fraction_le [] = omega arith
fraction_le (d ∷ f) = go (all is_zero (d ∷ f)) (fraction_le f)
  where
    go : (t : Bool) → fraction_digits f ≤ length f → cond t 0 (suc (fraction_digits f)) ≤ suc (length f)
    go true h = zero-le
    go false h = suc-le-suc h

pub integer_le : (w : List ℕ) → integer_digits w ≤ length w
integer_le [] = omega arith
integer_le (d ∷ w) = go (is_zero d) (integer_le w)
  where
    go : (t : Bool) → integer_digits w ≤ length w → cond t (integer_digits w) (suc (length w)) ≤ suc (length w)
    go true h = omega arith
    go false h = omega arith

-- at most k digits of an integer part count: those before the last k are zeros
pub integer_zeros : (w : List ℕ) (k : ℕ) → leb (integer_digits w) k ≡ all is_zero (take (length w - k) w)
integer_zeros [] k = rw (zero-sub k) (leb-zero k)
integer_zeros (d ∷ w) k = elim (dec_lt (length w) k) [ yes l ↦ full l | no l ↦ part (omega arith) (integer_zeros w k) ]
  where
    full : length w < k → leb (integer_digits (d ∷ w)) k ≡ all is_zero (take (suc (length w) - k) (d ∷ w))
    full l =
        let e : suc (length w) - k ≡ 0 = omega arith in
        rw e (le-leb (integer_digits (d ∷ w)) k (omega (arith, integer_le (d ∷ w))))

    part : k ≤ length w → leb (integer_digits w) k ≡ all is_zero (take (length w - k) w) → leb (integer_digits (d ∷ w)) k ≡ all is_zero (take (suc (length w) - k) (d ∷ w))
    part l ih =
        let e : suc (length w) - k ≡ suc (length w - k) = omega arith in
        rw e (go (is_zero d))
      where
        go : (t : Bool) → leb (cond t (integer_digits w) (suc (length w))) k ≡ (t && all is_zero (take (length w - k) w))
        go true = ih
        go false = lt-leb (suc (length w)) k (omega arith)

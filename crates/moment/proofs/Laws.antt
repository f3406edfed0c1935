-- Laws of a value in full form: its twelve digits, and their numbers. Assumes nothing.
use Rattle.std.proofs.Common.{◌≡◌, ℕ, suc, ◌+◌, ◌-◌, ◌*◌, ◌<◌, ◌≤◌, true, List, length, get_or, take, eqb, eqb-true, arith, sym}
use Rattle.std.proofs.lemmas.List.{get_or-take, length-take-le}
use Rattle.std.proofs.Math.Seq.{drop-cons}
use native.Mathlib.Numerals.{add-one}
use Rattle.laws.specs.Tests.{and_both}
use Rattle.text.specs.Quoted.{ascii}
use Rattle.text.specs.Bytes.{ends}
use Rattle.text.specs.Digits.{all_digits}
use Rattle.text.proofs.Numbers.{all_drop, digit_at}
use Rattle.moment.specs.Moments.{is_dtm_303, is_full_form, number_at}

module _ (v : List ℕ) (h : is_full_form v ≡ true) where
  -- 15 bytes, and twelve digits in front
  shape : (length v ≡ 15) × (all_digits (take 12 v) ≡ true)
  unfolding is_full_form is_dtm_303
  shape =
      let f = and_both (is_dtm_303 v) (ends (ascii "+00") v) h in
      let d = and_both (eqb (length v) 15) (all_digits (take 12 v)) f.0 in
      (eqb-true (length v) 15 d.0, d.1)

  -- one of the digits
  digit : (i : ℕ) → i < 12 → (48 ≤ get_or v i 0) × (get_or v i 0 ≤ 57)
  digit i l =
      let n : length (take 12 v) ≡ 12 = length-take-le 12 v (omega (arith, shape)) in
      let d = digit_at (take 12 v) i (omega arith) (all_drop i (take 12 v) shape.1) in
      rw (sym (get_or-take 12 v i 0 l)) (d.0, d.1)

  -- two of the digits, and their number
  module _ (from : ℕ) (l : from ≤ 10) where
    pub inside : from + 1 < length v
    inside = omega (arith, shape)

    pub pair : (48 ≤ get_or v from 0) × (get_or v from 0 ≤ 57) × (48 ≤ get_or v (from + 1) 0) × (get_or v (from + 1) 0 ≤ 57)
    pair =
        let a = digit from (omega arith) in
        let b = digit (from + 1) (omega arith) in
        (a.0, a.1, b.0, b.1)

    pub pair_number : (get_or v from 0 - 48) * 10 + (get_or v (from + 1) 0 - 48) ≡ number_at from 2 v
    pair_number =
        let e : from + 1 ≡ suc from = add-one from in
        rw (e, drop-cons v from 0 (omega (arith, shape)), drop-cons v (suc from) 0 (omega (arith, shape))) (omega arith)

  -- four of them are two and two
  pub four : number_at 0 2 v * 100 + number_at 2 2 v ≡ number_at 0 4 v
  four = rw (drop-cons v 0 0 (omega (arith, shape)), drop-cons v 1 0 (omega (arith, shape)), drop-cons v 2 0 (omega (arith, shape)), drop-cons v 3 0 (omega (arith, shape))) (omega arith)

  -- a number of two digits, and one of four
  pub below_100 : (from : ℕ) → from ≤ 10 → number_at from 2 v < 100
  below_100 from l = omega (arith, pair from l, pair_number from l)

  pub below_10000 : number_at 0 4 v < 10000
  below_10000 = omega (arith, four, below_100 0 (omega arith), below_100 2 (omega arith))

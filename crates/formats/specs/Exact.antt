-- What the rules on numbers say of a value's exact value, by the laws of crate decimal. Assumes nothing.
use Rattle.std.specs.Prelude.{ℕ, ◌*◌, ◌^◌, ◌<◌, ◌≡◌, refl, ◌↔◌, Bool, true, false, ◌&&◌, List, eqb, length, Some, None}
use Rattle.std.specs.Int.{◌∣◌}
use Rattle.std.proofs.Common.{ap, ◌∙◌, subst, sym, mul-one, arith, eqb-true}
use Rattle.laws.specs.Tests.{and_both, and_intro}
use Rattle.text.specs.Digits.{all_digits, nat_of}
use Rattle.decimal.specs.Decimal.{is_number, is_integer, against, Exact, exact_of, orderℕ, order_of, signed}
use Rattle.decimal.proofs.Exact.{compared, not_compared, size_of, integer_number, fraction_number, integer_exact, fraction_exact, digits_number, digits_exact, whole_order}
use Rattle.formats.specs.declared.Relation.{Relation}
use Rattle.formats.specs.declared.Relation.TheVariants.{AtLeast, AtMost, GreaterThan, LessThan, Exactly, NotExactly}
use Rattle.formats.specs.Rules.{bound, whole_between, fraction_up_to, integer_up_to, hhmm_in, meets, passes}

-- the value stands in this relation to the integer of this size, below zero or not
abbrev pub stands : Relation → Exact → Bool → ℕ → Bool
stands o x below size = meets o (Some (order_of x (signed below size 0)))

-- what is no number stands in no relation
none_met : (o : Relation) → meets o None ≡ false
none_met AtLeast = refl
none_met AtMost = refl
none_met GreaterThan = refl
none_met LessThan = refl
none_met Exactly = refl
none_met NotExactly = refl

-- a bound: a number, and its exact value stands so to the bound
pub bound_exact : (o : Relation) (below : Bool) (size : ℕ) (v : List ℕ) → passes (bound o below size) v ≡ (is_number v && stands o (exact_of v) below size)
bound_exact o below size v = go (is_number v) refl
  where
    go : (t : Bool) → is_number v ≡ t → meets o (against v below size) ≡ (t && stands o (exact_of v) below size)
    go true e = ap (meets o) (compared v below size e)
    go false e = ap (meets o) (not_compared v below size e) ∙ none_met o

module _ (k : ℕ) (v : List ℕ) where
  -- at most k digits before the point: a number whose size is below 10 ^ k
  pub integer_up_to_exact : (passes (integer_up_to k) v ≡ true) ↔ ((is_number v ≡ true) × (size_of (exact_of v) < 10 ^ k * 10 ^ (exact_of v).places))
  integer_up_to_exact =
      (λ e. let h = integer_number v k e in (h, (integer_exact v k h).0 e), λ p. (integer_exact v k p.0).1 p.1)

  -- at most k digits after the point: a number that is whole when taken 10 ^ k times
  pub fraction_up_to_exact : (passes (fraction_up_to k) v ≡ true) ↔ ((is_number v ≡ true) × (10 ^ (exact_of v).places ∣ size_of (exact_of v) * 10 ^ k))
  fraction_up_to_exact =
      (λ e. let h = fraction_number v k e in (h, (fraction_exact v k h).0 e), λ p. (fraction_exact v k p.0).1 p.1)

-- a number that is whole and stands between low and high, both included
abbrev pub WholeWithin : ℕ → ℕ → List ℕ → Type 0
WholeWithin low high v =
    (is_number v ≡ true) × (10 ^ (exact_of v).places ∣ size_of (exact_of v)) × (stands AtLeast (exact_of v) false low ≡ true) × (stands AtMost (exact_of v) false high ≡ true)

-- a whole number from low to high: by the order of exact values, and whole
pub between_exact : (low high : ℕ) (v : List ℕ) → (passes (whole_between low high) v ≡ true) ↔ WholeWithin low high v
between_exact low high v = (there, back)
  where
    once : size_of (exact_of v) * 10 ^ 0 ≡ size_of (exact_of v)
    once = mul-one (size_of (exact_of v))

    there : passes (whole_between low high) v ≡ true → WholeWithin low high v
    there e =
        let a = and_both (passes (bound AtLeast false low) v) (passes (bound AtMost false high) v && is_integer v) e in
        let b = and_both (passes (bound AtMost false high) v) (is_integer v) a.1 in
        let f = (fraction_up_to_exact 0 v).0 b.1 in
        let l = and_both (is_number v) (stands AtLeast (exact_of v) false low) (sym (bound_exact AtLeast false low v) ∙ a.0) in
        let h = and_both (is_number v) (stands AtMost (exact_of v) false high) (sym (bound_exact AtMost false high v) ∙ b.0) in
        (f.0, subst (λ (n : ℕ). 10 ^ (exact_of v).places ∣ n) once f.1, l.1, h.1)

    back : WholeWithin low high v → passes (whole_between low high) v ≡ true
    back p =
        let w = (fraction_up_to_exact 0 v).1 (p.0, subst (λ (n : ℕ). 10 ^ (exact_of v).places ∣ n) (sym once) p.1) in
        let l = bound_exact AtLeast false low v ∙ and_intro (is_number v) (stands AtLeast (exact_of v) false low) p.0 p.2 in
        let h = bound_exact AtMost false high v ∙ and_intro (is_number v) (stands AtMost (exact_of v) false high) p.0 p.3 in
        and_intro (passes (bound AtLeast false low) v) (passes (bound AtMost false high) v && is_integer v) l
        (and_intro (passes (bound AtMost false high) v) (is_integer v) h w)

-- four digits: the number that they write stands so to the bound
pub hhmm_exact : (o : Relation) (n : ℕ) (v : List ℕ) → passes (hhmm_in o n) v ≡ (eqb (length v) 4 && (all_digits v && meets o (Some (orderℕ (nat_of v) n))))
hhmm_exact o n v = go (eqb (length v) 4) (all_digits v) refl refl
  where
    go : (x y : Bool) → eqb (length v) 4 ≡ x → all_digits v ≡ y → (x && (y && meets o (against v false n))) ≡ (x && (y && meets o (Some (orderℕ (nat_of v) n))))
    go false y e a = refl
    go true false e a = refl
    go true true e a =
        let h = digits_number v a (omega (arith, eqb-true (length v) 4 e)) in
        ap (meets o) (compared v false n h ∙ ap Some (ap (λ (x : Exact). order_of x (signed false n 0)) (digits_exact v a) ∙ whole_order (nat_of v) n))

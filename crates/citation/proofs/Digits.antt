-- The kind of a text that is a number. Assumes nothing.
use Prim.Native.Nat.{ℕ, suc}
use mathlib.Core.Path.{◌≡◌, refl, sym, ap, ◌∙◌}
use mathlib.Core.Bool.{Bool, true, false, cond, ◌&&◌}
use mathlib.Core.List.{List, [], ◌∷◌}
use native.Mathlib.Omega.{arith}
use lib.ListN.{length, drop}
use Rattle.std.specs.Prelude.{Some, None}
use lib.Dec.{eqb, ltb, leb}
use borrow.Author.Tests.{eqb-true, le-ltb}
use Rattle.laws.specs.Tests.{and_both}
use Rattle.text.specs.Bytes.{has}
use Rattle.text.specs.Digits.{all_digits, nat_of, digits_up_to, number_up_to}
use Rattle.text.proofs.Numbers.{not_front, place_none, not_in}
use Rattle.citation.specs.Kinds.{kind_of_number, kind_of_found, largest_number, kind_of}

-- where a number is found, every byte is a digit
digits_all : (most : ℕ) (d : List ℕ) (n : ℕ) → digits_up_to most d ≡ Some n → all_digits d ≡ true
digits_all most d n e = go (ltb 0 (length d) && (all_digits d && leb (nat_of d) most)) refl e
  where
    go : (t : Bool) → (ltb 0 (length d) && (all_digits d && leb (nat_of d) most)) ≡ t → cond t (Some (nat_of d)) None ≡ Some n → all_digits d ≡ true
    go true h f =
        let q = and_both (ltb 0 (length d)) (all_digits d && leb (nat_of d) most) h in
        (and_both (all_digits d) (leb (nat_of d) most) q.1).0
    go false h f = let q : ◌≡◌ {A = ℕ} 0 1 = cc in absurd (omega arith)

-- digits alone are the number that they write
pub digits_kind : (s : List ℕ) (n : ℕ) → digits_up_to largest_number s ≡ Some n → kind_of_number n ≡ kind_of s
unfolding kind_of number_up_to
digits_kind s n e =
    let a = digits_all largest_number s n e in
    rw (not_front 85 (66 ∷ []) refl s a, not_in 80 [] refl s a, not_front 43 [] refl s a) (sym (ap kind_of_found e))

-- a number after a `+` is the number that its digits write
plus_kind : (s : List ℕ) (n : ℕ) → digits_up_to largest_number s ≡ Some n → kind_of (43 ∷ s) ≡ kind_of_number n
unfolding kind_of number_up_to
plus_kind s n e =
    let a = digits_all largest_number s n e in
    let free : has (80 ∷ []) (43 ∷ s) ≡ false = ap (λ (x : ℕ). ltb (suc x) (suc (length s))) (place_none 80 [] refl s a) ∙ le-ltb (suc (length s)) (suc (length s)) (omega arith) in
    rw free (ap kind_of_found e)

-- a text that is a number, however it is spelt, has the number's kind
pub number_kind : (s : List ℕ) (n : ℕ) → number_up_to largest_number s ≡ Some n → kind_of s ≡ kind_of_number n
unfolding number_up_to
number_kind [] n e = sym (digits_kind [] n e)
number_kind (b ∷ s) n e = go (eqb b 43) refl e
  where
    go : (x : Bool) → eqb b 43 ≡ x → digits_up_to largest_number (drop (cond (x && true) 1 0) (b ∷ s)) ≡ Some n → kind_of (b ∷ s) ≡ kind_of_number n
    go true h f = ap (λ (c : ℕ). kind_of (c ∷ s)) (eqb-true b 43 h) ∙ plus_kind s n f
    go false h f = sym (digits_kind (b ∷ s) n f)

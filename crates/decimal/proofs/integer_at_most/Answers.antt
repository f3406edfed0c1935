use Prim.Native.Nat.{ℕ, ◌-◌}
use mathlib.Core.Path.{◌≡◌, sym, ap, ap₂, ◌∙◌}
use mathlib.Core.Bool.{true, false}
use mathlib.Core.List.{List}
use lib.ListN.{length, take}
use Rattle.text.specs.Bytes.{all}
use Rattle.decimal.specs.Decimal.{is_zero, integer_of, is_number, integer_at_most}
use Rattle.decimal.proofs.Digits.{integer_zeros}
use Rattle.decimal.proofs.integer_at_most.Goals as goal

pub returns-then-not-is_number : goal.returns-then-not-is_number
unfolding integer_at_most
returns-then-not-is_number c = let s = c.args.s.now in
    let e : is_number s ≡ false = sym c.is_number.ensures ∙ c.if-not-is_number.true in
    rw e

pub returns : goal.returns
unfolding integer_at_most
returns c = let s = c.args.s.now in
    let k = c.args.k in
    let e : is_number s ≡ true = sym c.is_number.ensures ∙ c.if-not-is_number.false in
    let f = ap₂ (λ (n : ℕ) (l : List ℕ). take n l) c.saturating_sub.ensures c.integer-w.ensures in
    let g = ap (λ (l : List ℕ). take (length l - k) (integer_of s)) c.integer-w.ensures in
    rw e (c.all_zeros.ensures ∙ ap (all is_zero) (c.head.ensures ∙ f ∙ g) ∙ sym (integer_zeros (integer_of s) k))

use Prim.Native.Nat.{◌*◌, ◌^◌}
use mathlib.Core.Path.{◌≡◌, sym, ap, ap₂, ◌∙◌}
use mathlib.Core.Bool.{Bool, true, false}
use mathlib.Core.List.{List, ◌++◌}
use Prim.Native.Nat.{ℕ}
use lib.ListN.{length}
use lib.Dec.{eqb}
use Rattle.std.specs.Prelude.{Some}
use Rattle.std.specs.declared.cmp.Ordering.{Ordering}
use Rattle.text.specs.Digits.{all_digits, nat_of}
use Rattle.decimal.specs.Decimal.{is_negative, integer_of, fraction_of, is_number, orderℕ, against}
use Rattle.decimal.specs.Signs.{by_sign}
use Rattle.decimal.proofs.Orders.{signs, number_digits}
use Rattle.decimal.proofs.compare.Goals as goal

pub returns-then-not-is_number : goal.returns-then-not-is_number
unfolding against
returns-then-not-is_number c = let s = c.args.s.now in
    let e : is_number s ≡ false = sym c.is_number.ensures ∙ c.if-not-is_number.true in
    rw e

pub size_order-order-requires : goal.size_order-order-requires
size_order-order-requires c = let s = c.args.s.now in
    let e : is_number s ≡ true = sym c.is_number.ensures ∙ c.if-not-is_number.false in
    let d = number_digits s e in
    (ap all_digits c.integer.ensures ∙ d.0, ap all_digits c.fraction.ensures ∙ d.1)

pub returns : goal.returns
unfolding against
returns c = let a = c.args in
    let s = a.s.now in
    let e : is_number s ≡ true = sym c.is_number.ensures ∙ c.if-not-is_number.false in
    let o = c.size_order-order.ensures ∙ ap₂ (λ (w f : List ℕ). orderℕ (nat_of (w ++ f)) (a.size * 10 ^ length f)) c.integer.ensures c.fraction.ensures in
    ap Some (
    c.by_sign.ensures
    ∙ ap₂ (λ (o : Ordering) (m : Bool). by_sign o m a.below (eqb a.size 0)) o c.is_negative.ensures
    ∙ sym (signs (nat_of (integer_of s ++ fraction_of s)) a.size (length (fraction_of s)) (is_negative s) a.below)
    )
    ∙ rw e

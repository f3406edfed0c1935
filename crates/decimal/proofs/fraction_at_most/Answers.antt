use Prim.Native.Nat.{ℕ}
use mathlib.Core.Path.{◌≡◌, sym, ap, ◌∙◌}
use mathlib.Core.Bool.{true, false}
use mathlib.Core.List.{List}
use lib.ListN.{drop}
use Rattle.text.specs.Bytes.{all}
use Rattle.decimal.specs.Decimal.{is_zero, fraction_of, is_number, fraction_at_most}
use Rattle.decimal.proofs.Digits.{fraction_zeros}
use Rattle.decimal.proofs.fraction_at_most.Goals as goal

pub returns-then-is_number : goal.returns-then-is_number
unfolding fraction_at_most
returns-then-is_number c = let s = c.args.s.now in
    let k = c.args.k in
    let e : is_number s ≡ true = sym c.is_number.ensures ∙ c.if-is_number.true in
    rw e (c.all_zeros.ensures ∙ ap (all is_zero) (c.tail.ensures ∙ ap (λ (l : List ℕ). drop k l) c.fraction.ensures) ∙ sym (fraction_zeros (fraction_of s) k))

pub returns-else-is_number : goal.returns-else-is_number
unfolding fraction_at_most
returns-else-is_number c = let s = c.args.s.now in
    let e : is_number s ≡ false = sym c.is_number.ensures ∙ c.if-is_number.false in
    rw (c.is_number.ensures, e)

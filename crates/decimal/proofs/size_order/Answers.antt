use native.Mathlib.Omega.{arith}
use mathlib.Core.Path.{◌≡◌, sym, ap, ◌∙◌}
use Rattle.std.specs.Ordering.{nat_cmp}
use Rattle.std.proofs.lemmas.Map.Lookups.{exact_unsigned}
use Rattle.decimal.proofs.Orders.{size_eq, size_more, size_differs}
use Rattle.decimal.proofs.size_order.Goals as goal

pub returns-in-Equal : goal.returns-in-Equal
returns-in-Equal c = let a = c.args in
    let e : c.capped.result ≡ c.from.result = exact_unsigned c.capped.result c.from.result (sym c.cmp.ensures ∙ c.in-Equal.is) in
    sym (size_eq a.w.now a.f.now a.size c.requires.1 (omega (arith, c.capped.ensures, c.from.ensures)) (sym c.all_zeros.ensures ∙ c.if-all_zeros.true))

pub returns-in-Equal-2 : goal.returns-in-Equal-2
returns-in-Equal-2 c = let a = c.args in
    let e : c.capped.result ≡ c.from.result = exact_unsigned c.capped.result c.from.result (sym c.cmp.ensures ∙ c.in-Equal.is) in
    sym (size_more a.w.now a.f.now a.size c.requires.1 (omega (arith, c.capped.ensures, c.from.ensures)) (sym c.all_zeros.ensures ∙ c.if-all_zeros.false))

pub returns-in_default : goal.returns-in_default
returns-in_default c = let a = c.args in
    let h : c.cmp.result ≡ nat_cmp c.capped.result a.size = c.cmp.ensures ∙ ap (nat_cmp c.capped.result) c.from.ensures in
    h
    ∙ size_differs a.w.now a.f.now a.size c.requires.1 4294967296 c.capped.result c.capped.ensures (omega (arith, c.ranges.size.fits)) (λ e. c.in_default.not-Equal (h ∙ e))

use Prim.Native.Nat.{ℕ}
use mathlib.Core.Path.{ap, ◌∙◌}
use lib.ListN.{drop}
use Rattle.text.specs.Digits.{digits_up_to, number_up_to}
use Rattle.text.proofs.number_up_to.Goals as goal

pub returns : goal.returns
unfolding number_up_to
returns c = let a = c.args in
    c.digits_up_to.ensures ∙ ap (digits_up_to a.most) (c.tail.ensures ∙ ap (λ (n : ℕ). drop n a.s.now) c.plus_width.ensures)

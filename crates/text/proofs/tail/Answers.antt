use Prim.Native.Nat.{ℕ, ◌-◌}
use mathlib.Core.Path.{ap, ◌∙◌}
use native.Mathlib.Nat.{le_of_eq}
use lib.ListN.{length, drop, length-drop}
use lib.Seq.{take_all}
use Rattle.text.proofs.Laws.{drop_capped}
use Rattle.text.proofs.tail.Goals as goal

pub returns : goal.returns
returns c = let a = c.args in
    let n = c.min.result in
    take_all (length a.s.now - n) (drop n a.s.now) (le_of_eq (length-drop n a.s.now))
    ∙ ap (λ (k : ℕ). drop k a.s.now) c.min.ensures
    ∙ drop_capped a.from a.s.now

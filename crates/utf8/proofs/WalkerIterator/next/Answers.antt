use native.Mathlib.Omega.{arith}
use mathlib.Core.Path.{sym, ◌∙◌}
use Rattle.utf8.proofs.Laws.{char_at}
use Rattle.utf8.proofs.WalkerIterator.next.Goals as goal

pub overflow_add-self : goal.overflow_add-self
overflow_add-self c = let it = c.args.self.now in omega (arith, (char_at it.text.now it.at _ _ (sym c.step_at.ensures ∙ c.in-Char.is)).3)

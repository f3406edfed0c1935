use Rattle.std.proofs.Common.{arith}
use mathlib.Core.Path.{sym, ◌∙◌}
use lib.ListN.{drop, length-drop}
use Rattle.utf8.proofs.Laws.{step_char}
use Rattle.walker.proofs.next_at.Goals as goal

pub overflow_add-result : goal.overflow_add-result
overflow_add-result c = let s = c.args.text.now in
    let at = c.args.at in
    let d = step_char (drop at s) _ _ (sym c.step_at.ensures ∙ c.in-Char.is) in
    omega (arith, d.2, d.3, length-drop at s)

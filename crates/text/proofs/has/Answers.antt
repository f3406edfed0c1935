use mathlib.Core.Path.{◌∙◌}
use Rattle.text.proofs.Laws.{position_some}
use Rattle.text.proofs.has.Goals as goal

pub returns : goal.returns
returns c = c.is_some.ensures ∙ rw c.position.ensures (position_some c.args.text.now c.args.s.now)

use mathlib.Core.Path.{◌∙◌}
use Rattle.text.proofs.Laws.{position_or}
use Rattle.text.proofs.find.Goals as goal

pub returns : goal.returns
returns c = c.unwrap_or.ensures ∙ rw c.position.ensures (position_or c.args.text.now c.args.s.now)

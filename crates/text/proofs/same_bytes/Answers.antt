use mathlib.Core.Path.{◌∙◌}
use Rattle.text.proofs.Laws.{equals_is_same}
use Rattle.text.proofs.same_bytes.Goals as goal

pub returns : goal.returns
returns c = c.eq.ensures ∙ equals_is_same c.args.text.now c.args.s.now

use mathlib.Core.Path.{◌∙◌}
use Rattle.text.proofs.Laws.{ends_is_ends}
use Rattle.text.proofs.ends_with.Goals as goal

pub returns : goal.returns
returns c = c.ends_with.ensures.value ∙ ends_is_ends c.args.text.now c.args.s.now

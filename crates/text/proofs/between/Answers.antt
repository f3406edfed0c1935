use mathlib.Core.Path.{ap, ◌∙◌}
use lib.ListN.{take}
use Rattle.text.proofs.between.Goals as goal

pub returns : goal.returns
returns c = c.head.ensures ∙ ap (take c.args.count) c.tail.ensures

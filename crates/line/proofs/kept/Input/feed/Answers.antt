use Rattle.std.proofs.Common.{arith}
use Rattle.std.proofs.lemmas.Grind.{common_steps}
use Rattle.line.specs.Input.{fed}
use Rattle.line.proofs.kept.Input.feed.Goals as goal

pub returns-then-self-lt3 : goal.returns-then-self-lt3
unfolding fed
returns-then-self-lt3 c = grind (arith, common_steps)

pub returns-else-self-lt3 : goal.returns-else-self-lt3
unfolding fed
returns-else-self-lt3 c = grind (arith, common_steps)

pub returns-in-0 : goal.returns-in-0
unfolding fed
returns-in-0 c = grind (arith, common_steps)

pub returns-in-1 : goal.returns-in-1
unfolding fed
returns-in-1 c = grind (arith, common_steps)

pub returns-in-2 : goal.returns-in-2
unfolding fed
returns-in-2 c = grind (arith, common_steps)

pub returns-in_default : goal.returns-in_default
unfolding fed
returns-in_default c = grind (arith, common_steps)

use native.Mathlib.Omega.{arith}
use Rattle.verdicts.proofs.Laws.{cites_most}
use Rattle.verdicts.proofs.verdicts_of.Goals as goal

pub judge_into-requires : goal.judge_into-requires
judge_into-requires c = record { truths = omega arith; numbers = omega arith }

pub judge_into-requires-2 : goal.judge_into-requires-2
judge_into-requires-2 c = let f = cites_most _ c.args.tree.tested in record { truths = omega (arith, f); numbers = omega (arith, f) }

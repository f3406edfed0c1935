use native.Mathlib.Omega.{arith}
use Rattle.verdicts.proofs.Laws.{cites_most}
use Rattle.verdicts.proofs.truth_of.Goals as goal

pub judge_tree-requires : goal.judge_tree-requires
judge_tree-requires c = record { truths = omega arith; numbers = omega arith }

pub judge_tree-requires-2 : goal.judge_tree-requires-2
judge_tree-requires-2 c = let f = cites_most _ c.args.tree.tested in record { truths = omega (arith, f); numbers = omega (arith, f) }

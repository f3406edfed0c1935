use native.Mathlib.Omega.{arith}
use Rattle.tree.proofs.Walks.{root}
use Rattle.verdicts.proofs.Laws.{tree_judged}
use Rattle.verdicts.proofs.judge_tree.Goals as goal

pub judge_cites-requires : goal.judge_cites-requires
judge_cites-requires c = c.requires.truths

pub judge_row-requires : goal.judge_row-requires
judge_row-requires c = ((root _ c.args.tree.tested).some, record { truths = omega (arith, c.requires.truths, c.judge_cites.auto.truths); numbers = c.requires.numbers }, omega arith)

pub returns : goal.returns
returns c = tree_judged _ _ c.args.tree.tested c.judge_cites.ensures c.judge_row.ensures

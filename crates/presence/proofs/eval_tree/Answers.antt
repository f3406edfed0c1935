use native.Mathlib.Omega.{arith}
use Rattle.presence.proofs.Answers.{few_rows}
use Rattle.presence.proofs.eval_tree.Goals as goal

pub eval_marked-requires-2 : goal.eval_marked-requires-2
eval_marked-requires-2 c = (c.requires, omega (arith, (few_rows _ c.args.tree.tested).0))

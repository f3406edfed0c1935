use Rattle.verdicts.specs.Judged.{CitesJudged}
use Rattle.verdicts.proofs.judge_cites.Given as goal

abbrev pub invariant-loop-n : goal.invariant-loop-n
invariant-loop-n l = CitesJudged l.value l.tree.bytes.now l.n l.truths

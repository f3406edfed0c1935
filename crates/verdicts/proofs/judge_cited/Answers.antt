use mathlib.Core.Path.{refl}
use Rattle.verdicts.proofs.Laws.{false_listed, other_passed}
use Rattle.verdicts.proofs.judge_cited.Goals as goal

pub returns-then-eq : goal.returns-then-eq
returns-then-eq c = false_listed c.args.truths.now refl c.eq.ensures c.if-eq.true c.put16-next.ensures

pub returns : goal.returns
returns c = other_passed c.args.truths.now refl c.eq.ensures c.if-eq.false

use native.Mathlib.Omega.{arith}
use Rattle.refusal.specs.declared.Refusal.TheVariants.{WrongAnswers}
use Rattle.fields.proofs.Appends as appends
use Rattle.line.specs.Lines.{answer_bytes}
use Rattle.line.proofs.Outcomes.{judged_refused, too_many}
use Rattle.line.proofs.answered_lines.Goals as goal

pub returns-then-answers-gt-CITATION_LIMIT : goal.returns-then-answers-gt-CITATION_LIMIT
returns-then-answers-gt-CITATION_LIMIT c = appends.same (judged_refused c.args.kind c.args.tree.bytes.now (answer_bytes c.args.answers.now) c.args.value.now WrongAnswers (too_many c.args.tree.bytes.now c.args.answers.now c.args.value.now c.args.tree.tested (omega arith))) c.refused_line.ensures

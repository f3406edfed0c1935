use native.Mathlib.Omega.{arith}
use Rattle.line.proofs.Outcomes.{report_short, report_done}
use Rattle.line.proofs.report.Goals as goal

pub returns-then-out-n : goal.returns-then-out-n
returns-then-out-n c = report_short c.args.status.now c.args.answers.now c.args.value.now c.args.out.now c.write_lines-n.ensures (omega arith)

pub returns : goal.returns
returns c = report_done c.args.status.now c.args.answers.now c.args.value.now c.args.out.now c.write_lines-n.ensures (omega arith) c.put_text.ensures

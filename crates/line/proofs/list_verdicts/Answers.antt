use Rattle.line.proofs.Outcomes.{verdicts_listed}
use Rattle.line.proofs.list_verdicts.Goals as goal

pub returns : goal.returns
returns c = verdicts_listed c.args.tree.bytes.now c.args.tree.tested c.args.scratch.now c.verdicts_of.new.list c.args.value.now c.verdicts_of.result c.requires c.verdicts_of.ensures.result_value c.verdicts_of.ensures.list_after _ c.unwrap_or.ensures

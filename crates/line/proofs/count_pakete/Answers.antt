use Rattle.std.proofs.Common.{ap, ◌∙◌}
use Rattle.std.specs.Result.{result_unwrap_or}
use Rattle.line.proofs.Outcomes.{rows_counted}
use Rattle.line.proofs.count_pakete.Goals as goal

pub returns : goal.returns
returns c = let r = rows_counted c.args.tree.bytes.now c.args.tree.tested c.args.scratch.now c.pakete.new.out c.pakete.result c.requires c.pakete.ensures.result_value c.pakete.ensures.out_after in r.1 _ (c.unwrap_or.ensures ∙ ap (λ x. result_unwrap_or x 0) r.0)

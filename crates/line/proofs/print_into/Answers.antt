use Rattle.std.proofs.Common.{ap, ◌∙◌}
use Rattle.std.specs.Result.{result_unwrap_or}
use Rattle.line.proofs.Outcomes.{printed_into}
use Rattle.line.proofs.print_into.Goals as goal

pub returns : goal.returns
returns c = let r = printed_into c.args.tree.bytes.now c.args.tree.tested c.args.scratch.now c.display.new.out c.display.result c.requires c.display.ensures.result_value c.display.ensures.out_after in r.1 _ (c.unwrap_or.ensures ∙ ap (λ x. result_unwrap_or x 0) r.0)

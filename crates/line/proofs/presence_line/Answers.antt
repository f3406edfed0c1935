use Rattle.line.specs.Sizes.{longest_truth}
use Rattle.line.proofs.Texts.{line_names, lined}
use Rattle.line.proofs.presence_line.Goals as goal

pub returns : goal.returns
returns c = lined "presence " longest_truth line_names.1.1.0 c.put_text-from.ensures c.put_truth-end.ensures c.put_byte.ensures

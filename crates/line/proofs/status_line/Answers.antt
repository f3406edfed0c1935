use Rattle.line.specs.Sizes.{longest_word}
use Rattle.line.proofs.Texts.{line_names, lined}
use Rattle.line.proofs.status_line.Goals as goal

pub returns : goal.returns
returns c = lined "status " longest_word line_names.0 c.put_text-from.ensures c.put_word-end.ensures c.put_byte.ensures

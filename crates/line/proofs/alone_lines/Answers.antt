use Rattle.line.proofs.Texts.{four_lines, alone_written}
use Rattle.line.proofs.alone_lines.Goals as goal

pub returns : goal.returns
returns c = alone_written _ four_lines c.status_line-from.ensures c.put_text.ensures

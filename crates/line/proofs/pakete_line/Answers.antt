use Rattle.line.specs.Sizes.{longest_number}
use Rattle.line.proofs.Texts.{line_names, same-figures, lined}
use Rattle.line.proofs.pakete_line.Goals as goal

pub returns : goal.returns
returns c = lined "pakete " longest_number line_names.1.1.1.0 c.put_text-from.ensures (same-figures _ _ c.count_pakete-n.ensures.1 c.put_number-end.ensures) c.put_byte.ensures

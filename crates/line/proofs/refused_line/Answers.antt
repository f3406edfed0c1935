use mathlib.Core.Path.{◌∙◌}
use Rattle.line.specs.Sizes.{longest_number}
use Rattle.line.proofs.Texts.{line_names, same-figures, lined}
use Rattle.line.proofs.refused_line.Goals as goal

pub returns : goal.returns
returns c = (lined "refused " longest_number line_names.1.1.1.1.1 c.put_text-from.ensures (same-figures _ _ (c.from-number.ensures ∙ c.from.ensures) c.put_number-end.ensures) c.put_byte.ensures).written

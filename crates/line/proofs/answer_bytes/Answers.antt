use mathlib.Core.Path.{◌∙◌}
use Rattle.line.specs.Lines.{answer_byte}
use Rattle.line.proofs.Texts.{answers_mapped}
use Rattle.line.proofs.answer_bytes.Goals as goal

pub returns : goal.returns
returns c = c.map_into.ensures.front answer_byte (λ item b e. e) ∙ answers_mapped c.args.answers.now

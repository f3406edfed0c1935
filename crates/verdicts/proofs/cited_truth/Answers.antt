use mathlib.Core.Path.{◌∙◌, ap}
use Rattle.formats.specs.Answers.{verdict_truth}
use Rattle.verdicts.proofs.Laws.{cited_true, cited_judged}
use Rattle.verdicts.proofs.cited_truth.Goals as goal

pub returns-in-Format : goal.returns-in-Format
returns-in-Format c = cited_judged _ _ _ c.in-Format.is c.of_text.ensures (c.from.ensures ∙ ap verdict_truth c.verdict_on.ensures)

pub returns-in_default : goal.returns-in_default
returns-in_default c = cited_true _ _ _ c.in_default.not-Format c.in_default.not-Zeitpunkt c.of_text.ensures

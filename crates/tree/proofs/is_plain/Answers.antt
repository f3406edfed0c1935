use mathlib.Core.Path.{sym, ◌∙◌}
use mathlib.Core.Bool.{true, false}
use Rattle.tree.proofs.Plain.{plain_tested}
use Rattle.tree.proofs.is_plain.Goals as goal

pub returns-then-is_ascii_graphic : goal.returns-then-is_ascii_graphic
returns-then-is_ascii_graphic c = plain_tested _ true (sym c.is_ascii_graphic.ensures.value ∙ c.if-is_ascii_graphic.true)

pub returns-else-is_ascii_graphic : goal.returns-else-is_ascii_graphic
returns-else-is_ascii_graphic c = c.if-is_ascii_graphic.false ∙ plain_tested _ false (sym c.is_ascii_graphic.ensures.value ∙ c.if-is_ascii_graphic.false)

use mathlib.Core.Bool.{not}
use mathlib.Core.Path.{ap, ◌∙◌}
use Rattle.tree.proofs.Plain.{plain_citable}
use Rattle.tree.proofs.text_ok.Goals as goal

pub returns-then-plain : goal.returns-then-plain
returns-then-plain c = let a = c.args in ap not c.is_empty.ensures ∙ plain_citable a.plain a.text.now c.if-plain.true c.requires

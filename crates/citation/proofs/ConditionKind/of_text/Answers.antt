use mathlib.Core.Path.{sym, ◌∙◌}
use Rattle.citation.proofs.Digits.{digits_kind}
use Rattle.citation.proofs.ConditionKind.of_text.Goals as goal

pub returns-in-Some : goal.returns-in-Some
returns-in-Some c = c.from.ensures ∙ digits_kind _ _ (sym c.digits_of.ensures ∙ c.in-Some.is)

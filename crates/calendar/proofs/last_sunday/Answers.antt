use mathlib.Core.Path.{◌∙◌}
use native.Mathlib.Omega.{arith}
use Rattle.calendar.specs.Period.{last_sunday_400}
use Rattle.calendar.proofs.last_sunday.Goals as goal

pub returns : goal.returns
returns c = c.from.ensures ∙ c.last_sunday_in_period.ensures ∙ last_sunday_400 _ c.args.year _ (omega arith)

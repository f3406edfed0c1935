use native.Mathlib.Omega.{arith}
use Rattle.calendar.specs.Calendar.{last_sunday}
use Rattle.calendar.proofs.Laws.{year_weeks}
use Rattle.calendar.proofs.last_sunday_in_period.Goals as goal

pub returns : goal.returns
unfolding last_sunday
returns c = omega (arith, c.before_month.ensures, year_weeks c.args.year c.requires)

use native.Mathlib.Omega.{arith}
use Rattle.calendar.proofs.Laws.{sunday}
use Rattle.calendar.proofs.is_mesz.Goals as goal

pub moment-requires : goal.moment-requires
moment-requires c = omega (arith, c.last_sunday.ensures, (sunday c.args.year 3).2)

pub moment-requires-then-moment-at : goal.moment-requires-then-moment-at
moment-requires-then-moment-at c = omega (arith, c.last_sunday-then-moment-at.ensures, (sunday c.args.year 10).2)

use mathlib.Core.Path.{◌≡◌}
use lib.ListN.{drop}
use Rattle.fields.proofs.Mapped.{Mapped}
use Rattle.fields.proofs.map_into.Given as goal

abbrev pub invariant-loop-i : goal.invariant-loop-i
invariant-loop-i g l = (drop l.i l.out ≡ drop l.i l.initial.out) × ((of : g.row.A.Denot → g.row.B.Denot) → ((item : g.row.A.Denot) → (b : g.row.B.Denot) → g.F.Fn.post l.made (item, tt) b → b ≡ of item) → Mapped of l.items l.out l.i)

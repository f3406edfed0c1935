use Prim.Native.Nat.{◌+◌, ◌-◌, ◌*◌, ◌≤◌}
use mathlib.Core.Path.{◌≡◌}
use lib.ListN.{length}
use Rattle.grammar.specs.Bytes.{cite_size, cites_ok}
use Rattle.tree.proofs.cites_ok.Given as goal

abbrev pub invariant-loop-i : goal.invariant-loop-i
invariant-loop-i l = (l.p ≤ length l.tree) × (cites_ok l.tree (l.c - l.i) (l.from + cite_size * l.i) l.p ≡ cites_ok l.tree l.c l.from l.base) × (l.base ≤ l.p)

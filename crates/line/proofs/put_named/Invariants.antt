use Prim.Native.Nat.{◌-◌, ◌*◌}
use Rattle.line.proofs.Named.{Going}
use Rattle.line.proofs.put_named.Given as goal

abbrev pub invariant-loop-k : goal.invariant-loop-k
invariant-loop-k l = Going l.tree.bytes.now l.list l.count l.at l.initial.out l.out (l.count - l.k) (2 * l.k) l.w

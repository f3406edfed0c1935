use Rattle.packages.proofs.Laws.{Going}
use Rattle.packages.proofs.put_rows.Given as goal

abbrev pub invariant-loop-n : goal.invariant-loop-n
invariant-loop-n l = Going l.tree.bytes.now l.initial.out l.out l.n l.w

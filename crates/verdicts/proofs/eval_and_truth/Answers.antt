use Rattle.std.proofs.lemmas.Result.{err_from_is_err_and}
use Rattle.verdicts.proofs.Laws.{both-no-tree, both_refused, both_done}
use Rattle.verdicts.proofs.eval_and_truth.Goals as goal

pub returns-in_err-tree : goal.returns-in_err-tree
returns-in_err-tree c = let p = err_from_is_err_and c.from_residual.result c.from_residual.ensures.1 in
    let e = c.in_err-tree.ensures in rw (p.1, p.2, e.0) (both-no-tree _ _ _ e.1)

pub returns-in_err-found : goal.returns-in_err-found
returns-in_err-found c = let p = err_from_is_err_and c.from_residual-in_err-found.result c.from_residual-in_err-found.ensures.1 in
    rw (p.1, p.2, ← c.in_ok-tree.ensures) (both_refused _ _ _ c.in_ok-tree.tree.tested _ c.eval_admitted.ensures _ c.in_err-found.was)

pub returns : goal.returns
returns c = rw (← c.in_ok-tree.ensures) (both_done _ _ _ c.in_ok-tree.tree.tested _ c.eval_admitted.ensures _ _ c.in_ok-found.was c.truth_of.ensures)

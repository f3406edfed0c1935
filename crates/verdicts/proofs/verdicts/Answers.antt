use Rattle.std.proofs.lemmas.Result.{err_from_is_err_and}
use Rattle.utf8.specs.Limits.{value_limit}
use Rattle.utf8.proofs.Limits.{admitted_fine, admitted_refused}
use Rattle.verdicts.proofs.Laws.{verdicts-no-tree, verdicts_turned, verdicts_done}
use Rattle.verdicts.proofs.verdicts.Goals as goal

pub returns-in_err-tree : goal.returns-in_err-tree
returns-in_err-tree c = let p = err_from_is_err_and c.from_residual.result c.from_residual.ensures.1 in
    let e = c.in_err-tree.ensures in rw (p.1, p.2, e.0) (verdicts-no-tree _ _ _ e.1)

pub returns-in_err-admit : goal.returns-in_err-admit
returns-in_err-admit c = let p = err_from_is_err_and c.from_residual-in_err-admit.result c.from_residual-in_err-admit.ensures.1 in
    let d = verdicts_turned _ _ c.in_ok-tree.tree.tested c.args.list.now _ (λ r. admitted_refused value_limit c.args.value.now c.admit.ensures c.in_err-admit.was r) in
    rw (← c.in_ok-tree.ensures) record { result_value = rw (p.1, p.2) d.result_value; list_after = d.list_after }

pub returns : goal.returns
returns c =
    let is = verdicts_done c.in_ok-tree.tree.bytes.now c.args.value.now c.in_ok-tree.tree.tested (λ r. admitted_fine value_limit c.args.value.now c.admit.ensures c.in_ok-admit.was r) in
    rw (← c.in_ok-tree.ensures, ← is) record { result_value = c.verdicts_of.ensures.result_value; list_after = c.verdicts_of.ensures.list_after }

use mathlib.Core.Path.{sym, ◌∙◌}
use Rattle.std.proofs.lemmas.Result.{err_from_is_err_and}
use Rattle.utf8.specs.Limits.{value_limit}
use Rattle.utf8.proofs.Limits.{admitted_fine, admitted_refused}
use Rattle.verdicts.proofs.Laws.{presence_unfit}
use Rattle.verdicts.proofs.eval_admitted.Goals as goal

pub returns-then-not-answers_fit : goal.returns-then-not-answers_fit
returns-then-not-answers_fit c = presence_unfit _ _ _ (sym c.answers_fit.ensures ∙ c.if-not-answers_fit.true)

pub returns-in_err-admit : goal.returns-in_err-admit
returns-in_err-admit c = let p = err_from_is_err_and c.from_residual.result c.from_residual.ensures.1 in
    rw (p.1, p.2, sym c.answers_fit.ensures ∙ c.if-not-answers_fit.false) (sym (admitted_refused value_limit c.args.value.now c.admit.ensures c.in_err-admit.was _))

pub returns : goal.returns
returns c = rw (sym c.answers_fit.ensures ∙ c.if-not-answers_fit.false) (c.eval_tree.ensures ∙ sym (admitted_fine value_limit c.args.value.now c.admit.ensures c.in_ok-admit.was _))

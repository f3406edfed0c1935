use mathlib.Core.Path.{sym, ap, ◌∙◌}
use Rattle.std.proofs.lemmas.Result.{err_from_is_err_and}
use Rattle.semantics.specs.Answers.{eval_answer}
use Rattle.presence.proofs.Answers.{eval-no-tree, eval-unfit, eval-fit}
use Rattle.presence.proofs.eval.Goals as goal

pub returns-in_err-tree : goal.returns-in_err-tree
returns-in_err-tree c = let p = err_from_is_err_and c.from_residual.result c.from_residual.ensures.1 in
    let e = c.in_err-tree.ensures in rw (p.1, p.2, e.0) (eval-no-tree _ _ e.1)

pub returns-then-not-answers_fit : goal.returns-then-not-answers_fit
returns-then-not-answers_fit c = let t = c.in_ok-tree.tree in
    eval-unfit _ _ t.tested (sym c.answers_fit.ensures ∙ c.if-not-answers_fit.true) ∙ ap (λ b. eval_answer b c.args.answers.now) c.in_ok-tree.ensures

pub returns : goal.returns
returns c = let t = c.in_ok-tree.tree in
    c.eval_tree.ensures ∙ eval-fit _ _ t.tested (sym c.answers_fit.ensures ∙ c.if-not-answers_fit.false) ∙ ap (λ b. eval_answer b c.args.answers.now) c.in_ok-tree.ensures

use Rattle.std.specs.Prelude.{Ok}
use mathlib.Core.Path.{sym, ap, ◌∙◌}
use Rattle.std.proofs.lemmas.Result.{err_from_is_err_and}
use Rattle.utf8.specs.Limits.{text_limit}
use Rattle.utf8.proofs.Limits.{admitted_fine, admitted_refused}
use Rattle.citation.proofs.ConditionKind.of.Goals as goal

pub returns-in_err-admit : goal.returns-in_err-admit
returns-in_err-admit c = let p = err_from_is_err_and c.from_residual.result c.from_residual.ensures.1 in
    rw (p.1, p.2) (sym (admitted_refused text_limit c.args.text.now c.admit.ensures c.in_err-admit.was _))

pub returns : goal.returns
returns c = ap Ok c.of_text.ensures ∙ sym (admitted_fine text_limit c.args.text.now c.admit.ensures c.in_ok-admit.was _)

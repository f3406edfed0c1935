use Rattle.std.specs.Prelude.{Ok}
use mathlib.Core.Path.{sym, ap, ◌∙◌}
use Rattle.std.proofs.lemmas.Result.{err_from_is_err_and}
use Rattle.utf8.specs.Limits.{text_limit, value_limit}
use Rattle.utf8.proofs.Limits.{admitted_fine, admitted_refused}
use Rattle.formats.proofs.evaluate.Goals as goal

pub returns-in_err-admit : goal.returns-in_err-admit
returns-in_err-admit c = let p = err_from_is_err_and c.from_residual.result c.from_residual.ensures.1 in
    rw (p.1, p.2) (sym (admitted_refused text_limit c.args.text.now c.admit.ensures c.in_err-admit.was _))

pub returns-in_err-admit-2 : goal.returns-in_err-admit-2
returns-in_err-admit-2 c = let p = err_from_is_err_and c.from_residual-in_err-admit-2.result c.from_residual-in_err-admit-2.ensures.1 in
    rw (p.1, p.2) (sym (admitted_fine text_limit c.args.text.now c.admit.ensures c.in_ok-admit.was _ ∙ admitted_refused value_limit c.args.value.now c.admit-2.ensures c.in_err-admit-2.was _))

pub returns : goal.returns
returns c = ap Ok c.verdict_on.ensures ∙ sym (admitted_fine text_limit c.args.text.now c.admit.ensures c.in_ok-admit.was _ ∙ admitted_fine value_limit c.args.value.now c.admit-2.ensures c.in_ok-admit-2.was _)

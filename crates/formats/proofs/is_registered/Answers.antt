use mathlib.Core.Path.{◌≡◌, refl, sym, ap, ◌∙◌}
use mathlib.Core.Bool.{not}
use mathlib.Core.List.{[]}
use denote.Enum.Bare.{sameb}
use Rattle.std.specs.Prelude.{Ok}
use Rattle.std.proofs.lemmas.Result.{err_from_is_err_and}
use Rattle.utf8.specs.Limits.{text_limit}
use Rattle.utf8.proofs.Limits.{admitted_fine, admitted_refused}
use Rattle.formats.specs.contracts.FormatVerdict.{the_type}
use Rattle.formats.specs.declared.FormatVerdict.{FormatVerdict}
use Rattle.formats.specs.declared.FormatVerdict.TheVariants.{Holds, Violated, Unregistered}
use Rattle.formats.specs.Answers.{is_verdict}
use Rattle.formats.proofs.Laws.{verdict_registered}
use Rattle.formats.proofs.is_registered.Goals as goal

differs : (v : FormatVerdict) → not (sameb the_type v Unregistered) ≡ is_verdict v
differs Holds = refl
differs Violated = refl
differs Unregistered = refl

pub returns-in_err-admit : goal.returns-in_err-admit
returns-in_err-admit c = let p = err_from_is_err_and c.from_residual.result c.from_residual.ensures.1 in
    rw (p.1, p.2) (sym (admitted_refused text_limit c.args.text.now c.admit.ensures c.in_err-admit.was _))

pub returns : goal.returns
returns c =
    ap Ok (c.ne.ensures ∙ differs c.verdict_on.result ∙ ap is_verdict c.verdict_on.ensures ∙ verdict_registered c.args.text.now [])
    ∙ sym (admitted_fine text_limit c.args.text.now c.admit.ensures c.in_ok-admit.was _)

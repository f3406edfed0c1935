use mathlib.Core.Path.{sym, ap, subst, ◌∙◌}
use Rattle.std.proofs.Common.{rules, arith}
use Rattle.refusal.specs.Known.{Among}
use Rattle.ahb.specs.Numbers.{accepted_from, judged_number, verdicts_number}
use Rattle.ahb.specs.Sizes.{CountFew, verdicts-among}
use Rattle.ahb.proofs.Laws.{answered, accepted_among}
use Rattle.ahb.proofs.ahb_verdicts.Goals as goal

pub answer_number-requires : goal.answer_number-requires
answer_number-requires c = λ x e p q u.
    let k = accepted_among CountFew c.verdicts.result (subst (λ r. Among CountFew r) (sym c.verdicts.ensures.result_value) (verdicts-among _ _ _)) x e in
    omega (arith, k)

pub returns : goal.returns
returns c =
    let n = answered accepted_from judged_number _ c.answer_number.result c.verdicts.result (λ x k. search rules) c.answer_number.ensures in
    record { value = n ∙ ap verdicts_number c.verdicts.ensures.result_value; list_after = c.verdicts.ensures.list_after }

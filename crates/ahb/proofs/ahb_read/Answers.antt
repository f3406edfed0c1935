use mathlib.Core.Path.{sym, subst}
use Rattle.std.proofs.Common.{rules, arith}
use Rattle.refusal.specs.Known.{Among}
use Rattle.ahb.specs.Numbers.{accepted_from, expression_number, status_number}
use Rattle.ahb.specs.Sizes.{Short, ShortStatus, parse-among, status_among}
use Rattle.ahb.proofs.Laws.{answered, accepted_among, read-expression, read_status}
use Rattle.ahb.proofs.ahb_read.Goals as goal

pub answer_number-requires : goal.answer_number-requires
answer_number-requires c = λ x e p q u.
    let k = accepted_among Short c.parse.result (subst (λ r. Among Short r) (sym c.parse.ensures.result_value) (parse-among _ _)) x e in
    omega (arith, k)

pub returns-then-mode-eq-EXPRESSION_MODE : goal.returns-then-mode-eq-EXPRESSION_MODE
returns-then-mode-eq-EXPRESSION_MODE c =
    let n = answered accepted_from expression_number _ c.answer_number.result c.parse.result (λ x k. search rules) c.answer_number.ensures in
    read-expression _ _ _ _ _ _ c.if-mode-eq-EXPRESSION_MODE.true n c.parse.ensures.result_value c.parse.ensures.out_after

pub answer_number-requires-2 : goal.answer_number-requires-2
answer_number-requires-2 c = λ x e p q.
    accepted_among ShortStatus c.parse-2.result (subst (λ r. Among ShortStatus r) (sym c.parse-2.ensures.result_value) (status_among _ _)) x e

pub returns : goal.returns
returns c =
    let n = answered accepted_from status_number _ c.answer_number-2.result c.parse-2.result (λ x k. search rules) c.answer_number-2.ensures in
    read_status _ _ _ _ _ _ c.if-mode-eq-EXPRESSION_MODE.false n c.parse-2.ensures.result_value c.parse-2.ensures.out_after

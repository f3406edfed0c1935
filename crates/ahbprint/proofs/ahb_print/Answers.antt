use mathlib.Core.Path.{sym, ap, ◌∙◌, subst}
use Rattle.std.proofs.Common.{rules, arith}
use Rattle.refusal.specs.Known.{Among}
use Rattle.ahb.specs.Numbers.{accepted_from}
use Rattle.ahb.proofs.Laws.{answered, accepted_among}
use Rattle.ahbprint.specs.Numbers.{print_number}
use Rattle.ahbprint.specs.Sizes.{Printable, print_among}
use Rattle.ahbprint.proofs.ahb_print.Goals as goal

pub answer_number-requires : goal.answer_number-requires
answer_number-requires c = λ x e p q.
    let k = accepted_among Printable c.display.result (subst (λ r. Among Printable r) (sym c.display.ensures.result_value) (print_among _ _)) x e in
    omega (arith, k)

pub returns : goal.returns
returns c = record {
  value = answered accepted_from (λ n. n) _ c.answer_number.result c.display.result (λ x k. search rules) c.answer_number.ensures ∙ ap (λ x. print_number x) c.display.ensures.result_value;
  out_after = c.display.ensures.out_after;
}

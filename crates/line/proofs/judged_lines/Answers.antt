use mathlib.Core.Path.{refl, sym}
use Rattle.fields.proofs.Appends as appends
use Rattle.verdicts.proofs.Laws.{both_refused, both_done}
use Rattle.line.proofs.Outcomes.{judged_refused, judged_done}
use Rattle.line.proofs.judged_lines.Goals as goal

pub returns-in-Err : goal.returns-in-Err
returns-in-Err c = appends.same (judged_refused c.args.kind c.args.tree.bytes.now c.args.codes.now c.args.value.now c.in-Err.why (sym (both_refused _ _ _ c.args.tree.tested _ c.eval_admitted.ensures _ c.in-Err.is))) c.refused_line.ensures

pub returns-in-Ok : goal.returns-in-Ok
returns-in-Ok c = appends.same (judged_done c.args.kind c.args.tree.bytes.now c.args.codes.now c.args.value.now c.in-Ok.presence _ (sym (both_done _ _ _ c.args.tree.tested _ c.eval_admitted.ensures _ _ c.in-Ok.is refl))) c.tree_lines.ensures

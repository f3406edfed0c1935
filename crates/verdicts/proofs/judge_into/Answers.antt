use mathlib.Core.Path.{sym}
use native.Mathlib.Omega.{arith}
use lib.Seq.{length-take-le}
use Rattle.verdicts.proofs.Laws.{list_fits, verdicts_short, verdicts_written}
use Rattle.verdicts.proofs.judge_into.Goals as goal

pub returns-then-list-judged : goal.returns-then-list-judged
returns-then-list-judged c = verdicts_short _ _ c.args.tree.tested c.judge_tree-judged.ensures _ (omega arith)

pub slice_bounds-put_text-end : goal.slice_bounds-put_text-end
slice_bounds-put_text-end c = let f = list_fits _ _ c.args.tree.tested c.judge_tree-judged.ensures c.judge_tree-judged.auto.list c.requires.numbers in omega (arith, f)

pub slice_bounds-put_text-end-2 : goal.slice_bounds-put_text-end-2
slice_bounds-put_text-end-2 c = let f = list_fits _ _ c.args.tree.tested c.judge_tree-judged.ensures c.judge_tree-judged.auto.list c.requires.numbers in sym (length-take-le _ _ (omega (arith, f)))

pub returns : goal.returns
returns c = verdicts_written _ _ c.args.tree.tested c.judge_tree-judged.ensures _ (omega arith) c.put_text.ensures

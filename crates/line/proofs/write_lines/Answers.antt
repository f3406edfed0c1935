use mathlib.Core.Path.{sym}
use lib.Seq.{length-take-le}
use Rattle.fields.proofs.Appends as appends
use Rattle.line.proofs.Outcomes.{status_refused, status_alone, status_tree}
use Rattle.line.proofs.write_lines.Goals as goal

pub slice_bounds-tree-end : goal.slice_bounds-tree-end
slice_bounds-tree-end c = (status_tree c.args.status.now c.args.answers.now c.args.value.now c.args.tree.now c.parse.new.out c.parse.result c.requires.0 c.parse.ensures.result_value c.parse.ensures.out_after c.in-Ok-default-Some.kind c.in-Ok-default-Some.length (cc)).inside

pub slice_bounds-tree-end-in-Ok-default-Some : goal.slice_bounds-tree-end-in-Ok-default-Some
slice_bounds-tree-end-in-Ok-default-Some c = sym (length-take-le _ _ (status_tree c.args.status.now c.args.answers.now c.args.value.now c.args.tree.now c.parse.new.out c.parse.result c.requires.0 c.parse.ensures.result_value c.parse.ensures.out_after c.in-Ok-default-Some.kind c.in-Ok-default-Some.length (cc)).inside)

pub invariant_of-tree : goal.invariant_of-tree
invariant_of-tree c = record { tested = (status_tree c.args.status.now c.args.answers.now c.args.value.now c.args.tree.now c.parse.new.out c.parse.result c.requires.0 c.parse.ensures.result_value c.parse.ensures.out_after c.in-Ok-default-Some.kind c.in-Ok-default-Some.length (cc)).tree }

pub returns-in-Err : goal.returns-in-Err
returns-in-Err c = appends.same (status_refused c.args.status.now c.args.answers.now c.args.value.now c.args.tree.now c.parse.new.out c.parse.result c.requires.0 c.parse.ensures.result_value c.parse.ensures.out_after c.in-Err.why c.in-Err.is) c.refused_line.ensures

pub returns-in-Ok-default-None : goal.returns-in-Ok-default-None
returns-in-Ok-default-None c = appends.same (status_alone c.args.status.now c.args.answers.now c.args.value.now c.args.tree.now c.parse.new.out c.parse.result c.requires.0 c.parse.ensures.result_value c.parse.ensures.out_after c.in-Ok-default-None.kind (cc)) c.alone_lines.ensures

pub returns-in-Ok-default-Some : goal.returns-in-Ok-default-Some
returns-in-Ok-default-Some c = appends.same (status_tree c.args.status.now c.args.answers.now c.args.value.now c.args.tree.now c.parse.new.out c.parse.result c.requires.0 c.parse.ensures.result_value c.parse.ensures.out_after c.in-Ok-default-Some.kind c.in-Ok-default-Some.length (cc)).says c.answered_lines.ensures

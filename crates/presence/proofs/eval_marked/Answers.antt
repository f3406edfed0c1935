use mathlib.Core.Path.{sym, ◌∙◌}
use mathlib.Core.Bool.{false≢true}
use Rattle.presence.specs.Marks.{Ready}
use Rattle.presence.proofs.Answers.{few_rows, fit-long, whole-presence}
use Rattle.presence.proofs.eval_marked.Goals as goal
use Rattle.presence.proofs.eval_marked.Goals.{then-has_choice, else-has_choice}

ready : (c : goal.Joined-has_choice) → Ready c.args.tree.bytes.now c.if-has_choice.marks
ready c =
    elim c.if-has_choice.branch [
      | then-has_choice w ↦ rw w.marks-is record { room = w.mark_rows.ensures.room; marked = λ _. w.mark_rows.ensures }
      | else-has_choice w ↦ rw w.marks-is record { room = c.requires.1; marked = λ q. absurd (false≢true (sym (sym c.has_choice.ensures ∙ w.if-has_choice.false) ∙ q)) }
    ]

pub invariant_of-evaluation : goal.invariant_of-evaluation
invariant_of-evaluation c = record { answered = fit-long _ _ c.args.tree.tested c.requires.0; ready = ready c }

pub subtree-requires : goal.subtree-requires
subtree-requires c = (few_rows _ c.args.tree.tested).1

pub returns : goal.returns
returns c = c.subtree.ensures ∙ whole-presence _ c.args.answers.now c.args.tree.tested

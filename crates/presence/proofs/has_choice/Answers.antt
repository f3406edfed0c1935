use native.Mathlib.Omega.{arith}
use mathlib.Core.Path.{sym, ◌∙◌}
use Rattle.presence.proofs.Walks.{among_none, among_pass, among_met}
use Rattle.presence.proofs.has_choice.Goals as goal

pub loop-row-init : goal.loop-row-init
loop-row-init c = among_none _ _ (omega arith)

pub returns-then-is_choice : goal.returns-then-is_choice
returns-then-is_choice c = sym (among_met _ _ _ _ (omega (arith, c.node_count-row-end.ensures.0)) c.kind_at.ensures (sym c.is_choice.ensures ∙ c.if-is_choice.true))

pub loop-row-preserved : goal.loop-row-preserved
loop-row-preserved c = sym (among_pass _ _ _ _ (omega arith) c.kind_at.ensures (sym c.is_choice.ensures ∙ c.if-is_choice.false)) ∙ c.loop-row.invariant

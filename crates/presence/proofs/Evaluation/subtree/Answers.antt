use native.Mathlib.Omega.{arith}
use Rattle.grammar.specs.contracts.NodeKind.{the_type}
use denote.Enum.Bare.{same_true}
use mathlib.Core.Path.{sym, ◌∙◌}
use Rattle.tree.proofs.Walks.{leaf}
use Rattle.presence.proofs.Walks.{leaf_answer}
use Rattle.presence.proofs.Evaluation.subtree.Goals as goal

pub answer_at-requires : goal.answer_at-requires
answer_at-requires c = let f = leaf _ c.args.self.now.tree.tested c.args.row c.requires (sym c.kind_at.ensures ∙ same_true the_type tt _ _ (sym c.eq.ensures ∙ c.if-eq.true)) in omega (arith, f.number, c.number_at.ensures.0, c.args.self.now.answered)

pub returns-then-eq : goal.returns-then-eq
returns-then-eq c = c.answer_at.ensures ∙ leaf_answer _ c.args.self.now.answers.now c.args.self.now.tree.tested c.args.row c.requires (sym c.kind_at.ensures ∙ same_true the_type tt _ _ (sym c.eq.ensures ∙ c.if-eq.true)) _ c.number_at.ensures.0

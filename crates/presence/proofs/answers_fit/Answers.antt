use mathlib.Core.Path.{◌∙◌, sym}
use borrow.Author.Tests.{ne_eqb}
use Rattle.presence.proofs.Answers.{fit_count, fit_all}
use Rattle.presence.proofs.answers_fit.Goals as goal

pub returns-then-answers-cite_count : goal.returns-then-answers-cite_count
returns-then-answers-cite_count c = c.all_fit.ensures ∙ fit_all _ _ c.args.tree.tested (c.if-answers-cite_count.true ∙ c.cite_count.ensures.0)

pub returns-else-answers-cite_count : goal.returns-else-answers-cite_count
returns-else-answers-cite_count c = ne_eqb _ _ c.if-answers-cite_count.false ∙ fit_count _ _ c.args.tree.tested (λ q. c.if-answers-cite_count.false (q ∙ sym c.cite_count.ensures.0))

use native.Mathlib.Omega.{arith}
use mathlib.Core.Path.{ap, ◌∙◌}
use Rattle.std.proofs.lemmas.Result.{err_from_is_err_and}
use Rattle.tree.specs.Cited.{cited_answer}
use Rattle.tree.proofs.Answers.{cited-refused, cited-absent, cited_at}
use Rattle.tree.proofs.cited.Goals as goal

pub returns-in_err-tree : goal.returns-in_err-tree
returns-in_err-tree c = let p = err_from_is_err_and c.from_residual.result c.from_residual.ensures.1 in
    let e = c.in_err-tree.ensures in rw (p.1, p.2, e.0) (cited-refused _ _ e.1)

pub returns-then-cite_count-number : goal.returns-then-cite_count-number
returns-then-cite_count-number c = let t = c.in_ok-tree.tree in
    cited-absent t.bytes.now _ t.tested (omega (arith, c.cite_count.ensures.0)) ∙ ap (λ b. cited_answer b c.args.number) c.in_ok-tree.ensures

pub returns : goal.returns
returns c = let t = c.in_ok-tree.tree in
    cited_at t.bytes.now _ _ _ t.tested (omega (arith, c.cite_count.ensures.0)) c.text_start.ensures.0 c.text_size.ensures.0 ∙ ap (λ b. cited_answer b c.args.number) c.in_ok-tree.ensures

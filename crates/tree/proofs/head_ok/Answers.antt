use native.Mathlib.Omega.{arith}
use Rattle.grammar.specs.Trees.{headed}
use Rattle.tree.proofs.Steps.{refuted, head_last}
use Rattle.tree.proofs.head_ok.Goals as goal

pub returns-then-tree-lt-HEAD_SIZE : goal.returns-then-tree-lt-HEAD_SIZE
returns-then-tree-lt-HEAD_SIZE c = refuted _ (λ h. let k = headed _ h in omega (arith, k.long))

pub returns-then-get16-ne-HEAD_SIZE : goal.returns-then-get16-ne-HEAD_SIZE
returns-then-get16-ne-HEAD_SIZE c = refuted _ (λ h. let k = headed _ h in omega (arith, k.rowed, c.get16.ensures.0, c.if-get16-ne-HEAD_SIZE.true))

pub returns-then-get16-n : goal.returns-then-get16-n
returns-then-get16-n c = refuted _ (λ h. let k = headed _ h in omega (arith, k.cited, c.get16-n.ensures.0, c.get16-2.ensures.0, c.if-get16-n.true))

pub returns-then-get16-n-2 : goal.returns-then-get16-n-2
returns-then-get16-n-2 c = refuted _ (λ h. let k = headed _ h in omega (arith, k.texted, c.get16-n.ensures.0, c.get16-c.ensures.0, c.get16-3.ensures.0, c.if-get16-n-2.true))

pub returns-then-get16-tree : goal.returns-then-get16-tree
returns-then-get16-tree c = refuted _ (λ h. let k = headed _ h in omega (arith, k.ended, c.get16-4.ensures.0, c.if-get16-tree.true))

pub returns-then-c-gt-CITATION_LIMIT : goal.returns-then-c-gt-CITATION_LIMIT
returns-then-c-gt-CITATION_LIMIT c = refuted _ (λ h. let k = headed _ h in omega (arith, k.few, c.get16-c.ensures.0))

pub returns-then-tree-n : goal.returns-then-tree-n
returns-then-tree-n c = refuted _ (λ h. let k = headed _ h in omega (arith, k.inside, c.get16-n.ensures.0, c.get16-c.ensures.0))

pub returns : goal.returns
returns c = let n = c.get16-n.ensures.0 in
    let m = c.get16-c.ensures.0 in
    rw (n, m)
    (head_last _ (omega arith) (omega (arith, c.get16.ensures.0)) (omega (arith, n, c.get16-2.ensures.0)) (omega (arith, n, m, c.get16-3.ensures.0)) (omega (arith, c.get16-4.ensures.0)) (omega (arith, m)) (omega (arith, n, m)))

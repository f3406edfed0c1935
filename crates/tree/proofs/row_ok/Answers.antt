use native.Mathlib.Omega.{arith}
use Prim.Native.Nat.{ℕ, ◌+◌, ◌-◌}
use mathlib.Core.Path.{ap, ◌∙◌}
use lib.Dec.{eqb}
use borrow.Author.Tests.{ne_eqb}
use Rattle.grammar.specs.Bytes.{row_size}
use Rattle.grammar.specs.Pack.{rows_length}
use Rattle.tree.proofs.Steps as steps
use Rattle.tree.proofs.row_ok.Goals as goal

pub returns-else-m-n : goal.returns-else-m-n
returns-else-m-n c = ne_eqb c.get16-m.result c.args.n c.if-m-n.false ∙ steps.leaf_number _ _ _ _ _ (omega (arith, c.get16-k.ensures.0, c.if-k-eq0.true)) (λ e. c.if-m-n.false (c.get16-m.ensures.0 ∙ e))

pub returns-then-m-n : goal.returns-then-m-n
returns-then-m-n c = ap (λ (x : ℕ). eqb x 1) c.get16-z.ensures.0
    ∙ steps.leaf_size _ _ _ _ _ (omega (arith, c.get16-k.ensures.0, c.if-k-eq0.true)) (omega (arith, c.get16-m.ensures.0, c.if-m-n.true))

pub returns-then-k-gt4 : goal.returns-then-k-gt4
returns-then-k-gt4 c = steps.inner_kind _ _ _ _ _ (omega (arith, c.get16-k.ensures.0))

pub returns-then-m-lt2 : goal.returns-then-m-lt2
returns-then-m-lt2 c = steps.inner-few _ _ _ _ _ (omega (arith, c.get16-k.ensures.0, c.if-k-eq0.false)) (omega (arith, c.get16-k.ensures.0)) (omega (arith, c.get16-m.ensures.0))

pub returns-then-z-eq0 : goal.returns-then-z-eq0
returns-then-z-eq0 c = steps.inner_none _ _ _ _ _ (omega (arith, c.get16-k.ensures.0, c.if-k-eq0.false)) (omega (arith, c.get16-k.ensures.0)) (omega (arith, c.get16-m.ensures.0)) (omega (arith, c.get16-z.ensures.0, c.if-z-eq0.true))

pub returns-then-left-z : goal.returns-then-left-z
returns-then-left-z c = let a = c.args in
    let len = rows_length a.tree.now (a.left - 1) (a.at + row_size) in
    steps.inner_long _ _ _ _ _ (omega (arith, c.get16-k.ensures.0, c.if-k-eq0.false)) (omega (arith, c.get16-k.ensures.0)) (omega (arith, c.get16-m.ensures.0)) (omega (arith, c.get16-z.ensures.0, c.if-z-eq0.false)) (omega (arith, c.get16-z.ensures.0, len))

pub returns : goal.returns
returns c = let a = c.args in
    let len = rows_length a.tree.now (a.left - 1) (a.at + row_size) in
    c.tiles_at.ensures
    ∙ rw (c.get16-m.ensures.0, c.get16-z.ensures.0)
    (steps.inner-tiles _ _ _ _ _ (omega (arith, c.get16-k.ensures.0, c.if-k-eq0.false)) (omega (arith, c.get16-k.ensures.0)) (omega (arith, c.get16-m.ensures.0)) (omega (arith, c.get16-z.ensures.0, c.if-z-eq0.false)) (omega (arith, c.get16-z.ensures.0, len)))

use native.Mathlib.Omega.{arith}
use Prim.Native.Nat.{ℕ, ◌+◌, ◌-◌, ◌*◌}
use mathlib.Core.Path.{sym, ap, ◌∙◌}
use Rattle.grammar.specs.Bytes.{head_size, row_size, rows_from, rows_ok}
use Rattle.tree.proofs.Steps as steps
use Rattle.tree.proofs.rows_ok.Goals as goal

pub returns-then-not-row_ok : goal.returns-then-not-row_ok
returns-then-not-row_ok c = steps.ok_fail _ 0 0 _ _ _ _ (omega arith) (sym c.row_ok.ensures ∙ c.if-not-row_ok.true) ∙ c.loop-i.invariant.1

pub loop-i-preserved : goal.loop-i-preserved
loop-i-preserved c = let i = c.loop-i.i in (
  omega (arith, c.count_row-before.ensures.1),
  ap (λ (x : ℕ). rows_ok x c.args.c (rows_from c.args.tree.now (c.args.n - (i + 1)) (head_size + row_size * (i + 1)))) c.count_row-before.ensures.0
      ∙ steps.ok_next _ 0 0 (head_size + row_size * i) _ _ (c.args.n - i) _ _ (omega arith) (omega arith) (sym c.row_ok.ensures ∙ c.if-not-row_ok.false)
      ∙ c.loop-i.invariant.1,
)

pub returns : goal.returns
returns c = steps.ok_end _ 0 0 _ _ _ _ (omega arith) ∙ c.loop-i.invariant.1

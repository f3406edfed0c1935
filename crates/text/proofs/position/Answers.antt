use native.Mathlib.Omega.{arith}
use mathlib.Core.Path.{sym, ◌∙◌}
use Rattle.text.proofs.Laws.{place-not, place_here, place_end, position_here, position_none}
use Rattle.text.proofs.position.Goals as goal

pub returns-then-begins_at : goal.returns-then-begins_at
returns-then-begins_at c = let a = c.args in
    sym (position_here a.text.now a.s.now c.loop-i.i (omega (arith, place_here a.text.now a.s.now c.loop-i.i (omega arith) (sym c.begins_at.ensures ∙ c.if-begins_at.true))) (omega arith))

pub loop-i-preserved : goal.loop-i-preserved
loop-i-preserved c = let a = c.args in
    omega (arith, place-not a.text.now a.s.now c.loop-i.i (omega arith) (sym c.begins_at.ensures ∙ c.if-begins_at.false))

pub returns : goal.returns
returns c = let a = c.args in
    sym (position_none a.text.now a.s.now (omega (arith, place_end a.text.now a.s.now c.loop-i.i (omega arith))))

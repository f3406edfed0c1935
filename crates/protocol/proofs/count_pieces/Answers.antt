use native.Mathlib.Omega.{arith}
use mathlib.Core.Path.{sym, ◌∙◌}
use Rattle.protocol.proofs.Pieces.{spaces_more, spaces_all}
use Rattle.protocol.proofs.count_pieces.Goals as goal

pub loop-b-preserved : goal.loop-b-preserved
loop-b-preserved c = let m = spaces_more c.args.line.now c.loop-b.b-index c.loop-b-test.true in
    omega (arith, c.loop-b.invariant, c.from-n.ensures, m)

pub returns : goal.returns
returns c = c.loop-b.invariant ∙ sym (spaces_all c.args.line.now c.loop-b.b-index (omega (arith, c.loop-b-test.false)))

use mathlib.Core.Path.{refl}
use native.Mathlib.Omega.{arith}
use Rattle.fields.proofs.Appends.{nothing, both, same}
use Rattle.protocol.specs.Hex.{hex_of}
use Rattle.protocol.proofs.Laws.{hex_more}
use Rattle.protocol.proofs.put_hex.Goals as goal

pub loop-b-init : goal.loop-b-init
unfolding hex_of
loop-b-init c = (nothing c.args.at c.args.out.now, omega arith, refl)

pub loop-b-preserved : goal.loop-b-preserved
loop-b-preserved c = let l = c.loop-b.invariant in (
  same (hex_more c.args.s.now c.loop-b.b-index _ _ (omega arith) c.digit_of.ensures c.digit_of-in-loop-b.ensures) (both (both l.0 c.put_byte-to.ensures) c.put_byte-to-in-loop-b.ensures),
  omega (arith, l.1, c.put_byte-to.ensures.ends, c.put_byte-to-in-loop-b.ensures.ends),
  omega arith,
)

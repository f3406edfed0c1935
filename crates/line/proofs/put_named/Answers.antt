use mathlib.Core.Path.{◌≡◌}
use Prim.Native.Nat.{◌+◌, ◌-◌, ◌*◌}
use native.Mathlib.Omega.{arith}
use Rattle.line.proofs.Named.{going_room, going_next, going_end}
use Rattle.line.proofs.put_named.Goals as goal

pub put_cited-w-requires : goal.put_cited-w-requires
put_cited-w-requires c = let r = going_room c.loop-k.invariant (omega arith) _ c.get16.ensures.0 c.requires.2 in (r.0, r.1)

pub loop-k-preserved : goal.loop-k-preserved
loop-k-preserved c =
    let left : c.args.count - (c.loop-k.k + 1) ≡ c.args.count - c.loop-k.k - 1 = omega arith in
    let place : 2 * (c.loop-k.k + 1) ≡ 2 * c.loop-k.k + 2 = omega arith in
    rw (left, place) (going_next c.loop-k.invariant (omega arith) _ c.get16.ensures.0 c.put_cited-w.ensures c.put_cited-w.auto.out)

pub returns : goal.returns
returns c = going_end c.loop-k.invariant (omega arith)

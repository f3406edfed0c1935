use native.Mathlib.Omega.{arith}
use Rattle.fields.proofs.Appends as appends
use mathlib.Core.Path.{sym, ap}
use lib.ListN.{length}
use Prim.Native.Nat.{◌+◌}
use Rattle.writer.proofs.Rows.{texts_none, texts-next, size_all, size_next}
use Rattle.writer.proofs.put_texts.Goals as goal

pub loop-place-init : goal.loop-place-init
loop-place-init c = appends.same (sym (texts_none c.args.text.now c.args.places.now)) (appends.nothing _ _)

pub put_text-w-requires : goal.put_text-w-requires
put_text-w-requires c = let a = c.args in
    let l = c.loop-place in
    omega (arith, c.requires, l.invariant.ends, ap length c.cut_at.ensures, size_next a.text.now a.places.now l.place-index (omega arith), size_all a.text.now a.places.now (l.place-index + 1))

pub loop-place-preserved : goal.loop-place-preserved
loop-place-preserved c =
    appends.same (texts-next c.args.text.now c.args.places.now c.loop-place.place-index (omega arith))
    (appends.both c.loop-place.invariant (appends.same c.cut_at.ensures c.put_text-w.ensures))

use native.Mathlib.Omega.{arith}
use Rattle.fields.proofs.Appends as appends
use mathlib.Core.Path.{sym, ap}
use lib.ListN.{length}
use Prim.Native.Nat.{◌+◌}
use Rattle.writer.proofs.Rows.{cites_none, texts_none, cites-next, size_all, size_next}
use Rattle.writer.proofs.put_cites.Goals as goal

pub loop-place-init : goal.loop-place-init
loop-place-init c = let a = c.args in
    record { ends = omega arith; offset = ap length (sym (texts_none a.text.now a.places.now)); written = appends.same (sym (cites_none a.text.now a.places.now)) (appends.nothing _ _) }

pub put16-w-requires : goal.put16-w-requires
put16-w-requires c = let a = c.args in
    let l = c.loop-place in
    (omega (arith, c.requires.0, l.invariant.ends), omega (arith, c.requires.1, l.invariant.offset, size_all a.text.now a.places.now l.place-index))

pub put16-w-requires-in-loop-place : goal.put16-w-requires-in-loop-place
put16-w-requires-in-loop-place c = let a = c.args in
    let l = c.loop-place in (
      omega (arith, c.requires.0, l.invariant.ends, appends.ends_two _ c.put16-w.ensures),
      omega (arith, c.requires.1, ap length c.cut_at-size.ensures, size_next a.text.now a.places.now l.place-index (omega arith), size_all a.text.now a.places.now (l.place-index + 1)),
    )

pub overflow_add-o : goal.overflow_add-o
overflow_add-o c = let a = c.args in
    let l = c.loop-place in
    omega (arith, c.requires.1, l.invariant.offset, ap length c.cut_at-size.ensures, size_next a.text.now a.places.now l.place-index (omega arith), size_all a.text.now a.places.now (l.place-index + 1))

pub loop-place-preserved : goal.loop-place-preserved
loop-place-preserved c = let a = c.args in
    let l = c.loop-place in
    let s = l.invariant in record {
      ends = omega (arith, s.ends, appends.ends_two _ c.put16-w.ensures, appends.ends_two _ c.put16-w-in-loop-place.ensures);
      offset = omega (arith, s.offset, ap length c.cut_at-size.ensures, size_next a.text.now a.places.now l.place-index (omega arith));
      written =
          appends.same (cites-next a.text.now a.places.now l.place-index _ _ (omega arith) s.offset (ap length c.cut_at-size.ensures))
          (appends.both s.written (appends.both c.put16-w.ensures c.put16-w-in-loop-place.ensures));
    }

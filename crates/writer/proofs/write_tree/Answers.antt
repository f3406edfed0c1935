use native.Mathlib.Omega.{arith}
use lib.ListN.{length}
use Rattle.fields.proofs.Appends as appends
use Rattle.writer.proofs.Rows.{ends_head, rows_long, cites_long}
use Rattle.writer.proofs.Laws.{all-packed}
use Rattle.writer.proofs.write_tree.Goals as goal

pub put_rows-w-requires : goal.put_rows-w-requires
put_rows-w-requires g c = let a = c.args in omega (arith, c.requires.2, ends_head (length a.rows.now) (length a.places.now) a.bytes c.put_head-w.ensures)

pub put_cites-w-requires : goal.put_cites-w-requires
put_cites-w-requires g c = let a = c.args in
    let p = c.requires in
    (omega (arith, p.2, ends_head (length a.rows.now) (length a.places.now) a.bytes c.put_head-w.ensures, c.put_rows-w.ensures.ends, rows_long g.R.TreeRow.stands_for a.rows.now), omega (arith, p.0, p.1))

pub put_texts-requires : goal.put_texts-requires
put_texts-requires g c = let a = c.args in
    let p = c.requires in
    omega (arith, p.0, p.2, ends_head (length a.rows.now) (length a.places.now) a.bytes c.put_head-w.ensures, c.put_rows-w.ensures.ends, rows_long g.R.TreeRow.stands_for a.rows.now, c.put_cites-w.ensures.ends, cites_long a.text.now a.places.now)

pub returns : goal.returns
returns g c = let a = c.args in
    appends.same (all-packed g.R.TreeRow.stands_for a.rows.now a.text.now a.places.now a.bytes c.requires.0)
    (appends.both c.put_head-w.ensures (appends.both c.put_rows-w.ensures (appends.both c.put_cites-w.ensures c.put_texts.ensures)))

use mathlib.Core.Path.{refl}
use native.Mathlib.Omega.{arith}
use lib.ListN.{get_or, length-set}
use Rattle.parser.proofs.Placing.{place_none, size_fits, children-stand, before-stand, placed-all}
use Prim.Native.Nat.{◌-◌}
use Rattle.grammar.specs.declared.NodeKind.TheVariants.{Citation}
use Rattle.parser.specs.Packed.{pack}
use Rattle.parser.proofs.+place.Goals as goal

pub returns-then-count-eq0 : goal.returns-then-count-eq0
returns-then-count-eq0 t c = let work = c.args.work.now in let top = c.args.top in let m = c.args.count in let end = c.args.end in let old = c.args.rows.now in
    let st = c.requires.1 in let room = c.requires.0 in place_none work top m end old c.if-count-eq0.true

pub overflow_sub-row : goal.overflow_sub-row
overflow_sub-row t c = let work = c.args.work.now in let top = c.args.top in let m = c.args.count in let end = c.args.end in let old = c.args.rows.now in
    let st = c.requires.1 in let room = c.requires.0 in let row = get_or work (top - 1) (pack Citation 0 0) in
    let f = size_fits work top m end st c.if-count-eq0.false row _ _ refl refl refl in omega (arith, f.0, f.2)

pub bounds-work-top : goal.bounds-work-top
bounds-work-top t c = let work = c.args.work.now in let top = c.args.top in let m = c.args.count in let end = c.args.end in let old = c.args.rows.now in
    let st = c.requires.1 in let room = c.requires.0 in let row = get_or work (top - 1) (pack Citation 0 0) in
    let f = size_fits work top m end st c.if-count-eq0.false row _ _ refl refl refl in omega (arith, f.0, f.2, st.held.fits)

pub overflow_sub-row-2 : goal.overflow_sub-row-2
overflow_sub-row-2 t c = let work = c.args.work.now in let top = c.args.top in let m = c.args.count in let end = c.args.end in let old = c.args.rows.now in
    let st = c.requires.1 in let room = c.requires.0 in let row = get_or work (top - 1) (pack Citation 0 0) in
    let z = row.size in let f = size_fits work top m end st c.if-count-eq0.false row z _ refl refl refl in omega (arith, f.1)

pub bounds-rows-end : goal.bounds-rows-end
bounds-rows-end t c = let work = c.args.work.now in let top = c.args.top in let m = c.args.count in let end = c.args.end in let old = c.args.rows.now in
    let st = c.requires.1 in let room = c.requires.0 in let row = get_or work (top - 1) (pack Citation 0 0) in
    let z = row.size in let f = size_fits work top m end st c.if-count-eq0.false row z _ refl refl refl in omega (arith, f.0, f.1, room)

pub overflow_sub-top : goal.overflow_sub-top
overflow_sub-top t c = let work = c.args.work.now in let top = c.args.top in let m = c.args.count in let end = c.args.end in let old = c.args.rows.now in
    let st = c.requires.1 in let room = c.requires.0 in let row = get_or work (top - 1) (pack Citation 0 0) in
    let z = row.size in let f = size_fits work top m end st c.if-count-eq0.false row z _ refl refl refl in omega (arith, f.0, f.2)

pub place-requires : goal.place-requires
place-requires t c = let work = c.args.work.now in let top = c.args.top in let m = c.args.count in let end = c.args.end in let old = c.args.rows.now in
    let st = c.requires.1 in let room = c.requires.0 in let row = get_or work (top - 1) (pack Citation 0 0) in
    let z = row.size in let kids = c.row_children.result in let f = size_fits work top m end st c.if-count-eq0.false row z kids refl refl c.row_children.ensures in
    (omega (arith, c.decreases, f.0, f.2), (simp length-set room, children-stand work top m end st c.if-count-eq0.false row z kids refl refl c.row_children.ensures))

pub overflow_sub-top-2 : goal.overflow_sub-top-2
overflow_sub-top-2 t c = let work = c.args.work.now in let top = c.args.top in let m = c.args.count in let end = c.args.end in let old = c.args.rows.now in
    let st = c.requires.1 in let room = c.requires.0 in let row = get_or work (top - 1) (pack Citation 0 0) in
    let z = row.size in let kids = c.row_children.result in let f = size_fits work top m end st c.if-count-eq0.false row z kids refl refl c.row_children.ensures in
    omega (arith, f.2)

pub overflow_sub-end : goal.overflow_sub-end
overflow_sub-end t c = let work = c.args.work.now in let top = c.args.top in let m = c.args.count in let end = c.args.end in let old = c.args.rows.now in
    let st = c.requires.1 in let room = c.requires.0 in let row = get_or work (top - 1) (pack Citation 0 0) in
    let z = row.size in let kids = c.row_children.result in let f = size_fits work top m end st c.if-count-eq0.false row z kids refl refl c.row_children.ensures in
    omega (arith, f.1)

pub place-requires-2 : goal.place-requires-2
place-requires-2 t c = let work = c.args.work.now in let top = c.args.top in let m = c.args.count in let end = c.args.end in let old = c.args.rows.now in
    let st = c.requires.1 in let room = c.requires.0 in let row = get_or work (top - 1) (pack Citation 0 0) in
    let z = row.size in let kids = c.row_children.result in let f = size_fits work top m end st c.if-count-eq0.false row z kids refl refl c.row_children.ensures in
    (omega (arith, c.decreases, f.0, f.2), (omega (arith, room, length-set old (end - z) row), before-stand work top m end st c.if-count-eq0.false row z kids refl refl c.row_children.ensures))

pub returns : goal.returns
returns t c = let work = c.args.work.now in let top = c.args.top in let m = c.args.count in let end = c.args.end in let old = c.args.rows.now in
    let st = c.requires.1 in let room = c.requires.0 in let row = get_or work (top - 1) (pack Citation 0 0) in
    let z = row.size in let kids = c.row_children.result in
    record { is = λ w. placed-all work top m end w c.if-count-eq0.false row z kids refl refl c.row_children.ensures old _ _ room c.place.ensures c.place-2.ensures }

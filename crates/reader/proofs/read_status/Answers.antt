use native.Mathlib.Omega.{arith}
use mathlib.Core.Path.{refl}
use Rattle.std.proofs.lemmas.Result.{err_from_is_err_and}
use Rattle.reader.proofs.Statuses.{first-at, refused_status, no_word, is_word}
use Rattle.reader.proofs.read_status.Goals as goal

pub slice_bounds-from_word-count : goal.slice_bounds-from_word-count
slice_bounds-from_word-count c = let s = c.args.text.bytes.now in let w = c.first_word-word.result in let f = first-at s w c.args.text.well c.first_word-word.ensures in omega (arith, f.order)

pub slice_bounds-from_word-start : goal.slice_bounds-from_word-start
slice_bounds-from_word-start c = let s = c.args.text.bytes.now in let w = c.first_word-word.result in let f = first-at s w c.args.text.well c.first_word-word.ensures in omega (arith, f.order)

pub slice_bounds-from_word-end : goal.slice_bounds-from_word-end
slice_bounds-from_word-end c = let s = c.args.text.bytes.now in let w = c.first_word-word.result in let f = first-at s w c.args.text.well c.first_word-word.ensures in omega (arith, f.order, f.room)

pub after_word-requires : goal.after_word-requires
after_word-requires c = let s = c.args.text.bytes.now in let w = c.first_word-word.result in let f = first-at s w c.args.text.well c.first_word-word.ensures in (f.room, c.requires.0, c.requires.1, f.well)

pub returns-in_err-kind : goal.returns-in_err-kind
returns-in_err-kind c = let s = c.args.text.bytes.now in let w = c.first_word-word.result in let f = first-at s w c.args.text.well c.first_word-word.ensures in
    let p = err_from_is_err_and c.from_residual.result c.from_residual.ensures.1 in
    let d = refused_status _ c.args.out.now _ (no_word s w f _ c.in_err-kind.ensures _ refl) in
    record { result_value = rw (p.1, p.2) d.0; out_after = d.1 }

pub returns : goal.returns
returns c = let s = c.args.text.bytes.now in let w = c.first_word-word.result in let f = first-at s w c.args.text.well c.first_word-word.ensures in
    let d = is_word s w f _ c.in_ok-kind.ensures _ refl c.args.out.now c.after_word.new.out _ (c.after_word.ensures.result_value, c.after_word.ensures.out_after) in
    record { result_value = d.0; out_after = d.1 }

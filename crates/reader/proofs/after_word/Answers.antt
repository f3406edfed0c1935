use native.Mathlib.Omega.{arith}
use mathlib.Core.Path.{refl}
use lib.ListN.{drop}
use lib.Seq.{length-take-le}
use Rattle.std.proofs.lemmas.Result.{err_from_is_err_and}
use Rattle.reader.proofs.Statuses.{joined_front, joined-room, word_alone_lem, joined_utf8, word_refused, word-tree}
use Rattle.reader.proofs.after_word.Goals as goal

pub returns-then-n-eq0 : goal.returns-then-n-eq0
returns-then-n-eq0 c = let t = drop c.args.from c.args.text.now in let k = c.args.kind in let w = c.join_words-n.new.out in let n = c.join_words-n.result in let z = c.join_words-n.ensures.value in let h = joined_front t w _ n z c.join_words-n.ensures.out_after in let u = c.requires.3 in let d = word_alone_lem k t w n z h c.args.out.now c.if-n-eq0.true in record { result_value = d.0; out_after = d.1 }

pub invariant_of-read_text : goal.invariant_of-read_text
invariant_of-read_text c = let t = drop c.args.from c.args.text.now in let k = c.args.kind in let w = c.join_words-n.new.out in let n = c.join_words-n.result in let z = c.join_words-n.ensures.value in let h = joined_front t w _ n z c.join_words-n.ensures.out_after in let u = c.requires.3 in let l = joined-room k t w n z h in record { short = omega (arith, length-take-le n w l, c.requires.2); well = joined_utf8 k t w n z h u }

pub returns-in_err-length : goal.returns-in_err-length
returns-in_err-length c = let t = drop c.args.from c.args.text.now in let k = c.args.kind in let w = c.join_words-n.new.out in let n = c.join_words-n.result in let z = c.join_words-n.ensures.value in let h = joined_front t w _ n z c.join_words-n.ensures.out_after in let u = c.requires.3 in
    let p = err_from_is_err_and c.from_residual.result c.from_residual.ensures.1 in
    let e = c.in_err-length.ensures in
    let d = word_refused k t w n z h u c.if-n-eq0.false c.args.out.now _ _ (e.result_value, e.out_after) _ refl in
    record { result_value = rw (p.1, p.2) d.0; out_after = d.1 }

pub returns : goal.returns
returns c = let t = drop c.args.from c.args.text.now in let k = c.args.kind in let w = c.join_words-n.new.out in let n = c.join_words-n.result in let z = c.join_words-n.ensures.value in let h = joined_front t w _ n z c.join_words-n.ensures.out_after in let u = c.requires.3 in
    let e = c.in_ok-length.ensures in
    let d = word-tree k t w n z h u c.if-n-eq0.false c.args.out.now _ _ (e.result_value, e.out_after) _ refl in
    record { result_value = d.0; out_after = d.1 }

use native.Mathlib.Omega.{arith}
use Rattle.line.proofs.Texts.{line_names, formatted}
use Rattle.line.proofs.Outcomes.{violations-small}
use Rattle.line.proofs.format_line.Goals as goal

pub put_named-end-requires : goal.put_named-end-requires
put_named-end-requires c =
    let l = c.list_verdicts-truth.ensures.listed in
    let s = violations-small c.args.tree.bytes.now c.args.tree.tested c.args.value.now _ l.1 in
    (omega (arith, l.0), s.0, omega (arith, s.1, c.put_text-from.ensures.ends, c.put_truth-w.ensures.short))

pub put_byte-requires : goal.put_byte-requires
put_byte-requires c =
    let l = c.list_verdicts-truth.ensures.listed in
    let s = violations-small c.args.tree.bytes.now c.args.tree.tested c.args.value.now _ l.1 in
    omega (arith, s.1, c.put_text-from.ensures.ends, c.put_truth-w.ensures.short, c.put_named-end.ensures.ends)

pub returns : goal.returns
returns c =
    let l = c.list_verdicts-truth.ensures.listed in
    let s = violations-small c.args.tree.bytes.now c.args.tree.tested c.args.value.now _ l.1 in
    rw (← c.list_verdicts-truth.ensures.truth) (formatted "format " line_names.1.1.1.1.0 s.2 c.put_text-from.ensures c.put_truth-w.ensures c.put_named-end.ensures c.put_byte.ensures)

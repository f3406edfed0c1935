use native.Mathlib.Omega.{arith}
use mathlib.Core.Path.{ap, ◌∙◌}
use mir.Val.{bool_byte}
use Rattle.fields.proofs.Appends.{ends_two}
use Rattle.packages.proofs.Laws.{after_eight, row_written}
use Rattle.packages.proofs.put_row.Goals as goal

pub put64-w-requires : goal.put64-w-requires
put64-w-requires c = omega (arith, c.requires.0, ends_two c.args.n c.put16-w.ensures, c.put16-w.auto.out)

pub put_byte-w-requires : goal.put_byte-w-requires
put_byte-w-requires c = omega (arith, c.requires.0, ends_two c.args.n c.put16-w.ensures, c.put16-w.auto.out, after_eight c.args.p.low c.put64-w.ensures, c.put64-w.auto.out)

pub put64-requires : goal.put64-requires
put64-requires c = omega (arith, c.requires.0, ends_two c.args.n c.put16-w.ensures, c.put16-w.auto.out, after_eight c.args.p.low c.put64-w.ensures, c.put64-w.auto.out, c.put_byte-w.ensures.ends, c.put_byte-w.auto.out)

pub returns : goal.returns
returns c = row_written c.args.n c.args.p _ _ (c.from.ensures ∙ ap bool_byte c.is_some.ensures) c.unwrap_or.ensures c.put16-w.ensures c.put64-w.ensures c.put_byte-w.ensures c.put64.ensures

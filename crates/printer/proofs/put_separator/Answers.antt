use Rattle.std.proofs.Common.{ap, length, arith}
use Rattle.printer.proofs.Parts.{and_sign, or_sign, xor_sign}
use Rattle.printer.proofs.put_separator.Goals as goal

pub put_text-requires : goal.put_text-requires
put_text-requires c = omega (arith, ap length and_sign, rw (c.if-first.false, c.in-And.is) at c.requires)

pub put_text-requires-in-Or : goal.put_text-requires-in-Or
put_text-requires-in-Or c = omega (arith, ap length or_sign, rw (c.if-first.false, c.in-Or.is) at c.requires)

pub put_text-requires-in-Xor : goal.put_text-requires-in-Xor
put_text-requires-in-Xor c = omega (arith, ap length xor_sign, rw (c.if-first.false, c.in-Xor.is) at c.requires)

pub returns-in-And : goal.returns-in-And
returns-in-And c = rw (c.if-first.false, c.in-And.is, and_sign) c.put_text.ensures

pub returns-in-Or : goal.returns-in-Or
returns-in-Or c = rw (c.if-first.false, c.in-Or.is, or_sign) c.put_text-in-Or.ensures

pub returns-in-Xor : goal.returns-in-Xor
returns-in-Xor c = rw (c.if-first.false, c.in-Xor.is, xor_sign) c.put_text-in-Xor.ensures

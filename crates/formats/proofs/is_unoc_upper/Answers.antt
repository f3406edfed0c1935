use borrow.Author.Rules.{rules}
use borrow.Author.Tests.{lt-leb, le-ltb}
use native.Mathlib.Omega.{arith}
use mathlib.Core.Bool.{and-false}
use lib.Dec.{leb}
use Rattle.formats.specs.Rules.{is_unoc_upper}
use Rattle.formats.proofs.Marks.{marks, unoc_upper_at}
use Rattle.formats.proofs.is_unoc_upper.Goals as goal

pub returns-then-code-lt256 : goal.returns-then-code-lt256
unfolding marks
returns-then-code-lt256 c = unoc_upper_at c.args.code (search rules)

pub returns-else-code-lt256 : goal.returns-else-code-lt256
unfolding is_unoc_upper
returns-else-code-lt256 c = let n = c.args.code in
    rw (le-ltb n 256 c.if-code-lt256.false, lt-leb n 0x7E (omega arith), lt-leb n 0xFF (omega arith), and-false (leb 0x20 n), and-false (leb 0xA0 n))

use mathlib.Core.Path.{sym, ◌∙◌}
use lib.Dec.{leb}
use lib.ListN.{length}
use Rattle.laws.specs.Tests.{and_both}
use Rattle.utf8.specs.Utf8.{all_ascii}
use Rattle.utf8.proofs.Ascii.{ascii_utf8}
use Rattle.utf8.proofs.is_utf8.Goals as goal

pub returns-then-long_ascii : goal.returns-then-long_ascii
returns-then-long_ascii c = let s = c.args.s.now in c.if-long_ascii.true ∙ sym (ascii_utf8 s (and_both (leb 64 (length s)) (all_ascii s) (sym c.long_ascii.ensures ∙ c.if-long_ascii.true)).1)

use mathlib.Core.Path.{refl}
use Rattle.utf8.specs.Limits.{text_limit}
use Rattle.utf8.proofs.Limits.{fine_length, fine_utf8}
use Rattle.lexer.proofs.Text.admit.Goals as goal

pub invariant_of-result : goal.invariant_of-result
invariant_of-result c = let s = c.args.bytes.now in let a = c.in_ok-admit.ensures in record { short = fine_length text_limit s a refl; well = fine_utf8 text_limit s a refl }

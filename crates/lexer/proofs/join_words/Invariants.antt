use mathlib.Core.Path.{◌≡◌}
use lib.ListN.{length}
use Rattle.lexer.proofs.Joining.{Joining}
use Rattle.lexer.proofs.join_words.Given as goal

abbrev pub invariant-loop-word : goal.invariant-loop-word
invariant-loop-word l = let it = l.word-iterator in (it.text.now ≡ l.text) × (length l.out ≡ length l.initial.out) × Joining l.text l.from l.initial.out l.out it.at l.n

use lib.ListN.{length}
use Rattle.lexer.proofs.Runs.{Past}
use Rattle.lexer.proofs.past_eights.Given as goal

abbrev pub invariant-loop-eight : goal.invariant-loop-eight
invariant-loop-eight l = Past l.text l.at l.rest

abbrev pub decreases-loop-eight : goal.decreases-loop-eight
decreases-loop-eight l = length l.rest

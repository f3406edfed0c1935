use Rattle.parser.proofs.+place.Given as goal

abbrev pub decreases-place : goal.decreases-place
decreases-place l = l.top

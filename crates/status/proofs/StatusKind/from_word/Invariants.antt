use mathlib.Core.Path.{◌≡◌}
use lib.ListN.{drop}
use Rattle.status.specs.Status.{kinds, kind_among, kind_of_word}
use Rattle.status.proofs.StatusKind.from_word.Given as goal

abbrev pub invariant-loop-kind : goal.invariant-loop-kind
invariant-loop-kind l = kind_among (drop l.kind-index kinds) l.word ≡ kind_of_word l.word

use mathlib.Core.Path.{◌≡◌}
use lib.ListN.{drop}
use Rattle.formats.specs.Rules.{unoc_upper, passes}
use Rattle.formats.proofs.unoc_upper.Given as goal

abbrev pub invariant-loop-code : goal.invariant-loop-code
invariant-loop-code l = passes unoc_upper (drop l.code-iterator.at l.code-iterator.text.now) ≡ passes unoc_upper l.value

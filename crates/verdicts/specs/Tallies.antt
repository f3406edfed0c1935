-- A node's truth by the truths that its operands have had. Assumes nothing.
use Rattle.citation.specs.declared.Truth.{Truth}
use Rattle.grammar.specs.declared.NodeKind.{NodeKind}
use Rattle.grammar.specs.declared.NodeKind.TheVariants.{Citation, Then, And, Or, Xor}
use Rattle.presence.specs.declared.Tally.{Tally}
use Rattle.presence.specs.Tallies.{anded, ored}

-- the truth of a node of this kind: Then and And, or Or and Xor
unfoldable pub rule_of : NodeKind → Tally → Truth
rule_of Citation t = anded t
rule_of Then t = anded t
rule_of And t = anded t
rule_of Or t = ored t
rule_of Xor t = ored t

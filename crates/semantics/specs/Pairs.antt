-- The rules of format truth, one operand joined to the others. The laws, found by computing over all truths, stand in proofs/Pairs. Assumes nothing.
use Rattle.std.specs.Prelude.{[], ◌∷◌, Bool, ◌&&◌, eqb}
use Rattle.citation.specs.declared.Truth.{Truth}
use Rattle.citation.specs.declared.Truth.TheVariants.{False, Unknown, True, Neutral}
use Rattle.citation.specs.Truths.{truth_number}
use Rattle.grammar.specs.Expr.{Op}
use Rattle.semantics.specs.Truth.{format_rule}

-- an operator's rule of two
abbrev pub pair : Op → Truth → Truth → Truth
pair o v w = format_rule o (v ∷ w ∷ [])

-- the test holds of each truth
abbrev pub each : (Truth → Bool) → Bool
each p = p False && (p Unknown && (p True && p Neutral))

-- the test holds of each two
abbrev pub each2 : (Truth → Truth → Bool) → Bool
each2 p = each (λ a. each (p a))

-- the two are the same
abbrev pub same : Truth → Truth → Bool
same v w = eqb (truth_number v) (truth_number w)

-- Words for the rules of presence (docs/SEMANTICS.md, 'Presence'). The theorems stand in proofs/Sentences. Assumes nothing.
use Rattle.std.specs.Prelude.{List, [], ◌∷◌, Bool, true, cond, ◌&&◌}
use Rattle.citation.specs.declared.Truth.{Truth}
use Rattle.citation.specs.declared.Truth.TheVariants.{False, Unknown, True, Neutral}
use Rattle.semantics.specs.Rules.{is_unknown, is_true, is_neutral, any, two_true}

-- all are Neutral
abbrev pub only_neutral : List Truth → Bool
only_neutral [] = true
only_neutral (v ∷ vs) = is_neutral v && only_neutral vs

-- the values that are left when the Neutral ones are dropped
abbrev pub filled : List Truth → List Truth
filled [] = []
filled (v ∷ vs) = cond (is_neutral v) (filled vs) (v ∷ filled vs)

-- Or of values none of which is Neutral: Neutral if there is none; a True one decides, then an Unknown one, and False is what remains
abbrev pub or_of_filled : List Truth → Truth
or_of_filled [] = Neutral
or_of_filled (v ∷ vs) = cond (any is_true (v ∷ vs)) True (cond (any is_unknown (v ∷ vs)) Unknown False)

-- Xor of such values: Neutral if there is none; two that are True make it False, then an Unknown one decides, then a True one, and False is what remains
abbrev pub xor_of_filled : List Truth → Truth
xor_of_filled [] = Neutral
xor_of_filled (v ∷ vs) = cond (two_true (v ∷ vs)) False (cond (any is_unknown (v ∷ vs)) Unknown (cond (any is_true (v ∷ vs)) True False))

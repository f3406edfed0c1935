-- Which values were met, and what they make of a node. Assumes nothing.
use Rattle.std.specs.Prelude.{List, [], ◌∷◌, true, false, cond, ◌||◌, Result}
use Rattle.refusal.specs.declared.Refusal.{Refusal}
use Rattle.refusal.specs.Result.{map_ok}
use Rattle.citation.specs.declared.Truth.{Truth}
use Rattle.citation.specs.declared.Truth.TheVariants.{False, Unknown, True, Neutral}
use Rattle.grammar.specs.declared.NodeKind.{NodeKind}
use Rattle.grammar.specs.declared.NodeKind.TheVariants.{Citation, Then, And, Or, Xor}
use Rattle.presence.specs.declared.Tally.{Tally}

-- no value met
abbrev pub no_tally : Tally
no_tally = record { no = false; unknown = false; yes = false; second = false }

-- one value more
abbrev pub added : Tally → Truth → Tally
added t False = record { no = true; unknown = t.unknown; yes = t.yes; second = t.second }
added t Unknown = record { no = t.no; unknown = true; yes = t.yes; second = t.second }
added t True = record { no = t.no; unknown = t.unknown; yes = true; second = t.yes || t.second }
added t Neutral = t

-- the truth of a Then or an And
unfoldable pub anded : Tally → Truth
anded t = cond t.no False (cond t.unknown Unknown (cond t.yes True Neutral))

-- the truth of an Or
unfoldable pub ored : Tally → Truth
ored t = cond t.yes True (cond t.unknown Unknown (cond t.no False Neutral))

-- the truth of a Xor
unfoldable pub xored : Tally → Truth
xored t = cond t.second False (cond t.unknown Unknown (cond t.yes True (cond t.no False Neutral)))

-- the truth of a node of this kind
unfoldable pub ruled : NodeKind → Tally → Truth
ruled Citation t = anded t
ruled Then t = anded t
ruled And t = anded t
ruled Or t = ored t
ruled Xor t = xored t

-- the values of a list met after those of a tally
unfoldable pub tallied : Tally → List Truth → Tally
tallied t [] = t
tallied t (v ∷ vs) = tallied (added t v) vs

-- the truth of a node of this kind whose operands have these values besides those of a tally, or their refusal
unfoldable pub finished : NodeKind → Tally → Result (List Truth) Refusal → Result Truth Refusal
finished k t r = map_ok (λ vs. ruled k (tallied t vs)) r

-- How the truths of operands combine (docs/SEMANTICS.md, 'Presence'). Assumes nothing.
use Rattle.std.specs.Prelude.{List, [], ◌∷◌, Bool, true, false, cond, ◌&&◌, ◌||◌}
use Rattle.citation.specs.declared.Truth.{Truth}
use Rattle.citation.specs.declared.Truth.TheVariants.{False, Unknown, True, Neutral}

-- the truth is False
abbrev pub is_false : Truth → Bool
is_false False = true
is_false Unknown = false
is_false True = false
is_false Neutral = false

-- the truth is Unknown
abbrev pub is_unknown : Truth → Bool
is_unknown False = false
is_unknown Unknown = true
is_unknown True = false
is_unknown Neutral = false

-- the truth is True
abbrev pub is_true : Truth → Bool
is_true False = false
is_true Unknown = false
is_true True = true
is_true Neutral = false

-- the truth is Neutral
abbrev pub is_neutral : Truth → Bool
is_neutral False = false
is_neutral Unknown = false
is_neutral True = false
is_neutral Neutral = true

module _ {A : Type 0} where
  -- the test holds of some entry
  unfoldable pub any : (A → Bool) → List A → Bool
  any p [] = false
  any p (x ∷ xs) = p x || any p xs

  -- the test holds of every entry
  unfoldable pub every : (A → Bool) → List A → Bool
  every p [] = true
  every p (x ∷ xs) = p x && every p xs

-- Then and And: False decides before Unknown, Unknown before True; Neutral where nothing else stands
unfoldable pub and_rule : List Truth → Truth
and_rule vs = cond (any is_false vs) False (cond (any is_unknown vs) Unknown (cond (any is_true vs) True Neutral))

-- Or: True decides before Unknown, Unknown before False; Neutral where nothing else stands
unfoldable pub or_rule : List Truth → Truth
or_rule vs = cond (any is_true vs) True (cond (any is_unknown vs) Unknown (cond (any is_false vs) False Neutral))

-- two or more are True
unfoldable pub two_true : List Truth → Bool
two_true [] = false
two_true (v ∷ vs) = cond (is_true v) (any is_true vs) (two_true vs)

-- Xor: two that are True make it False, then Unknown decides before a single True, and that before False; Neutral where nothing else stands
unfoldable pub xor_rule : List Truth → Truth
xor_rule vs = cond (two_true vs) False (cond (any is_unknown vs) Unknown (cond (any is_true vs) True (cond (any is_false vs) False Neutral)))

-- Which texts can be cited. Assumes nothing.
use Rattle.std.specs.Prelude.{◌≡◌, List, [], ◌∷◌, Bool, true, false, not, ◌&&◌, ◌||◌, ℕ, eqb}
use Rattle.utf8.specs.Utf8.{is_utf8, decode, encode, Scalars}
use Rattle.grammar.specs.Lex.{blank, cite_end}

-- the character stands among these
unfoldable pub holds : ℕ → List ℕ → Bool
holds x [] = false
holds x (c ∷ cs) = eqb c x || holds x cs

-- a citation's text: UTF-8, not blank, without `]`
unfoldable pub citable : List ℕ → Bool
citable t = is_utf8 t && (not (blank (decode t)) && not (holds cite_end (decode t)))

-- each of these texts is citable
abbrev pub AllCitable : List (List ℕ) → Type 0
AllCitable [] = Unit
AllCitable (t ∷ ts) = (citable t ≡ true) × AllCitable ts

-- what the test says: the characters of the text, which encode to it, and hold no `]`
pub record Cited (t : List ℕ) : Type 0 where
  pub valid : is_utf8 t ≡ true
  pub unicode : Scalars (decode t)
  pub back : encode (decode t) ≡ t
  pub written : blank (decode t) ≡ false
  pub unclosed : holds cite_end (decode t) ≡ false

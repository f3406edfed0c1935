-- Which texts can be cited. Assumes nothing.
use Rattle.std.specs.Prelude.{◌≡◌, refl, List, [], ◌∷◌, ◌++◌, Bool, true, false, not, ◌&&◌, ◌||◌, ℕ, eqb}
use Rattle.std.proofs.Common.{sym}
use Rattle.std.proofs.lemmas.Bool.{false≢true}
use Rattle.laws.specs.Tests.{and_both}
use Rattle.utf8.specs.Utf8.{is_utf8, decode, encode, Scalars}
use Rattle.utf8.proofs.Encode.{encoded}
use Rattle.utf8.proofs.Sound.{utf8_sound}
use Rattle.grammar.specs.Lex.{blank, cite_end}
use Rattle.grammar.specs.Citable.{holds, citable, AllCitable, Cited}

-- without a character: without it in front, and without it after
pub holds_none : (x c : ℕ) (cs : List ℕ) → holds x (c ∷ cs) ≡ false → (eqb c x ≡ false) × (holds x cs ≡ false)
unfolding holds
holds_none x c cs h = go (eqb c x) (holds x cs) h
  where
    go : (a b : Bool) → a || b ≡ false → (a ≡ false) × (b ≡ false)
    go true b e = absurd (false≢true (sym e))
    go false b e = (refl, e)

-- the first of two lists of citable texts
pub all_left : (a b : List (List ℕ)) → AllCitable (a ++ b) → AllCitable a
all_left [] b h = tt
all_left (t ∷ a) b h = (h.0, all_left a b h.1)

-- the second of two lists of citable texts
pub all_right : (a b : List (List ℕ)) → AllCitable (a ++ b) → AllCitable b
all_right [] b h = h
all_right (t ∷ a) b h = all_right a b h.1

not-true : (b : Bool) → not b ≡ true → b ≡ false
not-true true h = sym h
not-true false h = refl

-- what the test says of a text
pub citable_says : (t : List ℕ) → citable t ≡ true → Cited t
unfolding citable
citable_says t h =
    let a = and_both (is_utf8 t) (not (blank (decode t)) && not (holds cite_end (decode t))) h in
    let b = and_both (not (blank (decode t))) (not (holds cite_end (decode t))) a.1 in
    let s = utf8_sound t a.0 in
    record { valid = a.0; unicode = s.0; back = s.1; written = not-true (blank (decode t)) b.0; unclosed = not-true (holds cite_end (decode t)) b.1 }

-- characters that are not blank and hold no `]` encode to a citable text
pub citable_encoded : (cs : List ℕ) → Scalars cs → blank cs ≡ false → holds cite_end cs ≡ false → citable (encode cs) ≡ true
unfolding citable
citable_encoded cs s b h = let e = encoded cs s in rw (e.0, e.1, b, h)

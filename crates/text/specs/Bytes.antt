-- Byte strings. Assumes nothing.
use Rattle.std.specs.Prelude.{ℕ, suc, ◌-◌, List, [], ◌∷◌, ◌++◌, Bool, true, false, cond, ◌&&◌, Option, Some, None, length, take, drop, ltb, leb, eqb}

-- the test holds of every byte
abbrev pub all : (ℕ → Bool) → List ℕ → Bool
all f [] = true
all f (b ∷ s) = f b && all f s

-- the second begins with the first
abbrev pub begins : List ℕ → List ℕ → Bool
begins [] s = true
begins (a ∷ t) [] = false
begins (a ∷ t) (b ∷ s) = eqb b a && begins t s

-- the second ends with the first
abbrev pub ends : List ℕ → List ℕ → Bool
ends t s = leb (length t) (length s) && begins t (drop (length s - length t) s)

-- the two are equal
abbrev pub same : List ℕ → List ℕ → Bool
same t s = eqb (length s) (length t) && begins t s

-- where the first stands in the second for the first time, or the second's length
abbrev pub place : List ℕ → List ℕ → ℕ
place t [] = 0
place t (b ∷ s) = cond (begins t (b ∷ s)) 0 (suc (place t s))

-- the first stands somewhere in the second
abbrev pub has : List ℕ → List ℕ → Bool
has t s = ltb (place t s) (length s)

-- where the first stands in the second for the first time, if it does
abbrev pub position : List ℕ → List ℕ → Option ℕ
position t s = cond (has t s) (Some (place t s)) None

-- so many bytes from a place on
abbrev pub part : ℕ → ℕ → List ℕ → List ℕ
part from count s = take count (drop from s)

-- a list put over the front of another: behind it stands what stood there
abbrev pub over : {A : Type 0} → List A → List A → List A
over s old = s ++ drop (length s) old

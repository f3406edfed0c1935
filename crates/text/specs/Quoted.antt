-- Quoted texts, so that definitions name a text as it is written. Assumes nothing.
use Rattle.std.specs.Prelude.{List, ℕ}
use mathlib.Core.List as list
use Prim.Native.Char.{code}
use Prim.Native.String.{String, [], ◌∷◌}

-- the codes of a quoted text's characters
abbrev pub codes : String → List ℕ
codes [] = list.[]
codes (c ∷ s) = list.◌∷◌ (code c) (codes s)

-- the bytes of a quoted text of ASCII characters: their codes
abbrev pub ascii : String → List ℕ
ascii s = codes s

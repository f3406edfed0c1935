-- Quoted texts as bytes. Assumes nothing.
use Rattle.std.specs.Prelude.{List, ℕ}
use Prim.Native.String.{String}
use Rattle.text.specs.Quoted.{codes}
use Rattle.utf8.specs.Utf8.{encode}

-- a quoted text's bytes
abbrev pub bytes : String → List ℕ
bytes s = encode (codes s)

-- Bytes that are plain: visible ASCII other than `]`. Assumes nothing.
use Rattle.std.specs.Prelude.{◌≡◌, List, Bool, true, false, not, ◌&&◌, ℕ, eqb, leb}
use Rattle.text.specs.Bytes.{all}

-- a plain byte
unfoldable pub is_plain : ℕ → Bool
is_plain b = leb 0x21 b && (leb b 0x7E && not (eqb b 0x5D))

-- every byte is plain
abbrev pub all_plain : List ℕ → Bool
all_plain s = all is_plain s

-- for true, every byte is plain; for false, nothing is known
abbrev pub PlainIf : Bool → List ℕ → Type 0
PlainIf true s = all_plain s ≡ true
PlainIf false s = Unit {0}

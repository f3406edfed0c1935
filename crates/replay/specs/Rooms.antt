-- How long the buffers are that a request works in. Assumes nothing.
use Rattle.std.specs.Prelude.{ℕ, ◌≤◌, List, length}

-- the length of the longest answer: some words, and the digits of the longest field
abbrev pub room : ℕ
room = 65600

-- it is no longer than the byte string of the longest field
abbrev pub Fits : List ℕ → Type 0
Fits s = length s ≤ 32768

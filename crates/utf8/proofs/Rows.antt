-- Table 3-7, row by row: what a first byte begins. Assumes nothing.
use Rattle.std.specs.Prelude.{Some, None}
use Prim.Native.Nat.{ℕ, ◌-◌, ◌≤◌, ◌<◌}
use mathlib.Core.Path.{◌≡◌}
use native.Mathlib.Omega.{arith}
use borrow.Author.Tests.{lt-ltb, le-ltb}
use Rattle.utf8.specs.Utf8.{lead_of}

module _ (b : ℕ) where
  pub row_00 : b < 0x80 → lead_of b ≡ Some (0, 0x80, 0xBF, b)
  unfolding lead_of
  row_00 k = simp (lt-ltb b 0x80 k)

  pub row_80 : 0x80 ≤ b → b < 0xC2 → lead_of b ≡ None
  unfolding lead_of
  row_80 h k = simp (le-ltb b 0x80 h, lt-ltb b 0xC2 k)

  pub row_C2 : 0xC2 ≤ b → b < 0xE0 → lead_of b ≡ Some (1, 0x80, 0xBF, b - 0xC0)
  unfolding lead_of
  row_C2 h k = simp (le-ltb b 0x80 (omega arith), le-ltb b 0xC2 h, lt-ltb b 0xE0 k)

  pub row_E0 : 0xE0 ≤ b → b < 0xE1 → lead_of b ≡ Some (2, 0xA0, 0xBF, 0)
  unfolding lead_of
  row_E0 h k = simp (le-ltb b 0x80 (omega arith), le-ltb b 0xC2 (omega arith), le-ltb b 0xE0 h, lt-ltb b 0xE1 k)

  pub row_E1 : 0xE1 ≤ b → b < 0xED → lead_of b ≡ Some (2, 0x80, 0xBF, b - 0xE0)
  unfolding lead_of
  row_E1 h k = simp (le-ltb b 0x80 (omega arith), le-ltb b 0xC2 (omega arith), le-ltb b 0xE0 (omega arith), le-ltb b 0xE1 h, lt-ltb b 0xED k)

  pub row_ED : 0xED ≤ b → b < 0xEE → lead_of b ≡ Some (2, 0x80, 0x9F, 13)
  unfolding lead_of
  row_ED h k = simp (le-ltb b 0x80 (omega arith), le-ltb b 0xC2 (omega arith), le-ltb b 0xE0 (omega arith), le-ltb b 0xE1 (omega arith), le-ltb b 0xED h, lt-ltb b 0xEE k)

  pub row_EE : 0xEE ≤ b → b < 0xF0 → lead_of b ≡ Some (2, 0x80, 0xBF, b - 0xE0)
  unfolding lead_of
  row_EE h k = simp (le-ltb b 0x80 (omega arith), le-ltb b 0xC2 (omega arith), le-ltb b 0xE0 (omega arith), le-ltb b 0xE1 (omega arith), le-ltb b 0xED (omega arith), le-ltb b 0xEE h, lt-ltb b 0xF0 k)

  pub row_F0 : 0xF0 ≤ b → b < 0xF1 → lead_of b ≡ Some (3, 0x90, 0xBF, 0)
  unfolding lead_of
  row_F0 h k = simp (le-ltb b 0x80 (omega arith), le-ltb b 0xC2 (omega arith), le-ltb b 0xE0 (omega arith), le-ltb b 0xE1 (omega arith), le-ltb b 0xED (omega arith), le-ltb b 0xEE (omega arith), le-ltb b 0xF0 h, lt-ltb b 0xF1 k)

  pub row_F1 : 0xF1 ≤ b → b < 0xF4 → lead_of b ≡ Some (3, 0x80, 0xBF, b - 0xF0)
  unfolding lead_of
  row_F1 h k = simp (le-ltb b 0x80 (omega arith), le-ltb b 0xC2 (omega arith), le-ltb b 0xE0 (omega arith), le-ltb b 0xE1 (omega arith), le-ltb b 0xED (omega arith), le-ltb b 0xEE (omega arith), le-ltb b 0xF0 (omega arith), le-ltb b 0xF1 h, lt-ltb b 0xF4 k)

  pub row_F4 : 0xF4 ≤ b → b < 0xF5 → lead_of b ≡ Some (3, 0x80, 0x8F, 4)
  unfolding lead_of
  row_F4 h k = simp (le-ltb b 0x80 (omega arith), le-ltb b 0xC2 (omega arith), le-ltb b 0xE0 (omega arith), le-ltb b 0xE1 (omega arith), le-ltb b 0xED (omega arith), le-ltb b 0xEE (omega arith), le-ltb b 0xF0 (omega arith), le-ltb b 0xF1 (omega arith), le-ltb b 0xF4 h, lt-ltb b 0xF5 k)

  pub row_F5 : 0xF5 ≤ b → lead_of b ≡ None
  unfolding lead_of
  row_F5 h = simp (le-ltb b 0x80 (omega arith), le-ltb b 0xC2 (omega arith), le-ltb b 0xE0 (omega arith), le-ltb b 0xE1 (omega arith), le-ltb b 0xED (omega arith), le-ltb b 0xEE (omega arith), le-ltb b 0xF0 (omega arith), le-ltb b 0xF1 (omega arith), le-ltb b 0xF4 (omega arith), le-ltb b 0xF5 h)

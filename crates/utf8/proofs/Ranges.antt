-- The test of a range, from facts. Assumes nothing.
use Prim.Native.Nat.{ℕ, ◌≤◌, ◌<◌}
use mathlib.Core.Path.{◌≡◌, refl}
use mathlib.Core.Bool.{Bool, true, false, ◌&&◌}
use mathlib.Core.Logic.{◌⊎◌, ⊎_elim}
use lib.Dec.{leb}
use borrow.Author.Tests.{le-leb, lt-leb, leb-true}
use Rattle.laws.specs.Tests.{and_both}
use Rattle.utf8.specs.Utf8.{within}

pub inside_range : (low high b : ℕ) → low ≤ b → b ≤ high → within low high b ≡ true
inside_range low high b h k = simp (le-leb low b h, le-leb b high k)

pub below_range : (low high b : ℕ) → b < low → within low high b ≡ false
below_range low high b h = simp (lt-leb low b h)

pub above_range : (low high b : ℕ) → high < b → within low high b ≡ false
above_range low high b h = and_no (leb low b) (leb b high) (lt-leb b high h)
  where
    and_no : (x y : Bool) → y ≡ false → (x && y) ≡ false
    and_no true y e = e
    and_no false y e = refl

pub outside : (low high b : ℕ) → (b < low) ⊎ (high < b) → within low high b ≡ false
outside low high b h = ⊎_elim (below_range low high b) (above_range low high b) h

-- what the test says
pub within_both : (low high x : ℕ) → within low high x ≡ true → (low ≤ x) × (x ≤ high)
within_both low high x e =
    let r = and_both (leb low x) (leb x high) e in
    (leb-true low x r.0, leb-true x high r.1)

-- What `code_of` says at a place of a list, from the byte there. Assumes nothing.
use Prim.Native.Nat.{ℕ, zero, suc, ◌+◌, ◌-◌, ◌*◌, ◌^◌, ◌≤◌, ◌<◌}
use mathlib.Core.Path.{◌≡◌, refl, sym}
use mathlib.Core.Bool.{false}
use mathlib.Core.List.{List}
use Rattle.std.specs.Prelude.{Some, None}
use native.Mathlib.Nat.{not-suc-le-zero, pow-suc, mul_assoc, mul-le-mul_right, mul-le-mul_left, mul_comm, one-le-pow}
use native.Mathlib.Numerals.{add-one, sub-one}
use native.Mathlib.Omega.{arith}
use lib.ListN.{length, get_or, drop, drop_of_length-le}
use lib.Seq.{drop-cons}
use Rattle.utf8.specs.Utf8.{code_of, within}
use Rattle.utf8.proofs.Ranges.{inside_range, below_range, above_range}

module _ (s : List ℕ) (i from to value : ℕ) where
  pub code_past : (due : ℕ) → zero < due → length s ≤ i → code_of due from to value (drop i s) ≡ None
  code_past zero p h = absurd (not-suc-le-zero p)
  code_past (suc k) p h = rw (drop_of_length-le s h)

  code_no : (due : ℕ) → zero < due → i < length s → within from to (get_or s i 0) ≡ false → code_of due from to value (drop i s) ≡ None
  code_no zero p h t = absurd (not-suc-le-zero p)
  code_no (suc k) p h t = rw (drop-cons s i 0 h, t)

  pub code_low : (due : ℕ) → zero < due → i < length s → get_or s i 0 < from → code_of due from to value (drop i s) ≡ None
  code_low due p h l = code_no due p h (below_range from to (get_or s i 0) l)

  pub code_high : (due : ℕ) → zero < due → i < length s → to < get_or s i 0 → code_of due from to value (drop i s) ≡ None
  code_high due p h l = code_no due p h (above_range from to (get_or s i 0) l)

  pub code_next : (due : ℕ) → zero < due → i < length s → from ≤ get_or s i 0 → get_or s i 0 ≤ to → code_of (due - 1) 0x80 0xBF (value * 64 + (get_or s i 0 - 0x80)) (drop (i + 1) s) ≡ code_of due from to value (drop i s)
  code_next zero p h l m = absurd (not-suc-le-zero p)
  code_next (suc k) p h l m = rw (drop-cons s i 0 h, inside_range from to (get_or s i 0) l m, sub-one, add-one)

pub code_done : (due from to value : ℕ) (s : List ℕ) → due ≤ zero → code_of due from to value s ≡ Some value
code_done zero from to value s h = refl
code_done (suc k) from to value s h = absurd (not-suc-le-zero h)

-- the code stays small: with `due` bytes to come it is below 2 ^ 21 / 64 ^ due
abbrev pub Cap : ℕ → ℕ → Type 0
Cap value due = (value + 1) * 64 ^ due ≤ 2097152

pub cap_now : (value due : ℕ) → zero < due → Cap value due → (value + 1) * 64 ≤ 2097152
cap_now value zero p h = absurd (not-suc-le-zero p)
cap_now value (suc k) p h =
    let e : (value + 1) * 64 ^ suc k ≡ (value + 1) * 64 * 64 ^ k = rw (pow-suc 64 k, mul_comm (64 ^ k) 64) (sym (mul_assoc (value + 1) 64 (64 ^ k))) in
    let l : (value + 1) * 64 * 1 ≤ (value + 1) * 64 * 64 ^ k = mul-le-mul_left ((value + 1) * 64) (one-le-pow k 64 (omega arith)) in
    omega arith

pub cap_next : (value due d : ℕ) → zero < due → d < 64 → Cap value due → Cap (value * 64 + d) (due - 1)
cap_next value zero d p l h = absurd (not-suc-le-zero p)
cap_next value (suc k) d p l h =
    let e : (value + 1) * 64 ^ suc k ≡ (value + 1) * 64 * 64 ^ k = rw (pow-suc 64 k, mul_comm (64 ^ k) 64) (sym (mul_assoc (value + 1) 64 (64 ^ k))) in
    let m : (value * 64 + d + 1) * 64 ^ k ≤ (value + 1) * 64 * 64 ^ k = mul-le-mul_right (64 ^ k) (omega arith) in
    rw sub-one (omega arith)

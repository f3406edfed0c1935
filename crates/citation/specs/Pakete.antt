-- The bounds of a Paket citation (docs/SEMANTICS.md, 'Package bounds'). Assumes nothing.
use Rattle.std.specs.Prelude.{ℕ, ◌+◌, List, cond, ◌&&◌, length, take, drop, ltb, eqb, Result, Ok, Err, Option, Some, None}
use Rattle.refusal.specs.declared.Refusal.{Refusal}
use Rattle.refusal.specs.Result.{unless}
use Rattle.refusal.specs.declared.Refusal.TheVariants.{NotAPaket}
use Rattle.text.specs.Quoted.{ascii}
use Rattle.text.specs.Bytes.{same, place, has}
use Rattle.text.specs.Digits.{all_digits, number_up_to}
use Rattle.utf8.specs.Limits.{text_limit, admitted}
use Rattle.citation.specs.declared.Paket.{Paket}

-- the largest bound: 64 bits
abbrev pub largest_bound : ℕ
largest_bound = 18446744073709551615

-- from low on, without an upper bound
abbrev pub unbounded : ℕ → ℕ → Paket
unbounded name low = record { name = name; low = low; high = None }

-- from low to high; high may be the smaller
abbrev pub bounded : ℕ → ℕ → ℕ → Paket
bounded name low high = record { name = name; low = low; high = Some high }

-- the upper bound as a number
abbrev pub high_of : ℕ → ℕ → Option ℕ → Result Paket Refusal
high_of name low (Some high) = Ok (bounded name low high)
high_of name low None = Err NotAPaket

-- the lower bound as a number; then the upper bound, or `n` for none
abbrev pub low_of : ℕ → Option ℕ → List ℕ → Result Paket Refusal
low_of name (Some low) h = cond (same (ascii "n") h) (Ok (unbounded name low)) (high_of name low (number_up_to largest_bound h))
low_of name None h = Err NotAPaket

-- the bounds on both sides of the first `..`
unfoldable pub range_of : ℕ → List ℕ → Result Paket Refusal
range_of name r =
    let at = place (ascii "..") r in
    unless (has (ascii "..") r) NotAPaket (low_of name (number_up_to largest_bound (take at r)) (drop (at + 2) r))

-- what follows the name: nothing, which is 0 without an upper bound, or the two bounds
abbrev pub bounds_of : ℕ → List ℕ → Result Paket Refusal
bounds_of name r = cond (eqb (length r) 0) (Ok (unbounded name 0)) (range_of name r)

-- the Paket that a text names: one or more digits and the first `P` are its name, then the bounds
unfoldable pub paket_of : List ℕ → Result Paket Refusal
paket_of t =
    let p = place (ascii "P") t in
    unless (has (ascii "P") t && (ltb 0 p && all_digits (take p t))) NotAPaket (bounds_of (p + 1) (drop (p + 1) t))

-- the answer on a text
abbrev pub paket_answer : List ℕ → Result Paket Refusal
paket_answer t = admitted text_limit t (paket_of t)

-- Laws of the calendar: the days before one of the first 400 years, without whole weeks, and what a last Sunday is. Assumes nothing.
use Prim.Native.Nat.{ℕ, ◌+◌, ◌-◌, ◌/◌, ◌%◌, ◌≤◌, ◌<◌}
use mathlib.Core.Path.{◌≡◌}
use native.Mathlib.Nat.{mod-lt}
use native.Mathlib.Omega.{arith}
use lib.ListN.{replicate}
use lib.Dec.{eqb, eqb→eq}
use Rattle.laws.specs.Tables.{at}
use Rattle.calendar.specs.Calendar.{before_year, before_month, weekday, last_sunday}

-- the leap years before one of the first 400: every fourth, but of the hundredth ones the year 0 only
abbrev pub leaps : ℕ → ℕ
leaps y = (y + 3) / 4 + (y + 399) / 400 - (y + 99) / 100

-- a year leaves one day beside its weeks, a leap year two: one test, computed at each of the 400 years
pub year_weeks : (y : ℕ) → y < 400 → (y + leaps y) % 7 ≡ before_year y % 7
year_weeks y l = eqb→eq _ _ (at (λ (k x : ℕ). eqb ((k + leaps k) % 7) (before_year k % 7)) (replicate 400 0) 0 tt y l)

-- a last Sunday is a Sunday, and the next one is past the 31st
pub sunday : (y m : ℕ) → (weekday y m (last_sunday y m) ≡ 0) × (24 < last_sunday y m) × (last_sunday y m ≤ 31)
unfolding last_sunday
sunday y m =
    let n = before_year y + before_month y m in
    let w = (n + 30 + 6) % 7 in
    let l : w < 7 = mod-lt (n + 30 + 6) (omega arith) in
    let z : (n + (31 - w - 1) + 6) % 7 ≡ 0 = omega arith in
    (z, omega arith, omega arith)

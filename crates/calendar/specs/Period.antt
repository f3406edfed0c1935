-- Laws of the calendar's period: weekdays recur after 400 years, which are 20871 weeks. Assumes nothing.
use Rattle.std.specs.Prelude.{ℕ, zero, suc, ◌+◌, ◌-◌, ◌*◌, ◌/◌, ◌%◌, ◌≤◌, ◌≡◌, refl, Bool, cond, ◌&&◌, get_or, eqb}
use Rattle.std.proofs.Common.{sym, ap, ◌∙◌, suc-add, arith}
use Rattle.calendar.specs.Calendar.{era_start, is_leap, year_days, common_days, month_days, before_year, before_month, last_sunday}

leap_400 : (y : ℕ) → is_leap (y + 400) ≡ is_leap y
leap_400 y =
    let a : (y + 400) % 4 ≡ y % 4 = omega arith in
    let b : (y + 400) % 100 ≡ y % 100 = omega arith in
    let c : (y + 400) % 400 ≡ y % 400 = omega arith in
    rw (a, b, c)

-- a period has 146097 days
before_400 : (y : ℕ) → before_year (y + 400) ≡ before_year y + 146097
before_400 zero = refl
before_400 (suc y) =
    rw (suc-add y 400, before_400 y, leap_400 y) (turn (before_year y) (year_days y))
  where
    turn : (b d : ℕ) → b + 146097 + d ≡ b + d + 146097
    turn b d = omega arith

month_400 : (y m : ℕ) → month_days (y + 400) m ≡ month_days y m
unfolding month_days
month_400 y m = ap (λ (t : Bool). cond (eqb m 2 && t) 29 (get_or common_days m 0)) (leap_400 y)

before_month_400 : (y m : ℕ) → before_month (y + 400) m ≡ before_month y m
before_month_400 y zero = refl
before_month_400 y (suc m) = rw (before_month_400 y m, month_400 y m)

later : (y m : ℕ) → last_sunday (y + 400) m ≡ last_sunday y m
unfolding last_sunday
later y m = rw (before_400 y, before_month_400 y m) (week (before_year y) (before_month y m))
  where
    week : (a b : ℕ) → 31 - (a + 146097 + b + 30 + 6) % 7 ≡ 31 - (a + b + 30 + 6) % 7
    week a b = omega arith

periods : (k y m : ℕ) → last_sunday (y + k * 400) m ≡ last_sunday y m
periods zero y m = ap (λ (x : ℕ). last_sunday x m) (omega arith)
periods (suc k) y m = ap (λ (x : ℕ). last_sunday x m) (omega arith) ∙ later (y + k * 400) m ∙ periods k y m

-- the last Sunday depends on the year's remainder by 400 alone
pub last_sunday_400 : (x y m : ℕ) → x % 400 ≡ y % 400 → last_sunday x m ≡ last_sunday y m
last_sunday_400 x y m e = sym (reduced x) ∙ ap (λ (r : ℕ). last_sunday r m) e ∙ reduced y
  where
    reduced : (z : ℕ) → last_sunday (z % 400) m ≡ last_sunday z m
    reduced z = sym (periods (z / 400) (z % 400) m) ∙ ap (λ (x : ℕ). last_sunday x m) (omega arith)

-- the remainder of the count is the remainder of the year n
pub remainder_from_0 : (n : ℕ) → (era_start + n) % 400 ≡ n % 400
remainder_from_0 n = omega arith

-- and that of the year -n: it and n make whole periods
pub remainder_before_0 : (n : ℕ) → n ≤ era_start → (n + (era_start - n) % 400) % 400 ≡ 0
remainder_before_0 n l = omega arith

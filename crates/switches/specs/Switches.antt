-- When the calendar agrees with a counted switch date. Assumes nothing.
use Rattle.std.specs.Prelude.{ℕ, Bool, cond, not, ◌&&◌, eqb}
use Rattle.calendar.specs.Calendar.{last_sunday, is_mesz}

-- at 01:00 of the day summer time ends in October, and begins in another month
unfoldable pub switching : ℕ → ℕ → ℕ → Bool
switching y m d = cond (eqb m 10) (not (is_mesz y m d 1 0) && is_mesz y m d 0 59) (not (is_mesz y m d 0 59) && is_mesz y m d 1 0)

-- the day is the month's last Sunday, and summer time switches on it
unfoldable pub agreeing : ℕ → ℕ → ℕ → Bool
agreeing y m d = eqb (last_sunday y m) d && switching y m d

-- 1 for a date that differs, else 0
unfoldable pub differing : ℕ → ℕ → ℕ → ℕ
differing y m d = cond (agreeing y m d) 0 1

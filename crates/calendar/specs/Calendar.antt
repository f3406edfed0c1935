-- The proleptic Gregorian calendar (docs/SEMANTICS.md, 'Day boundaries and summer time'). Assumes nothing.
use Rattle.std.specs.Prelude.{ℕ, zero, suc, ◌+◌, ◌-◌, ◌*◌, ◌%◌, ◌≡◌, refl, List, [], ◌∷◌, Bool, true, cond, not, ◌&&◌, ◌||◌, get_or, ltb, leb, eqb}

-- years are counted from this many before the year 0, a multiple of 400: year n is `era_start + n`, year -n is `era_start - n`
abbrev pub era_start : ℕ
era_start = 1200

-- every fourth year, but of the hundredth years every fourth only
abbrev pub is_leap : ℕ → Bool
is_leap y = eqb (y % 4) 0 && (not (eqb (y % 100) 0) || eqb (y % 400) 0)

-- the year 0 is one of them
pub year_0_leap : is_leap era_start ≡ true
year_0_leap = refl

-- the days of a year
abbrev pub year_days : ℕ → ℕ
year_days y = cond (is_leap y) 366 365

-- the days of the months of a common year, by month from 1
abbrev pub common_days : List ℕ
common_days = 0 ∷ 31 ∷ 28 ∷ 31 ∷ 30 ∷ 31 ∷ 30 ∷ 31 ∷ 31 ∷ 30 ∷ 31 ∷ 30 ∷ 31 ∷ []

-- the days of a month of a year; what is no month has none
unfoldable pub month_days : ℕ → ℕ → ℕ
month_days y m = cond (eqb m 2 && is_leap y) 29 (get_or common_days m 0)

-- the days before a year
abbrev pub before_year : ℕ → ℕ
before_year zero = 0
before_year (suc y) = before_year y + year_days y

-- the days of a year before one of its months
abbrev pub before_month : ℕ → ℕ → ℕ
before_month y zero = 0
before_month y (suc m) = before_month y m + month_days y m

-- a day that its month has
unfoldable pub is_date : ℕ → ℕ → ℕ → Bool
is_date y m d = leb 1 d && leb d (month_days y m)

-- an hour and a minute that a day has
unfoldable pub is_time : ℕ → ℕ → Bool
is_time h i = leb h 23 && leb i 59

-- days since the first of January of the first year counted
abbrev pub day_number : ℕ → ℕ → ℕ → ℕ
day_number y m d = before_year y + before_month y m + (d - 1)

-- the day of the week, 0 for Sunday: the first of January of a 400th year, such as 2000, is a Saturday
abbrev pub weekday : ℕ → ℕ → ℕ → ℕ
weekday y m d = (day_number y m d + 6) % 7

-- the last Sunday of a month of 31 days
unfoldable pub last_sunday : ℕ → ℕ → ℕ
last_sunday y m = 31 - weekday y m 31

-- MMDDhhmm as a number: within a year the order of these is that of time
abbrev pub moment_of : ℕ → ℕ → ℕ → ℕ → ℕ
moment_of m d h i = ((m * 100 + d) * 100 + h) * 100 + i

-- summer time: it begins at 01:00 UTC on March's last Sunday, and is over at 01:00 UTC on October's
unfoldable pub is_mesz : ℕ → ℕ → ℕ → ℕ → ℕ → Bool
is_mesz y m d h i = leb (moment_of 3 (last_sunday y 3) 1 0) (moment_of m d h i) && ltb (moment_of m d h i) (moment_of 10 (last_sunday y 10) 1 0)

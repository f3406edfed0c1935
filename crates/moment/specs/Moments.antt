-- Dates and times as format 303 of a DTM segment writes them, and the day boundaries among them (docs/SEMANTICS.md, 'Day boundaries and
-- summer time'). Assumes nothing.
use Rattle.std.specs.Prelude.{ℕ, ◌+◌, List, Bool, cond, ◌&&◌, length, take, drop, eqb}
use Rattle.text.specs.Quoted.{ascii}
use Rattle.text.specs.Bytes.{begins, ends, part}
use Rattle.text.specs.Digits.{all_digits, nat_of}
use Rattle.calendar.specs.Calendar.{era_start, is_date, is_time, is_mesz}
use Rattle.moment.specs.declared.Moment.{Moment}

-- the shape CCYYMMDDHHMMZZZ: twelve digits, and three bytes behind them
unfoldable pub is_dtm_303 : List ℕ → Bool
is_dtm_303 v = eqb (length v) 15 && all_digits (take 12 v)

-- full form: this shape, and `+00` at its end, which says that the time is UTC
unfoldable pub is_full_form : List ℕ → Bool
is_full_form v = is_dtm_303 v && ends (ascii "+00") v

-- the number that so many digits write, from a place on
abbrev pub number_at : ℕ → ℕ → List ℕ → ℕ
number_at from count v = nat_of (part from count v)

-- the year, as the calendar counts it, month, day, hour and minute of a value in full form
unfoldable pub moment_of : List ℕ → Moment
moment_of v = record { year = era_start + number_at 0 4 v; month = number_at 4 2 v; day = number_at 6 2 v; hour = number_at 8 2 v; minute = number_at 10 2 v }

-- the date exists, and the day has this time
unfoldable pub exists : Moment → Bool
exists m = is_date m.year m.month m.day && is_time m.hour m.minute

-- the first of two texts in summer time, else the second
unfoldable pub of_season : Moment → List ℕ → List ℕ → List ℕ
of_season m summer winter = cond (is_mesz m.year m.month m.day m.hour m.minute) summer winter

-- a day boundary: in full form, with a date and a time that exist, and from byte 8 the hours and minutes of the season
unfoldable pub day_boundary : List ℕ → List ℕ → List ℕ → Bool
day_boundary summer winter v = is_full_form v && (exists (moment_of v) && begins (of_season (moment_of v) summer winter) (drop 8 v))

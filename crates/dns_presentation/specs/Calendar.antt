-- The times of signatures as YYYYMMDDHHmmSS in UTC (RFC 4034, 3.2): seconds since the start of 1970, without leap seconds.
use Rattle.std.specs.Prelude.{ℕ, zero, suc, ◌+◌, ◌-◌, ◌/◌, ◌%◌, nat_lt, List, [], ◌∷◌, ◌++◌, if◌then◌else◌}
use Rattle.httpdate.specs.Calendar.{days_in_year, days_in_month}

-- the last two digits of a number
abbrev pub two_digits : ℕ → List ℕ
two_digits n = (48 + n / 10 % 10) ∷ (48 + n % 10) ∷ []

-- the year of the day that comes so many days after the first of a year, and its number in that year, from 0. The first number
-- says how many years are passed at most.
unfoldable pub year_of : ℕ → ℕ → ℕ → ℕ × ℕ
year_of zero year days = (year, days)
year_of (suc years) year days =
    if nat_lt days (days_in_year year) then (year, days) else year_of years (year + 1) (days - days_in_year year)

-- the month of the day that comes so many days after the first of a month, and its number in that month, from 0
unfoldable pub month_of : ℕ → ℕ → ℕ → ℕ → ℕ × ℕ
month_of zero year month days = (month, days)
month_of (suc months) year month days =
    if nat_lt days (days_in_month year month) then (month, days)
    else month_of months year (month + 1) (days - days_in_month year month)

abbrev pub month_text : ℕ × ℕ → List ℕ
month_text (month, days) = two_digits month ++ two_digits (days + 1)

abbrev pub year_text : ℕ × ℕ → List ℕ
year_text (year, days) = two_digits (year / 100) ++ two_digits year ++ month_text (month_of 11 year 1 days)

-- a day, counted from 1 January 1970: year, month and day of the month. The last day of 32 bits of seconds lies in 2106.
unfoldable pub day_text : ℕ → List ℕ
day_text days = year_text (year_of 136 1970 days)

-- a second of a day: hour, minute and second
abbrev pub clock_text : ℕ → List ℕ
clock_text seconds = two_digits (seconds / 3600) ++ two_digits (seconds / 60 % 60) ++ two_digits (seconds % 60)

-- a time
unfoldable pub time_text : ℕ → List ℕ
time_text seconds = day_text (seconds / 86400) ++ clock_text (seconds % 86400)

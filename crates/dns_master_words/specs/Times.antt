-- The times of signatures as words (RFC 4034, 3.2): fourteen digits are YYYYMMDDHHmmSS in UTC, fewer are the seconds since the start of
-- 1970, without leap seconds.
use Rattle.std.specs.Prelude.{ℕ, ◌+◌, ◌-◌, ◌*◌, Bool, ◌==◌, ◌&&◌, nat_le, nat_lt, List, length, if◌then◌else◌, Option, None, Some, slice_index}
use Rattle.std.specs.Str.{all_ascii_digits}
use Rattle.httpdate.specs.Calendar.{days_in_month, seconds_from_civil}
use Rattle.dns_text.specs.Words.{decimal_in}

-- the number of two decimal digits
abbrev pub two_at : List ℕ → ℕ → ℕ
two_at word place = (slice_index word place - 48) * 10 + (slice_index word (place + 1) - 48)

-- a moment of the calendar
pub record MomentValue : Type 0 where
  pub year : ℕ
  pub month : ℕ
  pub day : ℕ
  pub hour : ℕ
  pub minute : ℕ
  pub second : ℕ

-- what fourteen digits say
unfoldable pub moment_of : List ℕ → MomentValue
moment_of word = record {
  year = two_at word 0 * 100 + two_at word 2;
  month = two_at word 4;
  day = two_at word 6;
  hour = two_at word 8;
  minute = two_at word 10;
  second = two_at word 12;
}

abbrev pub is_year : ℕ → Bool
is_year year = nat_le 1970 year && nat_le year 2106

abbrev pub is_day : MomentValue → Bool
is_day m = nat_le 1 m.month && nat_le m.month 12 && nat_le 1 m.day && nat_le m.day (days_in_month m.year m.month)

abbrev pub is_clock : MomentValue → Bool
is_clock m = nat_lt m.hour 24 && nat_lt m.minute 60 && nat_lt m.second 60

-- the calendar has the moment, from 1970 up to the year of the last second that 32 bits say
unfoldable pub is_moment : MomentValue → Bool
is_moment m = is_year m.year && is_day m && is_clock m

unfoldable pub seconds_of : MomentValue → ℕ
seconds_of m = seconds_from_civil m.year m.month m.day m.hour m.minute m.second

-- the seconds of a moment, if they have 32 bits
unfoldable pub moment_seconds : MomentValue → Option ℕ
moment_seconds m = if is_moment m && nat_le (seconds_of m) 4294967295 then Some (seconds_of m) else None

-- the seconds of fourteen digits
abbrev pub date_in : List ℕ → Option ℕ
date_in word = if all_ascii_digits word then moment_seconds (moment_of word) else None

-- the seconds of a time
unfoldable pub time_in : List ℕ → Option ℕ
time_in word = if length word == 14 then date_in word else decimal_in 4294967295 word

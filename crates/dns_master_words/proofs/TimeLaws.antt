-- Times are read as they were written.
use Rattle.std.proofs.Common.{◌≡◌, ℕ, zero, suc, ◌+◌, ◌-◌, ◌*◌, ◌/◌, ◌%◌, ◌<◌, ◌≤◌, true, ◌||◌, ◌==◌, List, ◌++◌, length, Some, refl, sym, ap, subst, ◌∙◌, arith, inl, inr}
use Rattle.std.specs.Prelude.{nat_le, nat_lt}
use Rattle.std.specs.Char.{is_ascii_digit}
use Rattle.std.specs.Str.{all_ascii_digits}
use Rattle.std.proofs.lemmas.Bool.{cases_Bool}
use Rattle.std.proofs.lemmas.Bool.Decides.{nat_tests}
use Rattle.httpdate.specs.Calendar.{days_in_month, days_in_year, days_of_months, days_of_years, is_leap_year}
use Rattle.dns_presentation.specs.Calendar.{clock_text, day_text, month_of, month_text, time_text, two_digits, year_of, year_text}
use Rattle.dns_master_words.specs.Times.{MomentValue, is_moment, moment_of, moment_seconds, seconds_of, time_in, two_at}

-- ---- years and months that are passed

pub none_passed : days_of_years 0 ≡ 0
unfolding days_of_years
none_passed = refl

pub no_month_passed : (year : ℕ) → days_of_months year 0 ≡ 0
unfolding days_of_months
no_month_passed year = refl

pub years_more : (n : ℕ) → days_of_years (n + 1) ≡ days_of_years n + days_in_year (1970 + n)
unfolding days_of_years
years_more n = let next : n + 1 ≡ suc n = omega arith in rw next refl

pub year_short : (year : ℕ) → days_in_year year ≤ 366
year_short year =
    elim (cases_Bool (is_leap_year year)) [ inl leap ↦ rw leap (omega arith) | inr plain ↦ rw plain (omega arith) ]

pub months_more : (year n : ℕ) → days_of_months year (n + 1) ≡ days_of_months year n + days_in_month year (n + 1)
unfolding days_of_months
months_more year n = let next : n + 1 ≡ suc n = omega arith in rw next refl

pub month_short : (year month : ℕ) → days_in_month year month ≤ 31
month_short year month =
    elim (cases_Bool (month == 2)) [
      | inl two ↦ elim (cases_Bool (is_leap_year year)) [
        | inl leap ↦ rw (two, leap) (omega arith)
        | inr plain ↦ rw (two, plain) (omega arith)
      ]
      | inr other ↦ elim (cases_Bool ((month == 4) || (month == 6) || (month == 9) || (month == 11))) [
        | inl short ↦ rw (other, short) (omega arith)
        | inr long ↦ rw (other, long) (omega arith)
      ]
    ]

-- ---- the year of a day

-- the year that a day lies in, and its number in that year
record IsYear (days : ℕ) (found : ℕ × ℕ) : Type 0 where
  from : 1970 ≤ found.0
  to : found.0 ≤ 2106
  whole : days_of_years (found.0 - 1970) + found.1 ≡ days
  within : found.0 < 2106 → found.1 < days_in_year found.0

year_walk : (n k days : ℕ) → n + k ≡ 136 → IsYear (days_of_years k + days) (year_of n (1970 + k) days)
unfolding year_of
year_walk zero k days left =
    let back : 1970 + k - 1970 ≡ k = omega arith in
    record {
      from = omega arith;
      to = omega (arith, left);
      whole = ap (λ years. days_of_years years + days) back;
      within = λ before. absurd (omega (arith, left, before));
    }
year_walk (suc n) k days left =
    elim (cases_Bool (nat_lt days (days_in_year (1970 + k)))) [
      | inl here ↦
          let back : 1970 + k - 1970 ≡ k = omega arith in
          let short : days < days_in_year (1970 + k) = grind (arith, nat_tests, here) in
          let found : IsYear (days_of_years k + days) (1970 + k, days) =
          record {
            from = omega arith;
            to = omega (arith, left);
            whole = ap (λ years. days_of_years years + days) back;
            within = λ before. short;
          } in
          rw here found
      | inr later ↦
          let long : days_in_year (1970 + k) ≤ days = grind (arith, nat_tests, later) in
          let size = years_more k in
          let sum : days_of_years (k + 1) + (days - days_in_year (1970 + k)) ≡ days_of_years k + days =
          omega (arith, size, long) in
          let more = year_walk n (k + 1) (days - days_in_year (1970 + k)) (omega (arith, left)) in
          let next : 1970 + (k + 1) ≡ 1970 + k + 1 = omega arith in
          let moved : IsYear (days_of_years k + days) (year_of n (1970 + (k + 1)) (days - days_in_year (1970 + k))) =
          subst (λ d. IsYear d (year_of n (1970 + (k + 1)) (days - days_in_year (1970 + k)))) sum more in
          rw later
          (subst (λ y. IsYear (days_of_years k + days) (year_of n y (days - days_in_year (1970 + k)))) next moved)
    ]

-- ---- the month of a day

record IsMonth (year days : ℕ) (found : ℕ × ℕ) : Type 0 where
  from : 1 ≤ found.0
  to : found.0 ≤ 12
  whole : days_of_months year (found.0 - 1) + found.1 ≡ days
  within : found.0 < 12 → found.1 < days_in_month year found.0

month_walk : (n year k days : ℕ) → n + k ≡ 11
    → IsMonth year (days_of_months year k + days) (month_of n year (k + 1) days)
unfolding month_of
month_walk zero year k days left =
    let back : k + 1 - 1 ≡ k = omega arith in
    record {
      from = omega arith;
      to = omega (arith, left);
      whole = ap (λ months. days_of_months year months + days) back;
      within = λ before. absurd (omega (arith, left, before));
    }
month_walk (suc n) year k days left =
    elim (cases_Bool (nat_lt days (days_in_month year (k + 1)))) [
      | inl here ↦
          let back : k + 1 - 1 ≡ k = omega arith in
          let short : days < days_in_month year (k + 1) = grind (arith, nat_tests, here) in
          let found : IsMonth year (days_of_months year k + days) (k + 1, days) =
          record {
            from = omega arith;
            to = omega (arith, left);
            whole = ap (λ months. days_of_months year months + days) back;
            within = λ before. short;
          } in
          rw here found
      | inr later ↦
          let long : days_in_month year (k + 1) ≤ days = grind (arith, nat_tests, later) in
          let size = months_more year k in
          let sum : days_of_months year (k + 1) + (days - days_in_month year (k + 1)) ≡ days_of_months year k + days =
          omega (arith, size, long) in
          let more = month_walk n year (k + 1) (days - days_in_month year (k + 1)) (omega (arith, left)) in
          rw later
          (subst (λ d. IsMonth year d (month_of n year (k + 1 + 1) (days - days_in_month year (k + 1)))) sum more)
    ]

-- ---- the last year and the last month

years_reach : days_of_years 136 ≡ 49673
unfolding days_of_years
years_reach = refl

last_year_long : 365 ≤ days_in_year 2106
last_year_long = omega arith

months_reach : (year : ℕ) → days_of_months year 11 + 31 ≡ days_in_year year
unfolding days_of_months
months_reach year =
    elim (cases_Bool (is_leap_year year)) [ inl leap ↦ rw leap refl | inr plain ↦ rw plain refl ]

year_day : (days : ℕ) (found : ℕ × ℕ) → days ≤ 49710 → IsYear days found → found.1 < days_in_year found.0
year_day days (year, rest) most is =
    elim (cases_Bool (nat_lt year 2106)) [
      | inl before ↦ let early : year < 2106 = grind (arith, nat_tests, before) in is.within early
      | inr after ↦
          let to = is.to in
          let late : 2106 ≤ year = grind (arith, nat_tests, after) in
          let last : year ≡ 2106 = omega (arith, to, late) in
          let years : year - 1970 ≡ 136 = omega (arith, last) in
          let whole = is.whole in
          let passed : days_of_years (year - 1970) ≡ 49673 = ap days_of_years years ∙ years_reach in
          let short : rest < 365 = omega (arith, whole, passed, most) in
          let long : 365 ≤ days_in_year year = subst (λ y. 365 ≤ days_in_year y) (sym last) last_year_long in
          omega (arith, short, long)
    ]

month_day : (year days : ℕ) (found : ℕ × ℕ) → days < days_in_year year → IsMonth year days found
    → found.1 < days_in_month year found.0
month_day year days (month, rest) most is =
    elim (cases_Bool (nat_lt month 12)) [
      | inl before ↦ let early : month < 12 = grind (arith, nat_tests, before) in is.within early
      | inr after ↦
          let to = is.to in
          let late : 12 ≤ month = grind (arith, nat_tests, after) in
          let last : month ≡ 12 = omega (arith, to, late) in
          let months : month - 1 ≡ 11 = omega (arith, last) in
          let whole = is.whole in
          let passed : days_of_months year (month - 1) ≡ days_of_months year 11 = ap (days_of_months year) months in
          let reach = months_reach year in
          let short : rest < 31 = omega (arith, whole, passed, reach, most) in
          subst (λ m. rest < days_in_month year m) (sym last) short
    ]

-- ---- digits

digit_is : (n : ℕ) → is_ascii_digit (48 + n % 10) ≡ true
digit_is n = grind (arith, nat_tests)

two_back : (n : ℕ) → (48 + n / 10 % 10 - 48) * 10 + (48 + n % 10 - 48) ≡ n % 100
two_back n = omega arith

-- a date and a second of a day as fourteen digits
abbrev digits_of : ℕ → ℕ → ℕ → ℕ → List ℕ
digits_of year month day second =
    (two_digits (year / 100) ++ two_digits year ++ two_digits month ++ two_digits (day + 1)) ++ clock_text second

are_digits : (year month day second : ℕ) → all_ascii_digits (digits_of year month day second) ≡ true
are_digits year month day second =
    rw (
      digit_is (year / 100 / 10),
      digit_is (year / 100),
      digit_is (year / 10),
      digit_is year,
      digit_is (month / 10),
      digit_is month,
      digit_is ((day + 1) / 10),
      digit_is (day + 1),
      digit_is (second / 3600 / 10),
      digit_is (second / 3600),
      digit_is (second / 60 % 60 / 10),
      digit_is (second / 60 % 60),
      digit_is (second % 60 / 10),
      digit_is (second % 60),
    ) refl

abbrev moment : ℕ → ℕ → ℕ → ℕ → MomentValue
moment year month day second = record {
  year = year;
  month = month;
  day = day + 1;
  hour = second / 3600;
  minute = second / 60 % 60;
  second = second % 60;
}

-- what the digits say
moment_is : (year month day second : ℕ) → year < 10000 → month < 100 → day < 99 → second < 86400
    → moment_of (digits_of year month day second) ≡ moment year month day second
unfolding moment_of
moment_is year month day second years months days seconds =
    let y : (48 + year / 100 / 10 % 10 - 48) * 1000 + (48 + year / 100 % 10 - 48) * 100
    + ((48 + year / 10 % 10 - 48) * 10 + (48 + year % 10 - 48)) ≡ year = omega (arith, years) in
    let years_are : two_at (digits_of year month day second) 0 * 100 + two_at (digits_of year month day second) 2
    ≡ year = omega (arith, years, two_back (year / 100), two_back year) in
    let months_are : two_at (digits_of year month day second) 4 ≡ month = omega (arith, months, two_back month) in
    let days_are : two_at (digits_of year month day second) 6 ≡ day + 1 = omega (arith, days, two_back (day + 1)) in
    let hours_are : two_at (digits_of year month day second) 8 ≡ second / 3600 =
    omega (arith, seconds, two_back (second / 3600)) in
    let minutes_are : two_at (digits_of year month day second) 10 ≡ second / 60 % 60 =
    omega (arith, two_back (second / 60 % 60)) in
    let seconds_are : two_at (digits_of year month day second) 12 ≡ second % 60 =
    omega (arith, two_back (second % 60)) in
    λ i. record {
      year = years_are i;
      month = months_are i;
      day = days_are i;
      hour = hours_are i;
      minute = minutes_are i;
      second = seconds_are i;
    }

-- ---- the seconds of a moment

-- a day and a second of it
record IsMoment (days : ℕ) (year month day : ℕ) : Type 0 where
  from : 1970 ≤ year
  to : year ≤ 2106
  first : 1 ≤ month
  last : month ≤ 12
  within : day < days_in_month year month
  whole : days_of_years (year - 1970) + days_of_months year (month - 1) + day ≡ days

moment_there : (days year month day second : ℕ) → IsMoment days year month day → second < 86400
    → is_moment (moment year month day second) ≡ true
unfolding is_moment
moment_there days year month day second is seconds =
    let a : nat_le 1970 year ≡ true = grind (arith, nat_tests, is.from) in
    let b : nat_le year 2106 ≡ true = grind (arith, nat_tests, is.to) in
    let c : nat_le 1 month ≡ true = grind (arith, nat_tests, is.first) in
    let d : nat_le month 12 ≡ true = grind (arith, nat_tests, is.last) in
    let e : nat_le 1 (day + 1) ≡ true = grind (arith, nat_tests) in
    let f : nat_le (day + 1) (days_in_month year month) ≡ true = grind (arith, nat_tests, is.within) in
    let g : nat_lt (second / 3600) 24 ≡ true = grind (arith, nat_tests, seconds) in
    let h : nat_lt (second / 60 % 60) 60 ≡ true = grind (arith, nat_tests) in
    let i : nat_lt (second % 60) 60 ≡ true = grind (arith, nat_tests) in
    rw (a, b, c, d, e, f, g, h, i) refl

moment_whole : (n year month day : ℕ) → IsMoment (n / 86400) year month day
    → seconds_of (moment year month day (n % 86400)) ≡ n
unfolding seconds_of
moment_whole n year month day is =
    let whole = is.whole in
    let sum : days_of_years (year - 1970) + days_of_months year (month - 1) + (day + 1 - 1) ≡ n / 86400 =
    omega (arith, whole) in
    omega (arith, sum)

seconds_back : (n year month day : ℕ) → n < 4294967296 → IsMoment (n / 86400) year month day
    → moment_seconds (moment year month day (n % 86400)) ≡ Some n
unfolding moment_seconds
seconds_back n year month day small is =
    let there = moment_there (n / 86400) year month day (n % 86400) is (omega arith) in
    let whole = moment_whole n year month day is in
    let fits : nat_le n 4294967295 ≡ true = grind (arith, nat_tests, small) in
    rw (there, whole, fits) refl

date_back : (n year month day : ℕ) → n < 4294967296 → IsMoment (n / 86400) year month day
    → time_in (digits_of year month day (n % 86400)) ≡ Some n
unfolding time_in
date_back n year month day small is =
    let short = month_short year month in
    let to = is.to in
    let last = is.last in
    let within = is.within in
    let read = moment_is year month day (n % 86400) (omega (arith, to)) (omega (arith, last))
    (omega (arith, within, short)) (omega arith) in
    rw (are_digits year month day (n % 86400), read) (seconds_back n year month day small is)

found_at : (n : ℕ) (year : ℕ × ℕ) (month : ℕ × ℕ) → n < 4294967296
    → IsYear (n / 86400) year → IsMonth year.0 year.1 month
    → IsMoment (n / 86400) year.0 month.0 month.1
found_at n (year, rest) (month, day) small of_year of_month =
    let within = year_day (n / 86400) (year, rest) (omega (arith, small)) of_year in
    let years = of_year.whole in
    let months = of_month.whole in
    record {
      from = of_year.from;
      to = of_year.to;
      first = of_month.from;
      last = of_month.to;
      within = month_day year rest (month, day) within of_month;
      whole = omega (arith, years, months);
    }

time_back_at : (n : ℕ) (year : ℕ × ℕ) → n < 4294967296 → IsYear (n / 86400) year → (month : ℕ × ℕ)
    → month_of 11 year.0 1 year.1 ≡ month
    → time_in ((two_digits (year.0 / 100) ++ two_digits year.0 ++ two_digits month.0 ++ two_digits (month.1 + 1))
    ++ clock_text (n % 86400)) ≡ Some n
time_back_at n (year, rest) small of_year (month, day) found =
    let walk = month_walk 11 year 0 rest refl in
    let none : days_of_months year 0 + rest ≡ rest = omega (arith, no_month_passed year) in
    let there : IsMonth year rest (month_of 11 year 1 rest) =
    subst (λ d. IsMonth year d (month_of 11 year 1 rest)) none walk in
    let of_month : IsMonth year rest (month, day) = subst (λ m. IsMonth year rest m) found there in
    date_back n year month day small (found_at n (year, rest) (month, day) small of_year of_month)

time_back_year : (n : ℕ) (year : ℕ × ℕ) → n < 4294967296 → IsYear (n / 86400) year → (month : ℕ × ℕ)
    → month_of 11 year.0 1 year.1 ≡ month
    → time_in ((two_digits (year.0 / 100) ++ two_digits year.0 ++ month_text month) ++ clock_text (n % 86400)) ≡ Some n
time_back_year n year small of_year (month, day) found = time_back_at n year small of_year (month, day) found

time_back_in : (n : ℕ) (year : ℕ × ℕ) → n < 4294967296 → IsYear (n / 86400) year
    → time_in (year_text year ++ clock_text (n % 86400)) ≡ Some n
time_back_in n (year, rest) small of_year =
    time_back_year n (year, rest) small of_year (month_of 11 year 1 rest) refl

-- a time is read as it was written
pub time_back : (n : ℕ) → n < 4294967296 → time_in (time_text n) ≡ Some n
unfolding time_text day_text
time_back n small =
    let walk = year_walk 136 0 (n / 86400) refl in
    let none : days_of_years 0 + n / 86400 ≡ n / 86400 = omega (arith, none_passed) in
    let of_year : IsYear (n / 86400) (year_of 136 1970 (n / 86400)) =
    subst (λ d. IsYear d (year_of 136 1970 (n / 86400))) none walk in
    time_back_in n (year_of 136 1970 (n / 86400)) small of_year

-- the digits of a time
record IsDigits (word : List ℕ) : Type 0 where
  digits : all_ascii_digits word ≡ true
  size : length word ≡ 14

at_date : (n : ℕ) (year month : ℕ × ℕ)
    → IsDigits ((two_digits (year.0 / 100) ++ two_digits year.0 ++ month_text month) ++ clock_text (n % 86400))
at_date n (year, rest) (month, day) = record { digits = are_digits year month day (n % 86400); size = refl }

at_year : (n : ℕ) (year : ℕ × ℕ) → IsDigits (year_text year ++ clock_text (n % 86400))
at_year n (year, rest) = at_date n (year, rest) (month_of 11 year 1 rest)

are_time_digits : (n : ℕ) → IsDigits (time_text n)
unfolding time_text day_text
are_time_digits n = at_year n (year_of 136 1970 (n / 86400))

pub time_digits : (n : ℕ) → all_ascii_digits (time_text n) ≡ true
time_digits n = (are_time_digits n).digits

pub time_size : (n : ℕ) → length (time_text n) ≡ 14
time_size n = (are_time_digits n).size

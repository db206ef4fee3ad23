-- The year and the month of a day are found by passing whole years and months.
use Rattle.std.proofs.Common.{◌≡◌, ℕ, suc, ◌+◌, ◌-◌, ◌<◌, ◌≤◌, true, false, nat_lt, refl, ap, ◌∙◌, arith}
use Rattle.std.proofs.lemmas.Bool.Decides.{nat_tests}
use Rattle.httpdate.specs.Calendar.{days_in_year, days_in_month}
use Rattle.dns_presentation.specs.Calendar.{year_of, month_of}

not_below : (days size : ℕ) → size ≤ days → nat_lt days size ≡ false
not_below days size h = grind (arith, nat_tests)

below : (days size : ℕ) → days < size → nat_lt days size ≡ true
below days size h = grind (arith, nat_tests)

year_step : (n year days : ℕ) → nat_lt days (days_in_year year) ≡ false
    → year_of (suc n) year days ≡ year_of n (year + 1) (days - days_in_year year)
unfolding year_of
year_step n year days h = rw h refl

year_stop : (n year days : ℕ) → nat_lt days (days_in_year year) ≡ true → year_of (suc n) year days ≡ (year, days)
unfolding year_of
year_stop n year days h = rw h refl

-- a year that is passed
pub year_more : (year days : ℕ) → year < 2106 → days_in_year year ≤ days
    → year_of (2106 - year) year days ≡ year_of (2106 - (year + 1)) (year + 1) (days - days_in_year year)
year_more year days within long =
    let left : 2106 - year ≡ suc (2106 - (year + 1)) = omega arith in
    ap (λ n. year_of n year days) left ∙ year_step _ year days (not_below _ _ long)

-- the day's own year
pub year_here : (year days : ℕ) → year < 2106 → days < days_in_year year
    → year_of (2106 - year) year days ≡ (year, days)
year_here year days within short =
    let left : 2106 - year ≡ suc (2106 - (year + 1)) = omega arith in
    ap (λ n. year_of n year days) left ∙ year_stop _ year days (below _ _ short)

-- the last year
pub year_last : (year days : ℕ) → 2106 ≤ year → year_of (2106 - year) year days ≡ (year, days)
unfolding year_of
year_last year days last =
    let left : 2106 - year ≡ 0 = omega arith in ap (λ n. year_of n year days) left

month_step : (n year month days : ℕ) → nat_lt days (days_in_month year month) ≡ false
    → month_of (suc n) year month days ≡ month_of n year (month + 1) (days - days_in_month year month)
unfolding month_of
month_step n year month days h = rw h refl

month_stop : (n year month days : ℕ) → nat_lt days (days_in_month year month) ≡ true
    → month_of (suc n) year month days ≡ (month, days)
unfolding month_of
month_stop n year month days h = rw h refl

-- a month that is passed
pub month_more : (year month days : ℕ) → month < 12 → days_in_month year month ≤ days
    → month_of (12 - month) year month days
    ≡ month_of (12 - (month + 1)) year (month + 1) (days - days_in_month year month)
month_more year month days within long =
    let left : 12 - month ≡ suc (12 - (month + 1)) = omega arith in
    ap (λ n. month_of n year month days) left ∙ month_step _ year month days (not_below _ _ long)

-- the day's own month
pub month_here : (year month days : ℕ) → month < 12 → days < days_in_month year month
    → month_of (12 - month) year month days ≡ (month, days)
month_here year month days within short =
    let left : 12 - month ≡ suc (12 - (month + 1)) = omega arith in
    ap (λ n. month_of n year month days) left ∙ month_stop _ year month days (below _ _ short)

-- the last month
pub month_last : (year month days : ℕ) → 12 ≤ month → month_of (12 - month) year month days ≡ (month, days)
unfolding month_of
month_last year month days last =
    let left : 12 - month ≡ 0 = omega arith in ap (λ n. month_of n year month days) left

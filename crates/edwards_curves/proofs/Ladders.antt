-- A multiple of a point, digit by digit.
use Rattle.std.proofs.Common.{◌≡◌, ℕ, suc, Bool, true, false, eqb, cond, ◌+◌, ◌-◌, ◌/◌, ◌%◌, ◌^◌, refl, ap, ◌∙◌, add-one}
use Rattle.edwards_curves.specs.Points.{PointValue, SummandValue, multiple, multiple_after, point_double, prepared, prepared_sum}

by_digit : (p q r : PointValue) (one : Bool) → (one ≡ true → r ≡ prepared_sum (point_double q) (prepared p))
    → (one ≡ false → r ≡ point_double q) → r ≡ cond one (prepared_sum (point_double q) (prepared p)) (point_double q)
by_digit p q r true f g = f refl
by_digit p q r false f g = g refl

pub multiple_none : (p : PointValue) (n : ℕ) (q : PointValue) → q ≡ record { x = 0; y = 1; z = 1; t = 0 }
    → q ≡ multiple_after p n 253 0
unfolding multiple_after
multiple_none p n q e = e

pub multiple_more : (p : PointValue) (s : SummandValue) (k done place : ℕ) (q r : PointValue) (one : Bool)
    → s ≡ prepared p → place ≡ 253 - suc done → q ≡ multiple_after p k 253 done → one ≡ eqb (k / 2 ^ place % 2) 1
    → (one ≡ true → r ≡ prepared_sum (point_double q) s) → (one ≡ false → r ≡ point_double q)
    → r ≡ multiple_after p k 253 (done + 1)
unfolding multiple_after
multiple_more p s k done place q r one v e h d f g =
    let a : one ≡ eqb (k / 2 ^ (253 - suc done) % 2) 1 = d ∙ ap (λ (n : ℕ). eqb (k / 2 ^ n % 2) 1) e in
    let w = λ (o : one ≡ true). f o ∙ ap (λ (x : SummandValue). prepared_sum (point_double q) x) v in
    let t = by_digit p q r one w g in
    rw add-one (t ∙ ap (λ (o : Bool). cond o (prepared_sum (point_double q) (prepared p)) (point_double q)) a
    ∙ ap (λ (x : PointValue). cond (eqb (k / 2 ^ (253 - suc done) % 2) 1) (prepared_sum (point_double x) (prepared p))
    (point_double x)) h)

pub multiple_all : (p : PointValue) (k done : ℕ) (q : PointValue) → done ≡ 253 → q ≡ multiple_after p k 253 done
    → q ≡ multiple k p
unfolding multiple
multiple_all p k done q e h = h ∙ ap (λ (n : ℕ). multiple_after p k 253 n) e

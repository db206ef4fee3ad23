-- A multiple of a point, digit by digit.
use Rattle.std.proofs.Common.{◌≡◌, ℕ, suc, Bool, true, false, eqb, cond, ◌+◌, ◌-◌, ◌/◌, ◌%◌, ◌^◌, refl, ap, ◌∙◌, add-one}
use Rattle.weierstrass_curves.specs.Points.{PointValue, multiple, multiple_after, point_sum}

pub multiple_none : (m b : ℕ) (p : PointValue) (k digits x y z : ℕ) → x ≡ 0 → y ≡ 1 → z ≡ 0
    → record { x = x; y = y; z = z } ≡ multiple_after m b p k digits 0
unfolding multiple_after
multiple_none m b p k digits x y z e f g = cc (e, f, g)

by_digit : (m b : ℕ) (p q r : PointValue) (one : Bool) → (one ≡ true → r ≡ point_sum m b (point_sum m b q q) p)
    → (one ≡ false → r ≡ point_sum m b q q) → r ≡ cond one (point_sum m b (point_sum m b q q) p) (point_sum m b q q)
by_digit m b p q r true f g = f refl
by_digit m b p q r false f g = g refl

pub multiple_more : (m b : ℕ) (p : PointValue) (k digits done place : ℕ) (q r : PointValue) (one : Bool)
    → place ≡ digits - suc done → q ≡ multiple_after m b p k digits done → one ≡ eqb (k / 2 ^ place % 2) 1
    → (one ≡ true → r ≡ point_sum m b (point_sum m b q q) p) → (one ≡ false → r ≡ point_sum m b q q)
    → r ≡ multiple_after m b p k digits (done + 1)
unfolding multiple_after
multiple_more m b p k digits done place q r one e h d f g =
    let a : one ≡ eqb (k / 2 ^ (digits - suc done) % 2) 1 = d ∙ ap (λ (n : ℕ). eqb (k / 2 ^ n % 2) 1) e in
    let t = by_digit m b p q r one f g in
    rw add-one (t ∙ ap (λ (o : Bool). cond o (point_sum m b (point_sum m b q q) p) (point_sum m b q q)) a
    ∙ ap (λ (x : PointValue). cond (eqb (k / 2 ^ (digits - suc done) % 2) 1) (point_sum m b (point_sum m b x x) p)
    (point_sum m b x x)) h)

pub multiple_all : (m b : ℕ) (p : PointValue) (k digits done : ℕ) (q : PointValue) → done ≡ digits
    → q ≡ multiple_after m b p k digits done → q ≡ multiple m b p digits k
unfolding multiple
multiple_all m b p k digits done q e h = h ∙ ap (λ (n : ℕ). multiple_after m b p k digits n) e

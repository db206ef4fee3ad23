-- Points of -x^2 + y^2 = 1 + d x^2 y^2 modulo 2^255 - 19, in extended homogeneous coordinates: (x, y, z, t) is the point
-- (x/z, y/z), and t/z the product of its coordinates. Sums are by the formulas of RFC 8032, 5.1.4, which hold for all points.
use Rattle.std.specs.Prelude.{ℕ, zero, suc, Bool, ◌+◌, ◌-◌, ◌*◌, ◌/◌, ◌%◌, ◌^◌, ◌==◌, ◌&&◌, if◌then◌else◌}
use Rattle.big_numbers.specs.Residues.{sum, difference, product}
use Rattle.edwards_curves.specs.Numbers.{curve_d, prime}

pub record PointValue : Type 0 where
  pub x : ℕ
  pub y : ℕ
  pub z : ℕ
  pub t : ℕ

-- -x^2 + y^2 = 1 + d x^2 y^2, of an affine point
unfoldable pub is_on_curve : ℕ → ℕ → Bool
is_on_curve x y = (y * y + (prime - x * x % prime)) % prime == (1 + curve_d * (x * x * (y * y))) % prime

-- the numbers A, B, C and D of a sum, or A, B, C and (X1 + Y1)^2 of a double
pub record TermsValue : Type 0 where
  pub a : ℕ
  pub b : ℕ
  pub c : ℕ
  pub d : ℕ

-- the numbers E, F, G and H
pub record FactorsValue : Type 0 where
  pub e : ℕ
  pub f : ℕ
  pub g : ℕ
  pub h : ℕ

-- X3 = E F, Y3 = G H, Z3 = F G and T3 = E H
unfoldable pub joined : FactorsValue → PointValue
joined v = record {
  x = product prime v.e v.f;
  y = product prime v.g v.h;
  z = product prime v.f v.g;
  t = product prime v.e v.h;
}

-- what of the second point is the same in each sum: Y2 - X2, Y2 + X2, 2d T2 and Z2
pub record SummandValue : Type 0 where
  pub less : ℕ
  pub more : ℕ
  pub scaled : ℕ
  pub z : ℕ

unfoldable pub prepared : PointValue → SummandValue
prepared q = record {
  less = difference prime q.y q.x;
  more = sum prime q.y q.x;
  scaled = product prime (sum prime curve_d curve_d) q.t;
  z = q.z;
}

-- A = (Y1 - X1)(Y2 - X2), B = (Y1 + X1)(Y2 + X2), C = T1 2d T2 and D = Z1 2 Z2
unfoldable pub sum_terms : PointValue → SummandValue → TermsValue
sum_terms p s = record {
  a = product prime (difference prime p.y p.x) s.less;
  b = product prime (sum prime p.y p.x) s.more;
  c = product prime p.t s.scaled;
  d = product prime (sum prime p.z p.z) s.z;
}

-- E = B - A, F = D - C, G = D + C and H = B + A
unfoldable pub sum_factors : TermsValue → FactorsValue
sum_factors v = record {
  e = difference prime v.b v.a;
  f = difference prime v.d v.c;
  g = sum prime v.d v.c;
  h = sum prime v.b v.a;
}

-- the sum of two points
unfoldable pub prepared_sum : PointValue → SummandValue → PointValue
prepared_sum p s = joined (sum_factors (sum_terms p s))

abbrev pub point_sum : PointValue → PointValue → PointValue
point_sum p q = prepared_sum p (prepared q)

-- A = X1^2, B = Y1^2, C = 2 Z1^2, and the square of X1 + Y1
unfoldable pub double_terms : PointValue → TermsValue
double_terms p = record {
  a = product prime p.x p.x;
  b = product prime p.y p.y;
  c = sum prime (product prime p.z p.z) (product prime p.z p.z);
  d = product prime (sum prime p.x p.y) (sum prime p.x p.y);
}

-- H = A + B, E = H - (X1 + Y1)^2, G = A - B and F = C + G
unfoldable pub double_factors : TermsValue → FactorsValue
double_factors v = record {
  e = difference prime (sum prime v.a v.b) v.d;
  f = sum prime v.c (difference prime v.a v.b);
  g = difference prime v.a v.b;
  h = sum prime v.a v.b;
}

-- the sum of a point and itself
unfoldable pub point_double : PointValue → PointValue
point_double p = joined (double_factors (double_terms p))

abbrev pub neutral : PointValue
neutral = record { x = 0; y = 1; z = 1; t = 0 }

-- doubled, and the point added where the digit is 1
abbrev pub multiple_step : PointValue → ℕ → PointValue → PointValue
multiple_step p digit q = if digit == 1 then point_sum (point_double q) p else point_double q

-- the multiple by the highest so many of a number's binary digits, which has so many in all
unfoldable pub multiple_after : PointValue → ℕ → ℕ → ℕ → PointValue
multiple_after p n digits zero = neutral
multiple_after p n digits (suc done) = multiple_step p (n / 2 ^ (digits - suc done) % 2) (multiple_after p n digits done)

-- [n]P, of a number below 2^253, as numbers below the order are
unfoldable pub multiple : ℕ → PointValue → PointValue
multiple n p = multiple_after p n 253 253

-- x1/z1 = x2/z2 and y1/z1 = y2/z2
unfoldable pub is_same_point : PointValue → PointValue → Bool
is_same_point p q = (product prime p.x q.z == product prime q.x p.z) && (product prime p.y q.z == product prime q.y p.z)

-- Points of a curve y^2 = x^3 - 3x + b over the numbers modulo m (FIPS 186-4, D.1.2), in projective coordinates: (x : y : z)
-- is the point (x/z, y/z), and (0 : 1 : 0) the one at infinity. The sum is by one formula for all points (Renes, Costello
-- and Batina, Complete addition formulas for prime order elliptic curves, 2016, with a = -3).
use Rattle.std.specs.Prelude.{ℕ, zero, suc, Bool, ◌-◌, ◌/◌, ◌%◌, ◌^◌, ◌<◌, ◌≤◌, ◌==◌, ◌&&◌, nat_lt, if◌then◌else◌}
use Rattle.big_numbers.specs.Residues.{sum, difference, product, inverse}

pub record PointValue : Type 0 where
  pub x : ℕ
  pub y : ℕ
  pub z : ℕ

-- each coordinate is below the modulus
pub record IsBelow (m : ℕ) (p : PointValue) : Type 0 where
  pub x : p.x < m
  pub y : p.y < m
  pub z : p.z < m

-- the products of the coordinates of two points
pub record PartsValue : Type 0 where
  pub xx : ℕ
  pub yy : ℕ
  pub zz : ℕ
  pub xy : ℕ
  pub xz : ℕ
  pub yz : ℕ

pub record PartsBelow (m : ℕ) (p : PartsValue) : Type 0 where
  pub xx : p.xx < m
  pub yy : p.yy < m
  pub zz : p.zz < m
  pub xy : p.xy < m
  pub xz : p.xz < m
  pub yz : p.yz < m

-- x1 y2 + x2 y1
abbrev pub crossed : ℕ → ℕ → ℕ → ℕ → ℕ → ℕ
crossed m x1 y1 x2 y2 = sum m (product m x1 y2) (product m x2 y1)

unfoldable pub parts : ℕ → PointValue → PointValue → PartsValue
parts m p q = record {
  xx = product m p.x q.x;
  yy = product m p.y q.y;
  zz = product m p.z q.z;
  xy = crossed m p.x p.y q.x q.y;
  xz = crossed m p.x p.z q.x q.z;
  yz = crossed m p.y p.z q.y q.z;
}

unfoldable pub triple : ℕ → ℕ → ℕ
triple m a = sum m (sum m a a) a

pub record TermsValue : Type 0 where
  pub t : ℕ
  pub u : ℕ
  pub w : ℕ

pub record TermsBelow (m : ℕ) (v : TermsValue) : Type 0 where
  pub t : v.t < m
  pub u : v.u < m
  pub w : v.w < m

-- t = 3(b zz - xz), u = 3(b xz - xx - 3zz) and w = 3(xx - zz)
unfoldable pub terms : ℕ → ℕ → PartsValue → TermsValue
terms m b p = record {
  t = triple m (difference m (product m b p.zz) p.xz);
  u = triple m (difference m (difference m (product m b p.xz) p.xx) (triple m p.zz));
  w = triple m (difference m p.xx p.zz);
}

-- (xy(yy - t) - yz u : (yy + t)(yy - t) + w u : yz(yy + t) + xy w)
unfoldable pub joined : ℕ → PartsValue → TermsValue → PointValue
joined m p v = record {
  x = difference m (product m p.xy (difference m p.yy v.t)) (product m p.yz v.u);
  y = sum m (product m (sum m p.yy v.t) (difference m p.yy v.t)) (product m v.w v.u);
  z = sum m (product m p.yz (sum m p.yy v.t)) (product m p.xy v.w);
}

-- the sum of two points
unfoldable pub point_sum : ℕ → ℕ → PointValue → PointValue → PointValue
point_sum m b p q = joined m (parts m p q) (terms m b (parts m p q))

abbrev pub infinity : PointValue
infinity = record { x = 0; y = 1; z = 0 }

-- doubled, and the point added where the digit is 1
abbrev pub multiple_step : ℕ → ℕ → PointValue → ℕ → PointValue → PointValue
multiple_step m b p digit q =
    if digit == 1 then point_sum m b (point_sum m b q q) p else point_sum m b q q

-- the multiple by the highest so many of a number's binary digits, which has so many in all
unfoldable pub multiple_after : ℕ → ℕ → PointValue → ℕ → ℕ → ℕ → PointValue
multiple_after m b p k digits zero = infinity
multiple_after m b p k digits (suc done) =
    multiple_step m b p (k / 2 ^ (digits - suc done) % 2) (multiple_after m b p k digits done)

-- the multiple of a point
unfoldable pub multiple : ℕ → ℕ → PointValue → ℕ → ℕ → PointValue
multiple m b p digits k = multiple_after m b p k digits digits

-- x and y satisfy the curve's equation
unfoldable pub is_on_curve : ℕ → ℕ → ℕ → ℕ → Bool
is_on_curve m b x y =
    product m y y == sum m (difference m (product m (product m x x) x) (triple m x)) b

-- a curve with a point of prime order n, which has so many binary digits
pub record CurveValue : Type 0 where
  pub m : ℕ
  pub b : ℕ
  pub n : ℕ
  pub base : PointValue
  pub digits : ℕ

-- what the bounds of a curve's numbers are
pub record IsCurve (c : CurveValue) : Type 0 where
  pub m : 2 ≤ c.m
  pub n : 2 ≤ c.n
  pub b : c.b < c.m
  pub base : IsBelow c.m c.base

-- the x of an affine point
unfoldable pub affine_x : ℕ → PointValue → ℕ
affine_x m p = product m p.x (inverse m p.z)

-- the sum of the multiples of the base point and of the key
unfoldable pub two_multiples : CurveValue → PointValue → ℕ → ℕ → PointValue
two_multiples c q u v =
    point_sum c.m c.b (multiple c.m c.b c.base c.digits u) (multiple c.m c.b q c.digits v)

-- the point is not at infinity, and its x is r modulo the order
unfoldable pub has_x : CurveValue → PointValue → ℕ → Bool
has_x c p r = nat_lt 0 p.z && (affine_x c.m p % c.n == r)

-- the test of ECDSA (FIPS 186-4, 6.4) at a digest e
unfoldable pub passes : CurveValue → PointValue → ℕ → ℕ → ℕ → Bool
passes c q e r s =
    has_x c (two_multiples c q (product c.n e (inverse c.n s)) (product c.n r (inverse c.n s))) r

abbrev pub in_order : ℕ → ℕ → Bool
in_order n a = nat_lt 0 a && nat_lt a n

-- the key (x, y) is a point of the curve, r and s are from 1 to n - 1, and the test passes
abbrev pub ecdsa_accepts : CurveValue → ℕ → ℕ → ℕ → ℕ → ℕ → Bool
ecdsa_accepts c x y e r s =
    (nat_lt x c.m && (nat_lt y c.m && is_on_curve c.m c.b x y))
    && ((in_order c.n r && in_order c.n s) && passes c (record { x = x; y = y; z = 1 }) e r s)

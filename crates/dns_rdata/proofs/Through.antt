-- A value that a test lets through.
use Rattle.std.proofs.Common.{◌≡◌, Bool, true, false, cond, Some, None, refl}

pub let_through : {A : Type 0} (test : Bool) (x y : A) → cond test (Some x) None ≡ Some y → x ≡ y
let_through true x y h = cc
let_through false x y h = cc

-- the test was true
pub test_through : {A : Type 0} (test : Bool) (x y : A) → cond test (Some x) None ≡ Some y → test ≡ true
test_through true x y h = refl
test_through false x y h = cc

-- Facts on truth values, on orderings, and on optional values behind a test.
use Rattle.std.proofs.Common.{◌≡◌, Bool, true, false, ◌&&◌, ◌||◌, cond, Option, None, Some, if◌then◌else◌, refl, sym}
use Rattle.std.specs.declared.cmp.Ordering.{Ordering}
use Rattle.std.specs.declared.cmp.Ordering.TheVariants.{Less, Equal, Greater}
use Rattle.std.specs.Ordering.{is_eq}

-- ---- truth values

-- two tests that pass in the same cases
pub same_test : (a b : Bool) → (a ≡ true → b ≡ true) → (b ≡ true → a ≡ true) → a ≡ b
same_test true b there back = sym (there refl)
same_test false true there back = back refl
same_test false false there back = refl

pub and_true : (b : Bool) → (b && true) ≡ b
and_true true = refl
and_true false = refl

pub or_false : (b : Bool) → (b || false) ≡ b
or_false true = refl
or_false false = refl

pub or_twice : (a b c d : Bool) → ((a || b) || (c || d)) ≡ ((a || c) || (b || d))
or_twice true b c d = refl
or_twice false true true d = refl
or_twice false true false d = refl
or_twice false false true d = refl
or_twice false false false d = refl

-- one more test at the end
pub last_step : (a b : Bool) → (a || (b || false)) ≡ cond b true a
last_step true true = refl
last_step true false = refl
last_step false true = refl
last_step false false = refl

-- ---- orderings

pub tied_equal : (o : Ordering) → is_eq o ≡ true → o ≡ Equal
tied_equal Less h = cc
tied_equal Equal h = refl
tied_equal Greater h = cc

-- ---- optional values

-- what stands behind a test is there where the test passes
pub if_some : {X : Type 0} (b : Bool) (o : Option X) (x : X) → (if b then o else None) ≡ Some x → (b ≡ true) × (o ≡ Some x)
if_some true o x h = (refl, h)
if_some false o x h = cc

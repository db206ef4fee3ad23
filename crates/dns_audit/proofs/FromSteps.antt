-- What values were made of.
use Rattle.std.proofs.Common.{◌≡◌, ℕ, Bool, true, false, List, [], ◌∷◌, Option, None, Some, Result, Ok, Err, if◌then◌else◌, ◌⊎◌, refl, ap, inl, inr}
use Rattle.std.specs.Result.{result_ok, result_unwrap_or}
use Rattle.std.proofs.lemmas.Option.{same_Some}
use Rattle.std.specs.Cmp.Lexicographic.{bytes_decides}
use Rattle.dns_model.specs.Keys.{bytes_eq}
use Rattle.dns_model.specs.OptionSteps as steps
use Rattle.dns_model.specs.ResultSteps as results
use Rattle.dns_session.specs.LinePlaces.{is_nothing}

-- what a value was, from which more was made
pub record Made {A B : Type 0} (o : Option A) (more : A → Option B) (y : B) : Type 0 where
  pub value : A
  pub was : o ≡ Some value
  pub gives : more value ≡ Some y

pub made : {A B : Type 0} (o : Option A) (more : A → Option B) (y : B) → steps.◌>>=◌ o more ≡ Some y → Made o more y
made (Some x) more y h = record { value = x; was = refl; gives = h }
made None more y h = cc

pub record Given {A B E : Type 0} (r : Result A E) (more : A → Result B E) (y : B) : Type 0 where
  pub value : A
  pub was : r ≡ Ok value
  pub gives : more value ≡ Ok y

pub given : {A B E : Type 0} (r : Result A E) (more : A → Result B E) (y : B) → results.◌>>=◌ r more ≡ Ok y
    → Given r more y
given (Ok x) more y h = record { value = x; was = refl; gives = h }
given (Err e) more y h = cc

pub same_ok : {A E : Type 0} (x y : A) → ◌≡◌ {A = Result A E} (Ok x) (Ok y) → x ≡ y
same_ok x y h = ap (λ r. result_unwrap_or r x) h

pub ok_some : {A E : Type 0} (r : Result A E) (x : A) → result_ok r ≡ Some x → r ≡ Ok x
ok_some (Ok y) x h = ap Ok (same_Some y x h)
ok_some (Err e) x h = cc

-- a choice by a test
pub chosen : {X : Type 0} (b : Bool) (one other : Option X) (y : X) → (if b then one else other) ≡ Some y
    → ((b ≡ true) × (one ≡ Some y)) ⊎ ((b ≡ false) × (other ≡ Some y))
chosen true one other y h = inl (refl, h)
chosen false one other y h = inr (refl, h)

-- a value that passed a test
pub passed : {X : Type 0} (b : Bool) (x y : X) → (if b then Some x else None) ≡ Some y → (b ≡ true) × (x ≡ y)
passed true x y h = (refl, same_Some x y h)
passed false x y h = cc

-- a choice by a word
pub by_word : {X : Type 0} (word name : List ℕ) (one other : Option X) (y : X)
    → (if bytes_eq word name then one else other) ≡ Some y → ((word ≡ name) × (one ≡ Some y)) ⊎ (other ≡ Some y)
by_word word name one other y h =
    elim (chosen (bytes_eq word name) one other y h) [
      | inl is ↦ inl ((bytes_decides word name).0 is.0, is.1)
      | inr isnt ↦ inr isnt.1
    ]

-- pieces of which none is left: the last one, empty
pub nothing_left : (ps : List (List ℕ)) → is_nothing ps ≡ true → ps ≡ [] ∷ []
nothing_left [] h = cc
nothing_left ([] ∷ []) h = refl
nothing_left ((c ∷ cs) ∷ []) h = cc
nothing_left ([] ∷ line ∷ ps) h = cc
nothing_left ((c ∷ cs) ∷ line ∷ ps) h = cc

-- For private functions of this crate only: the calls of a port in memory.
use Rattle.std.specs.Prelude.{ℕ, Bool, true, false, List, [], ◌∷◌, Option, Some, Result, Ok}
use Rattle.dns_model.specs.Counts.{one_more}

-- one more where a call failed
abbrev pub faults_after : Bool → ℕ → ℕ
faults_after true count = one_more count
faults_after false count = count

-- the request that was given
abbrev pub given_in : {E : Type 0} → Result (Option (List ℕ)) E → List (List ℕ)
given_in (Ok (Some request)) = request ∷ []
given_in given = []

-- What has to happen before a handle answers an error, and how errors are counted.
use Rattle.std.specs.Prelude.{ℕ, ◌≡◌, ◌⊎◌, true, Result, Ok, Err, if◌then◌else◌}
use Rattle.dns_model.specs.Counts.{Rose, one_more}
use Rattle.dns_handle.specs.declared.error.NetError.{NetError}
use Rattle.dns_handle.specs.declared.error.NetError.TheVariants.{NoMemory}
use Rattle.dns_handle.specs.Errors.{Reply}
use Rattle.dns_handle.specs.ErrorKinds.{is_fault, is_no_records_found}
use Rattle.dns_handle.specs.Replies.{error_of}

-- an error other than want of memory and that there are no records comes only where the count of faults rose
abbrev pub HasCause : {X : Type 0} → ℕ → ℕ → Result X NetError → Type 0
HasCause before now (Ok x) = Unit {0}
HasCause before now (Err e) = (e ≡ NoMemory) ⊎ ((is_no_records_found (error_of e) ≡ true) ⊎ Rose before now)

-- one more fault, if the reply is one
abbrev pub faults_after : ℕ → Reply → ℕ
faults_after count (Ok response) = count
faults_after count (Err error) = if is_fault error then one_more count else count

-- A fault of one reading is that of another which goes on from it.
use Rattle.std.proofs.Common.{◌≡◌, ℕ, Result, Err}
use Rattle.dns_message.specs.declared.decode_error.DecodeError.{DecodeError}
use Rattle.dns_message.specs.declared.decode_error.DecodeKind.{DecodeKind}
use Rattle.dns_message.specs.declared.decode_error.DecodeKind.TheVariants as kinds
use Rattle.dns_message.specs.Reading.{FailsWith}

pub fails_on : {X Y : Type 0} (kind : DecodeKind) (place : ℕ) (r : Result X DecodeError) (s : Result Y DecodeError)
    → ((e : DecodeError) → r ≡ Err e → s ≡ Err e) → FailsWith kind place r → FailsWith kind place s
fails_on kinds.NoMemory place r s more h = tt
fails_on kinds.Short place r s more h = more _ h
fails_on kinds.BadName place r s more h = more _ h
fails_on kinds.BadRdata place r s more h = more _ h
fails_on kinds.BadOpt place r s more h = more _ h
fails_on kinds.Trailing place r s more h = more _ h

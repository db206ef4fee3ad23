-- The test of an error for want of memory.
use Rattle.std.proofs.Common.{◌≡◌, ◌≢◌, ◌∙◌, Bool, true, false, Result, Err, refl, sym, ap}
use Rattle.std.specs.Prelude.{IsTrue, ◌↔◌}
use Rattle.dns_handle.specs.ErrorKinds.{is_no_memory}
use Rattle.dns_handle.specs.Errors as seen
use Rattle.dns_handle.specs.Replies.{error_of}
use Rattle.dns_handle.specs.declared.error.NetError.{NetError}
use Rattle.dns_handle.specs.declared.error.NetError.TheVariants.{Busy, Dns, Message, Msg, NoConnections, Proto, Io, Timeout, QueryCaseMismatch, ForeignClassRecord, Truncated, NoMemory}

-- an error that passes the test is want of memory
pub told_no_memory : (e : NetError) → is_no_memory (error_of e) ≡ true → e ≡ NoMemory
told_no_memory Busy told = cc
told_no_memory (Dns error) told = cc
told_no_memory (Message notice) told = cc
told_no_memory (Msg text) told = cc
told_no_memory NoConnections told = cc
told_no_memory (Proto error) told = cc
told_no_memory (Io kind) told = cc
told_no_memory Timeout told = cc
told_no_memory QueryCaseMismatch told = cc
told_no_memory (ForeignClassRecord owner class rtype) told = cc
told_no_memory Truncated told = cc
told_no_memory NoMemory told = refl

error_same : {X : Type 0} (reply : Result X NetError) (a b : NetError) → reply ≡ Err a → reply ≡ Err b → a ≡ b
error_same reply a b first other = cc

-- a reply with an error is want of memory exactly where the error passes the test
pub reply_no_memory : {X : Type 0} (reply : Result X NetError) (e : NetError) (told : Bool) → reply ≡ Err e
    → told ≡ is_no_memory (error_of e) → IsTrue told ↔ (reply ≡ Err NoMemory)
reply_no_memory reply e told is tests = (
  λ passes. is ∙ ap Err (told_no_memory e (sym tests ∙ passes)),
  λ memory. tests ∙ ap (λ x. is_no_memory (error_of x)) (error_same reply e NoMemory is memory),
)

-- an error that doesn't pass the test isn't seen as want of memory
pub untold_no_memory : (e : NetError) (told : Bool) → told ≡ is_no_memory (error_of e) → told ≡ false → error_of e ≢ seen.NoMemory
untold_no_memory e told tests untold = λ memory. let both : false ≡ true = sym untold ∙ tests ∙ ap is_no_memory memory in cc

-- An answer that was tested for want of memory.
use Rattle.std.proofs.Common.{◌≡◌, ◌⊎◌, Bool, true, false, ◌∙◌, ap, sym, inl, inr}
use Rattle.dns_handle.specs.ErrorKinds.{is_no_memory}
use Rattle.dns_handle.specs.Replies.{error_of}
use Rattle.dns_handle.specs.declared.error.NetError.{NetError}
use Rattle.dns_handle.specs.declared.error.NetError.TheVariants.{NoMemory}

true_false : true ≡ false → ⊥
true_false h = cc

-- what holds unless memory ran out holds of an error that isn't that
pub fact_tested : (Fact : Type 0) (e : NetError) (told : Bool) → told ≡ is_no_memory (error_of e) → told ≡ false
    → (e ≡ NoMemory) ⊎ Fact → Fact
fact_tested Fact e told tests untold (inl lost) =
    absurd (true_false (sym (tests ∙ ap (λ f. is_no_memory (error_of f)) lost) ∙ untold))
fact_tested Fact e told tests untold (inr fact) = fact

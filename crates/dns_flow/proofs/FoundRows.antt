-- What is found of a judged set, by the four ways in which a set is judged: the words are those of the marks of single
-- sets.
use Rattle.std.proofs.Common.{◌≡◌, ℕ, false, Option, None, Some, Ok, Err, is_some, slice_get, if◌then◌else◌, refl, ap, ◌∙◌}
use Rattle.std.specs.Option.{option_map, option_and_then}
use Rattle.dns_model.specs.declared.proof.Proof.{Proof}
use Rattle.dns_model.specs.declared.proof.Proof.TheVariants.{Secure, Insecure}
use Rattle.dns_model.specs.Records.{Rr}
use Rattle.dns_model.specs.SoundAnswers.{is_secure}
use Rattle.dns_rules.specs.CacheEntries.{Found}
use Rattle.dns_rules.specs.MarkedSets.{MarkedSet, decider}
use Rattle.dns_rules.specs.ProofErrors.{ProofErrorKindValue}
use Rattle.dns_cache.specs.Kinds.{because}
use Rattle.dns_cache.specs.Proofs.{ttl_by, proved_by, proved_whole, excused}
use Rattle.dns_flow.specs.Causes.{found_of}

abbrev found_by : Option ℕ → Proof → Option ℕ → ProofErrorKindValue → Found
found_by ttl mark sig cause =
    if is_secure mark then Ok (record proved_whole { adjusted_ttl = ttl; rrsig_index = sig })
    else if is_some sig then Ok (record excused { proof = mark; rrsig_index = sig })
    else Err (because mark cause)

found_as : (now : ℕ) (judged : MarkedSet) (cause : ProofErrorKindValue) (mark : Proof) (sig : Option ℕ)
    → judged.mark ≡ mark → judged.sig ≡ sig
    → found_of now judged cause ≡ found_by
    (option_map (ttl_by now judged.set) (option_and_then (slice_get judged.set.signatures) sig)) mark sig cause
unfolding found_of
found_as now judged cause mark sig marked signed =
    ap (λ m. found_by (option_map (ttl_by now judged.set) (decider judged)) m judged.sig cause) marked
    ∙ ap (λ s. found_by
    (option_map (ttl_by now judged.set) (option_and_then (slice_get judged.set.signatures) s)) mark s cause) signed

-- Secure by a signature
pub found_proved : (now : ℕ) (judged : MarkedSet) (cause : ProofErrorKindValue) (place : ℕ) (r : Rr)
    → judged.mark ≡ Secure → judged.sig ≡ Some place
    → slice_get judged.set.signatures place ≡ Some r
    → found_of now judged cause ≡ Ok (proved_by now judged.set r (Some place))
found_proved now judged cause place r marked signed there =
    found_as now judged cause Secure (Some place) marked signed
    ∙ ap (λ o. found_by (option_map (ttl_by now judged.set) o) Secure (Some place) cause) there

-- Secure by its keys
pub found_whole : (now : ℕ) (judged : MarkedSet) (cause : ProofErrorKindValue) → judged.mark ≡ Secure
    → judged.sig ≡ None
    → found_of now judged cause ≡ Ok proved_whole
found_whole now judged cause marked signed = found_as now judged cause Secure None marked signed

-- Insecure by a signature
pub found_excused : (now : ℕ) (judged : MarkedSet) (cause : ProofErrorKindValue) (place : ℕ) → judged.mark ≡ Insecure
    → judged.sig ≡ Some place
    → found_of now judged cause ≡ Ok (record excused { rrsig_index = Some place })
found_excused now judged cause place marked signed = found_as now judged cause Insecure (Some place) marked signed

-- neither, with the cause
pub found_refused : (now : ℕ) (judged : MarkedSet) (cause : ProofErrorKindValue) → is_secure judged.mark ≡ false
    → judged.sig ≡ None
    → found_of now judged cause ≡ Err (because judged.mark cause)
found_refused now judged cause other signed =
    let ttl = option_map (ttl_by now judged.set) (option_and_then (slice_get judged.set.signatures) None) in
    found_as now judged cause judged.mark None refl signed
    ∙ ap (λ b. if b then Ok (record proved_whole { adjusted_ttl = ttl; rrsig_index = None }) else Err
    (because judged.mark cause)) other

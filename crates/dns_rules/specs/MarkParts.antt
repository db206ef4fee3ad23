-- For clauses of calls between crates, for private functions and for proofs, and for no promise of a lookup or of a check of a trail:
-- parts of the rules of marks, by names of their own (RFC 4035, 4.3 and 5.3).
use Rattle.std.specs.Prelude.{ℕ, Bool, false, not, ◌==◌, ◌&&◌, min, nat_lt, count_by, List, take, Option, slice_get, if◌then◌else◌}
use Rattle.std.specs.Option.{option_map, option_map_or, option_and_then}
use Rattle.dns_model.specs.Views.{RrsigValue}
use Rattle.dns_model.specs.Records.{Rr, RrSet, Question}
use Rattle.dns_model.specs.RecordViews.{rrsig_of}
use Rattle.dns_model.specs.Sections.{is_signature}
use Rattle.dns_model.specs.Chains.{Judge}
use Rattle.dns_model.specs.SoundAnswers.{set_rtype, signed_ttl, ttl_of}
pub use Rattle.dns_rules.specs.Validity.{key_validity, sig_validity, is_accepted}
use Rattle.dns_rules.specs.MarkedSets.{MarkedSet}
pub use Rattle.dns_rules.specs.Marks.{is_skipped_read, by_key_set, verdict_by}
use Rattle.dns_rules.specs.Marks.{Verdict, Proved, Insecure, Failed, key_question, same_tag}
use Rattle.dns_rules.specs.KeySets.{SignedKeys, signer_among}
use Rattle.dns_rules.specs.Outcome.{is_wildcard_signature}
use Rattle.dns_rules.specs.Marking.{cleared, adjusted_ttl}

-- ---- marks

abbrev pub signature_at : List Rr → Option ℕ → Option Rr
signature_at signatures place = option_and_then (slice_get signatures) place

-- fewer than two of the keys before this one have its tag
abbrev pub is_early : List Rr → ℕ × Rr → Bool
is_early keys p = nat_lt (count_by (same_tag p.1) (take p.0 keys)) 2

abbrev pub by_secure_key : Option Rr → Verdict
by_secure_key key = option_map_or (λ key. Proved) key Failed

abbrev pub by_insecure_key : List Rr → Verdict
by_insecure_key keys = option_map_or (λ key. Insecure) (slice_get keys 0) Failed

abbrev pub signed_keys : (Rr → Bool) → Judge → RrSet → ℕ × Rr → Option SignedKeys
signed_keys may_sign j set p = option_map (λ key. record { place = p.0; signature = p.1; key = key }) (signer_among may_sign j set p.1)

-- ---- outcomes

abbrev pub is_expanded_by : Option Rr → Bool
is_expanded_by signature = option_map_or is_wildcard_signature signature false

-- ---- marked records

-- a record of the set that a signature covers, as far as owner and type say so
abbrev pub covered : Rr → Rr
covered signature = record signature { rtype = set_rtype signature }

abbrev pub is_place : Option ℕ → ℕ → Bool
is_place decided place = option_map_or (λ n. n == place) decided false

abbrev pub first_record : List Rr → Option Rr
first_record records = slice_get records 0

abbrev pub adjusted_by : ℕ → MarkedSet → Rr → Option Rr → ℕ
adjusted_by now judged r signature =
    option_map_or (λ s. min (ttl_of (first_record judged.set.records)) (signed_ttl (rrsig_of s) now)) signature r.ttl

-- of the signatures of a set the one at the place of that which decided is marked
abbrev pub marked_by : ℕ → ℕ → Rr → Option MarkedSet → Rr
marked_by now place r judged =
    option_map_or
    (λ s.
    if is_signature r && not (is_place s.sig place)
    then cleared r
    else record r { proof = s.mark; ttl = adjusted_ttl now s r })
    judged (cleared r)

-- ---- asks

abbrev pub signer_question : ℕ → Option RrsigValue → Option Question
signer_question class read = option_map (λ sig. key_question class sig.signer) read

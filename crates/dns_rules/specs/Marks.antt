-- The marks of sets, from the finished answers of their asks (RFC 4035, 4.3, 5.2 and 5.3).
use Rattle.std.specs.Prelude.{ℕ, Bool, true, false, not, ◌==◌, ◌&&◌, ◌||◌, nat_lt, List, [], ◌∷◌, map, take, Option, None, Some, is_some, slice_get, if◌then◌else◌}
use Rattle.std.specs.Option.{option_map_or}
use Rattle.std.specs.List.{filter, find, count_by, position, enumerate_from}
use Rattle.dns_model.specs.declared.proof.Proof.{Proof}
use Rattle.dns_model.specs.declared.proof.Proof.TheVariants as proof
use Rattle.dns_model.specs.declared.section.Section.TheVariants.{Answer}
use Rattle.dns_model.specs.Names.{Labels, name_eq}
use Rattle.dns_model.specs.Types.{type_dnskey}
use Rattle.dns_model.specs.Records.{Rr, RrSet, Question, question_eq}
use Rattle.dns_model.specs.Views.{RrsigValue}
use Rattle.dns_model.specs.RecordViews.{rrsig_of, dnskey_of}
use Rattle.dns_model.specs.Signing.{key_tag_of}
use Rattle.dns_model.specs.Chains.{Judge, signer_fits, never_expanded, right_below_signer}
use Rattle.dns_model.specs.SoundAnswers.{PlacedSet, section_eq}
use Rattle.dns_rules.specs.Validity.{is_good_by}
use Rattle.dns_rules.specs.MarkedSets.{MarkedSet}

-- how many signatures of a set are tried
abbrev pub most_signatures : ℕ
most_signatures = 8

-- the question for a signer's keys
abbrev pub key_question : ℕ → Labels → Question
key_question class signer = record { owner = signer; rtype = type_dnskey; class = class }

-- a signature isn't asked for: it can't be read, its signer doesn't fit, or it asks what is being asked
abbrev pub is_skipped_read : Question → RrSet → Option RrsigValue → Bool
is_skipped_read asked set read =
    option_map_or (λ sig. not (signer_fits set.rtype sig.signer set.owner) || question_eq (key_question set.class sig.signer) asked) read true

abbrev pub is_skipped : Question → RrSet → Rr → Bool
is_skipped asked set r = is_skipped_read asked set (rrsig_of r)

-- the record is a key of a zone: owned by it, of type DNSKEY, and readable
abbrev pub is_key_of_zone : Labels → Rr → Bool
is_key_of_zone zone r = name_eq zone r.owner && is_some (dnskey_of r)

abbrev pub same_tag : Rr → Rr → Bool
same_tag a b = key_tag_of a.rdata == key_tag_of b.rdata

-- the first two keys of each tag: fewer than two of the keys before such a one have its tag
unfoldable pub first_two : List Rr → List Rr
first_two keys =
    map (λ p. p.1) (filter (λ p. nat_lt (count_by (same_tag p.1) (take p.0 keys)) 2) (enumerate_from 0 keys))

-- the keys of a zone that may sign its sets, of whatever records: the first two of each tag
abbrev pub counted_keys : Labels → List Rr → List Rr
counted_keys zone records = first_two (filter (is_key_of_zone zone) records)

-- the key set of a question in the answer section of a finished ask
abbrev pub is_key_set_of : ℕ → Labels → MarkedSet → Bool
is_key_set_of class signer judged =
    section_eq Answer judged.section && (name_eq signer judged.set.owner && ((judged.set.rtype == type_dnskey) && (class == judged.set.class)))

-- what one signature does for its set: it proves it, it shows that no more than Insecure can be expected, or neither
pub data Verdict : Type 0 where
  Proved : Verdict
  Insecure : Verdict
  Failed : Verdict

abbrev pub is_proved : Verdict → Bool
is_proved Proved = true
is_proved _ = false

abbrev pub shows_insecure : Verdict → Bool
shows_insecure Insecure = true
shows_insecure _ = false

-- by the mark and the counted keys of the key set that was asked for: one that is Secure has a key that the signature is good
-- by, one that is Insecure has a key
abbrev pub by_keys : Judge → RrSet → Rr → Proof → List Rr → Verdict
by_keys j set r proof.Secure keys = option_map_or (λ key. Proved) (find (is_good_by j set r) keys) Failed
by_keys j set r proof.Insecure keys = option_map_or (λ key. Insecure) (slice_get keys 0) Failed
by_keys j set r proof.Bogus keys = Failed
by_keys j set r proof.Indeterminate keys = Failed

-- an NSEC or NSEC3 isn't expanded from a wildcard, and an NSEC3 stands right below its signer
abbrev pub may_be_signed : RrSet → RrsigValue → Bool
may_be_signed set sig = never_expanded set.rtype sig.labels set.owner && right_below_signer set.rtype sig.signer set.owner

-- by the signer's key set, if the answer has it
abbrev pub by_key_set : Judge → RrSet → Rr → Labels → Option MarkedSet → Verdict
by_key_set j set r signer keys = option_map_or (λ keys. by_keys j set r keys.mark (counted_keys signer keys.set.records)) keys Failed

-- by the sets of an answer, of a signature as it is read
abbrev pub verdict_by : Judge → RrSet → Rr → List MarkedSet → Option RrsigValue → Verdict
verdict_by j set r answer read =
    option_map_or
    (λ sig.
    if may_be_signed set sig
    then by_key_set j set r sig.signer (find (is_key_set_of set.class sig.signer) answer)
    else Failed)
    read Failed

-- the verdict of one signature, with the sets of the answer to its ask; none where the ask failed or was refused
unfoldable pub verdict_of : Judge → RrSet → Rr → Option (List MarkedSet) → Verdict
verdict_of j set r None = Failed
verdict_of j set r (Some answer) = verdict_by j set r answer (rrsig_of r)

-- a mark, and the place of the signature that decided
pub record Mark : Type 0 where
  pub mark : Proof
  pub sig : Option ℕ

abbrev pub mark_at : Option ℕ → Option ℕ → Mark
mark_at (Some n) excused = record { mark = proof.Secure; sig = Some n }
mark_at None (Some n) = record { mark = proof.Insecure; sig = Some n }
mark_at None None = record { mark = proof.Bogus; sig = None }

-- the mark of a set that isn't DNSKEY: the first Secure signature decides, else the first Insecure one
abbrev pub set_mark : List Verdict → Mark
set_mark [] = record { mark = proof.Bogus; sig = None }
set_mark (v ∷ vs) = mark_at (position is_proved (v ∷ vs)) (position shows_insecure (v ∷ vs))

-- a set that isn't DNSKEY, judged by the verdicts of its signatures
unfoldable pub judged_by : PlacedSet → List Verdict → MarkedSet
judged_by placed verdicts = record {
  section = placed.section;
  set = placed.set;
  mark = (set_mark verdicts).mark;
  sig = (set_mark verdicts).sig;
}

-- What is said of a signature that doesn't prove its set (RFC 4035, 5.3.1; RFC 4034, 3.1.5).
use Rattle.std.specs.Prelude.{ℕ, Bool, false, not, ◌==◌, ◌&&◌, List, ◌++◌, codes, Option, None, Some, if◌then◌else◌}
use Rattle.std.specs.Fmt.{decimal}
use Rattle.std.specs.List.{find}
use Rattle.std.specs.Option.{option_map_or, option_and_then}
use Rattle.dns_model.specs.Names.{name_eq}
use Rattle.dns_model.specs.NameText.{printed}
use Rattle.dns_model.specs.Records.{Rr}
use Rattle.dns_model.specs.RecordViews.{rrsig_of}
use Rattle.dns_model.specs.Serial.{at_or_before, distance, moment_number, timely}
use Rattle.dns_model.specs.Trails.{JudgedSetValue}
use Rattle.dns_model.specs.Views.{RrsigValue}
use Rattle.dns_query_answer.specs.Places.{Place, records_beside}
use Rattle.dns_query_answer.specs.SentenceWords.{span_words}

-- a readable RRSIG of the set's owner that covers its type
abbrev pub covers_set : JudgedSetValue → Rr → Bool
covers_set set r = name_eq set.owner r.owner && option_map_or (λ sig. sig.covered == set.rtype) (rrsig_of r) false

-- one at whose time the moment lies
abbrev pub covers_timely : ℕ → JudgedSetValue → Rr → Bool
covers_timely moment set r = covers_set set r && option_map_or (λ sig. timely sig moment) (rrsig_of r) false

-- the first that covers a set at its time, or the first that covers it
abbrev pub named_record : ℕ → JudgedSetValue → List Rr → Option Rr → Option Rr
named_record moment set records (Some r) = Some r
named_record moment set records None = find (covers_set set) records

-- the signature of a set that is named
unfoldable pub named_signature : ℕ → Place → Option RrsigValue
named_signature moment p =
    option_and_then rrsig_of (named_record moment p.set (records_beside p) (find (covers_timely moment p.set) (records_beside p)))

-- that signature, where no signature of the set is of its time
abbrev pub if_untimely : ℕ → RrsigValue → Option RrsigValue
if_untimely moment sig = if timely sig moment then None else Some sig

abbrev pub untimely_signature : ℕ → Place → Option RrsigValue
untimely_signature moment p = option_and_then (if_untimely moment) (named_signature moment p)

-- ---- words

-- that it ended, begins later, or, within its time, isn't accepted
unfoldable pub validity_words : ℕ → RrsigValue → List ℕ
validity_words moment sig =
    if not (at_or_before (moment_number moment) sig.expiration)
    then codes " ended " ++ (span_words (distance sig.expiration (moment_number moment)) ++ codes " ago")
    else if not (at_or_before sig.inception (moment_number moment))
    then codes " begins in " ++ span_words (distance (moment_number moment) sig.inception)
    else codes " isn't accepted"

-- whose it is, and by which key
abbrev pub signer_words : RrsigValue → List ℕ
signer_words sig = codes "the signature of " ++ printed sig.signer

abbrev pub key_words : RrsigValue → List ℕ
key_words sig = codes " (key " ++ (decimal sig.key_tag ++ codes ")")

-- `the signature of SIGNER (key TAG) ..`
unfoldable pub signature_words : ℕ → RrsigValue → List ℕ
signature_words moment sig = signer_words sig ++ (key_words sig ++ validity_words moment sig)

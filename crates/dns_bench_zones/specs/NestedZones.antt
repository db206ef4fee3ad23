-- Zones that are nested, each proved by the one above it, and a host below the last (RFC 4034; RFC 4035, 2 and 5): their records, what an
-- upstream replies of them, and by what they are judged. Zone 0 is the root.
use Rattle.std.specs.Prelude.{ℕ, zero, suc, true, false, List, [], ◌∷◌, ◌++◌, codes, replicate, None, Ok}
use Rattle.sha2.specs.Sha256.{sha256}
use Rattle.dns_model.specs.declared.denial.Denial.TheVariants as denial
use Rattle.dns_model.specs.declared.proof.Proof.TheVariants.{Indeterminate}
use Rattle.dns_model.specs.Bytes.{u16_bytes}
use Rattle.dns_model.specs.Names.{Labels, folded, wire, num_labels}
use Rattle.dns_model.specs.Types.{type_a, type_ds, type_rrsig, type_dnskey, class_in, code_no_error}
use Rattle.dns_model.specs.Views.{RrsigValue}
use Rattle.dns_model.specs.Signing.{signed_bytes, signed_head, key_tag_of}
use Rattle.dns_model.specs.Records.{Rr, Question, MessageValue}
use Rattle.dns_model.specs.Keys.{AnchorValue, AcceptedSignatureValue}
use Rattle.dns_model.specs.Chains.{Judge, judge}
use Rattle.dns_model.specs.SoundAnswers.{ResponseValue}
use Rattle.dns_evidence.specs.Listing.{ListedValue, answers_of}
use Rattle.dns_handle.specs.Errors.{Reply}
use Rattle.dns_handle.specs.Requests.{plain_options}
use Rattle.dns_handle.specs.declared.request.DnsRequestOptions.{DnsRequestOptions}
use Rattle.dns_recorded.specs.Recording.{RecordedValue}

-- ---- names and keys

-- each zone below the root has the label `z` before the name of the zone above
abbrev pub zone_name : ℕ → Labels
zone_name k = replicate k (codes "z")

-- the host has the label `www` before the name of its zone
abbrev pub host_name : ℕ → Labels
host_name k = codes "www" ∷ zone_name k

-- the public key of a zone is the zone's number
abbrev pub public_key : ℕ → List ℕ
public_key k = u16_bytes k

-- with flags 257, protocol 3 and algorithm 13
abbrev pub key_rdata : ℕ → List ℕ
key_rdata k = 1 ∷ 1 ∷ 3 ∷ 13 ∷ public_key k

-- the digest of a zone's key, of type 2
abbrev pub ds_rdata : ℕ → List ℕ
ds_rdata k = u16_bytes (key_tag_of (key_rdata k)) ++ 13 ∷ 2 ∷ sha256 (wire (folded (zone_name k)) ++ key_rdata k)

-- ---- records

abbrev pub record_of : Labels → ℕ → List ℕ → Rr
record_of owner rtype rdata = record {
  owner = owner;
  rtype = rtype;
  class = class_in;
  ttl = 3600;
  rdata = rdata;
  proof = Indeterminate;
}

abbrev pub key_record : ℕ → Rr
key_record k = record_of (zone_name k) type_dnskey (key_rdata k)

abbrev pub ds_record : ℕ → Rr
ds_record k = record_of (zone_name k) type_ds (ds_rdata k)

-- the host has the address 192.0.2.1
abbrev pub host_record : ℕ → Rr
host_record k = record_of (host_name k) type_a (192 ∷ 0 ∷ 2 ∷ 1 ∷ [])

-- every signature has these two octets, and is valid from 900 to 2000
abbrev pub signature_octets : List ℕ
signature_octets = 83 ∷ 73 ∷ []

-- what a zone's signature of a record says
abbrev pub signature_by : ℕ → Rr → RrsigValue
signature_by k r = record {
  covered = r.rtype;
  algorithm = 13;
  labels = num_labels r.owner;
  original_ttl = 3600;
  expiration = 2000;
  inception = 900;
  key_tag = key_tag_of (key_rdata k);
  signer = zone_name k;
  signature = signature_octets;
}

-- a zone's signature of a record
abbrev pub signature_record : ℕ → Rr → Rr
signature_record k r = record_of r.owner type_rrsig (signed_head (signature_by k r) ++ signature_octets)

-- ---- replies

abbrev pub question_of : Rr → Question
question_of r = record { owner = r.owner; rtype = r.rtype; class = r.class }

-- a message with these answers to a question
abbrev pub message_with : Question → List Rr → MessageValue
message_with q answers = record {
  id = 0;
  response = true;
  op_code = 0;
  authoritative = true;
  truncated = false;
  recursion_desired = false;
  recursion_available = false;
  authentic_data = false;
  checking_disabled = false;
  response_code = code_no_error;
  queries = q ∷ [];
  answers = answers;
  authorities = [];
  additionals = [];
  edns = None;
}

abbrev pub response_with : MessageValue → ResponseValue
response_with message = record { message = message; chains = []; denial = denial.None; trail = [] }

-- the question for a record, and the reply to it: the record, with a signature or without
abbrev pub told_with : Rr → List Rr → Question × Reply
told_with r signatures = (question_of r, Ok (response_with (message_with (question_of r) (r ∷ signatures))))

-- a zone's key set is unsigned
abbrev pub keys_told : ℕ → Question × Reply
keys_told k = told_with (key_record k) []

-- the DS set of the zone below a zone is signed by that zone
abbrev pub ds_told : ℕ → Question × Reply
ds_told k = told_with (ds_record (suc k)) (signature_record k (ds_record (suc k)) ∷ [])

-- the host's address is signed by its zone
abbrev pub host_told : ℕ → Question × Reply
host_told k = told_with (host_record k) (signature_record k (host_record k) ∷ [])

-- what is told of the zones down to one
unfoldable pub zones_told : ℕ → List (Question × Reply)
zones_told zero = keys_told zero ∷ []
zones_told (suc k) = zones_told k ++ ds_told k ∷ keys_told (suc k) ∷ []

-- the upstream that tells of the host below so many zones, and of these and the root
abbrev pub upstream : ℕ → RecordedValue
upstream n = record { sends = 0; faults = 0; replies = host_told n ∷ zones_told n; by_turn = false }

-- ---- by what they are judged

-- the root's key is trusted
abbrev pub anchors : List AnchorValue
anchors = record { owner = []; algorithm = 13; key = public_key 0 } ∷ []

-- a zone's signature of a record, as it is accepted
abbrev pub accepted_by : ℕ → Rr → AcceptedSignatureValue
accepted_by k r = record {
  algorithm = 13;
  key = public_key k;
  bytes = signed_bytes r.owner r.rtype r.class (r.rdata ∷ []) (signature_by k r);
  signature = signature_octets;
}

-- the accepted signatures of the DS sets of the zones down to one
unfoldable pub accepted_to : ℕ → List AcceptedSignatureValue
accepted_to zero = []
accepted_to (suc k) = accepted_to k ++ accepted_by k (ds_record (suc k)) ∷ []

-- algorithm 13 is supported, and the signatures of so many zones are accepted: no other is
abbrev pub verifier : ℕ → ListedValue
verifier n = record { algorithms = 13 ∷ []; accepted = accepted_to n ++ accepted_by n (host_record n) ∷ [] }

-- a moment at which each signature is valid
abbrev pub moment : ℕ
moment = 1000

abbrev pub judge_of_zones : ℕ → Judge
judge_of_zones n = judge (answers_of (verifier n)) anchors moment

-- ---- what is looked up

abbrev pub host_question : ℕ → Question
host_question n = question_of (host_record n)

-- asks go as deep as any may
abbrev pub deep_options : DnsRequestOptions
deep_options = record plain_options { max_request_depth = 255 }

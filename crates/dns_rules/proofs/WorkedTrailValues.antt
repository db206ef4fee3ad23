-- Trails on worked rows, for WorkedTrails: the root's NS set, signed by the root's anchored key, and what a lookup made of it.
use Rattle.std.specs.Prelude.{ℕ, true, false, ◌==◌, ◌&&◌, ◌||◌, List, [], ◌∷◌, Option, None, Some}
use Rattle.dns_model.specs.declared.proof.Proof.{Proof}
use Rattle.dns_model.specs.declared.proof.Proof.TheVariants.{Secure, Bogus, Indeterminate}
use Rattle.dns_model.specs.declared.section.Section.TheVariants.{Answer, Additional}
use Rattle.dns_model.specs.declared.denial.Denial.TheVariants as denial
use Rattle.dns_model.specs.declared.trail.AskRef.{AskRef}
use Rattle.dns_model.specs.declared.trail.AskRef.TheVariants.{Step}
use Rattle.dns_model.specs.declared.trail.MarkOrigin.TheVariants.{Table}
use Rattle.dns_model.specs.Keys.{VerifierAnswers, bytes_eq}
use Rattle.dns_model.specs.Chains.{Judge, judge}
use Rattle.dns_model.specs.Names.{Labels}
use Rattle.dns_model.specs.Records.{Rr, Question}
use Rattle.dns_model.specs.Trails.{AskedValue, JudgedSetValue, HeardValue, EndingValue, Records, Fault, Answered, Denied, Failed}
use Rattle.dns_rules.specs.Asking.{Limits}
use Rattle.dns_model.proofs.Worked.{key, signature, signed, name_a, anchors}

-- ---- records, questions and replies

abbrev pub record_of : Labels → ℕ → List ℕ → Rr
record_of owner rtype rdata = record { owner = owner; rtype = rtype; class = 1; ttl = 3600; rdata = rdata; proof = Indeterminate }

abbrev pub keys_question : Question
keys_question = record { owner = []; rtype = 48; class = 1 }

abbrev pub ns_question : Question
ns_question = record { owner = []; rtype = 2; class = 1 }

-- a reply with these records in its answer section and in its additional section
abbrev pub reply_of : List Rr → List Rr → HeardValue
reply_of answers additionals = Records (record { code = 0; answers = answers; authorities = []; additionals = additionals }) false

-- the root's NS set, of one record, with its signature
abbrev pub ns_records : List Rr
ns_records = record_of [] 2 name_a ∷ record_of [] 46 signature ∷ []

-- an address of `a.`, signed by the root, from 900 to 2000
abbrev pub address_signature : List ℕ
address_signature =
    0 ∷ 1 ∷ 13 ∷ 1 ∷ 0 ∷ 0 ∷ 14 ∷ 16 ∷ 0 ∷ 0 ∷ 7 ∷ 208 ∷ 0 ∷ 0 ∷ 3 ∷ 132 ∷ 174 ∷ 201 ∷ 0 ∷ 192 ∷ 222 ∷ []

abbrev pub signed_address : List ℕ
signed_address =
    0 ∷ 1 ∷ 13 ∷ 1 ∷ 0 ∷ 0 ∷ 14 ∷ 16 ∷ 0 ∷ 0 ∷ 7 ∷ 208 ∷ 0 ∷ 0 ∷ 3 ∷ 132 ∷ 174 ∷ 201 ∷ 0
    ∷ 1 ∷ 97 ∷ 0 ∷ 0 ∷ 1 ∷ 0 ∷ 1 ∷ 0 ∷ 0 ∷ 14 ∷ 16 ∷ 0 ∷ 4 ∷ 192 ∷ 0 ∷ 2 ∷ 1 ∷ []

abbrev pub address_records : List Rr
address_records =
    record_of ((97 ∷ []) ∷ []) 1 (192 ∷ 0 ∷ 2 ∷ 1 ∷ []) ∷ record_of ((97 ∷ []) ∷ []) 46 address_signature ∷ []

-- ---- the judge, and how far it goes

abbrev pub within : ℕ → Limits
within depth = record { depth = depth; soft = 100; hard = 500 }

-- supports algorithm 13, and accepts the two signatures by the root's key
abbrev pub verifier : VerifierAnswers
verifier = record {
  supports = λ algorithm. algorithm == 13;
  accepts = λ algorithm public bytes sig.
      (algorithm == 13) && (bytes_eq public (170 ∷ 187 ∷ []) && ((bytes_eq bytes signed || bytes_eq bytes signed_address)
      && bytes_eq sig (192 ∷ 222 ∷ [])));
}

-- the root's key is an anchor, and the moment is 1000
abbrev pub root_judge : Judge
root_judge = judge verifier anchors 1000

-- ---- entries of sets

abbrev pub answer_entry : ℕ → Proof → Option ℕ → List AskRef → JudgedSetValue
answer_entry rtype mark sig asked = record {
  section = Answer;
  owner = [];
  rtype = rtype;
  mark = mark;
  origin = Table;
  sig = sig;
  asked = asked;
}

abbrev pub address_entry : Proof → Option ℕ → List AskRef → JudgedSetValue
address_entry mark sig asked = record {
  section = Additional;
  owner = (97 ∷ []) ∷ [];
  rtype = 1;
  mark = mark;
  origin = Table;
  sig = sig;
  asked = asked;
}

-- ---- steps

-- the ask for the root's keys, one deeper than the top
abbrev pub keys_step : HeardValue → List JudgedSetValue → EndingValue → AskedValue
keys_step reply sets ending = record {
  depth = 1;
  judged = true;
  query = keys_question;
  reply = reply;
  sets = sets;
  ending = ending;
  excuse = [];
}

-- the ask for the root's NS set, at the top
abbrev pub ns_step : HeardValue → List JudgedSetValue → EndingValue → AskedValue
ns_step reply sets ending = record {
  depth = 0;
  judged = true;
  query = ns_question;
  reply = reply;
  sets = sets;
  ending = ending;
  excuse = [];
}

-- the root's keys came: one, which is an anchor; its entries
abbrev pub keys_judged : List JudgedSetValue → AskedValue
keys_judged sets = keys_step (reply_of (record_of [] 48 key ∷ []) []) sets (Answered denial.None)

abbrev pub keys_found : AskedValue
keys_found = keys_judged (answer_entry 48 Secure None [] ∷ [])

-- no reply came for the root's keys
abbrev pub keys_fault : AskedValue
keys_fault = keys_step Fault [] Failed

-- a reply without records came for the root's keys: it is denied, since a search from the root finds no unsigned zone
abbrev pub keys_missed : AskedValue
keys_missed = keys_step (reply_of [] []) [] (Denied Bogus)

-- the NS set came, and got this mark, by this signature, after these asks
abbrev pub ns_found : Proof → Option ℕ → List AskRef → AskedValue
ns_found mark sig asked = ns_step (reply_of ns_records []) (answer_entry 2 mark sig asked ∷ []) (Answered denial.None)

-- these records came, and the NS set is Secure by its first signature, after one ask, which ends so
abbrev pub ns_secure : List Rr → EndingValue → AskedValue
ns_secure records ending = ns_step (reply_of records []) (answer_entry 2 Secure (Some 0) (Step 0 ∷ []) ∷ []) ending

-- the NS set came and is Bogus after one ask, and beside it an address
abbrev pub ns_beside : ℕ → JudgedSetValue → AskedValue
ns_beside ask entry =
    ns_step (reply_of ns_records address_records) (answer_entry 2 Bogus None (Step ask ∷ []) ∷ entry ∷ []) (Answered denial.None)

-- the NS set and an address came, each Secure after an ask
abbrev pub both_secure : AskedValue
both_secure =
    ns_step (reply_of ns_records address_records)
    (answer_entry 2 Secure (Some 0) (Step 0 ∷ []) ∷ address_entry Secure (Some 0) (Step 1 ∷ []) ∷ []) (Answered denial.None)

-- What is denied, as a sentence, and why that isn't shown, where it isn't (RFC 4035, 5.4; RFC 5155, 8; RFC 9276, 3.2).
use Rattle.std.specs.Prelude.{ℕ, Bool, not, ◌==◌, ◌&&◌, ◌||◌, nat_lt, List, [], ◌++◌, codes, Option, None, Some, slice_get, if◌then◌else◌}
use Rattle.std.specs.Fmt.{decimal}
use Rattle.std.specs.List.{find, list_any}
use Rattle.std.specs.Option.{option_map, option_map_or, option_and_then}
use Rattle.dns_model.specs.declared.proof.Proof.{Proof}
use Rattle.dns_model.specs.declared.section.Section.TheVariants.{Answer, Authority}
use Rattle.dns_model.specs.declared.trail.AskRef.{AskRef}
use Rattle.dns_model.specs.declared.trail.AskRef.TheVariants.{Step, TooDeep, TooMany}
use Rattle.dns_model.specs.Names.{Labels}
use Rattle.dns_model.specs.NameText.{printed}
use Rattle.dns_model.specs.Records.{Rr, Question}
use Rattle.dns_model.specs.RecordViews.{read_as}
use Rattle.dns_model.specs.SoundAnswers.{is_secure, section_eq}
use Rattle.dns_model.specs.Trails.{AskedValue, JudgedSetValue, HeardValue, Records, Fault}
use Rattle.dns_model.specs.Told.{Told}
use Rattle.dns_model.specs.Types.{can_deny, code_nx_domain, type_ds, type_nsec, type_nsec3}
use Rattle.dns_model.specs.Views.{nsec3_in}
use Rattle.dns_record.specs.Words.{type_word}
use Rattle.dns_rules.specs.Delegations.{is_insecure}
use Rattle.dns_rules.specs.Outcome.{answers_query}
use Rattle.dns_query_answer.specs.CauseWords.{unsigned_words}
use Rattle.dns_query_answer.specs.Following.{ask_fault_words, blamed_ask, is_denial_type}
use Rattle.dns_query_answer.specs.NsecFaults.{nsec_fault}
use Rattle.dns_query_answer.specs.Nsec3Faults.{nsec3_fault}
use Rattle.dns_query_answer.specs.Places.{Explained, Place, causes_of, heard_section, place_by}
use Rattle.dns_query_answer.specs.Reasons.{next_words, reason_words}
use Rattle.dns_query_answer.specs.SentenceWords.{code_words}

-- ---- what is denied

-- that there is no such name (RFC 2308, 2.1), or none of its type there (2.2)
unfoldable pub no_name_words : Labels → List ℕ
no_name_words name = codes "there is no name " ++ printed name

unfoldable pub no_type_words : ℕ → List ℕ
no_type_words rtype = codes "there is no " ++ type_word rtype

unfoldable pub at_name_words : Labels → List ℕ
at_name_words name = codes " record at " ++ printed name

unfoldable pub no_record_words : Question → List ℕ
no_record_words q = no_type_words q.rtype ++ at_name_words q.owner

unfoldable pub absent_words : Question → ℕ → List ℕ
absent_words q code = if code == code_nx_domain then no_name_words q.owner else no_record_words q

-- that the records answer, or that there are none
unfoldable pub claim_words : Question → ℕ → List Rr → List ℕ
claim_words q code answers = if list_any (answers_query q) answers then codes "this is the answer" else absent_words q code

-- ---- why it isn't shown

-- a set that should deny isn't Secure; where no more than Insecure can be expected, any set of the authority section
abbrev pub denial_blames : Proof → JudgedSetValue → Bool
denial_blames proof set =
    section_eq Authority set.section && (not (is_secure set.mark) && (is_insecure proof || is_denial_type set.rtype))

-- the server failed or refused to answer, which denies nothing (RFC 2308, 2)
unfoldable pub refused_words : ℕ → List ℕ
refused_words code = codes ": the server answered with " ++ code_words code

-- that, or what the NSEC3 records of the reply leave open
abbrev pub hash_told_words : Question → Told → List ℕ
hash_told_words q told = if can_deny told.code then nsec3_fault q told else refused_words told.code

abbrev pub hash_heard_words : Question → HeardValue → List ℕ
hash_heard_words q (Records told empty) = hash_told_words q told
hash_heard_words q Fault = []

-- names are hashed too often, or opt-out leaves it open, or it isn't what the records say
unfoldable pub hashed_words : Proof → ℕ → AskedValue → List ℕ
hashed_words proof iterations top =
    if nat_lt 100 iterations then codes ": names are hashed " ++ (decimal iterations ++ codes " times more, which is too often")
    else if is_insecure proof then codes ": an NSEC3 record has the flag Opt-Out"
    else hash_heard_words top.query top.reply

-- by a zone that is asked for: no DS record is supported, or it has none
unfoldable pub ds_record_words : Labels → List ℕ
ds_record_words zone = codes ": no DS record of " ++ printed zone

unfoldable pub unsupported_words : Labels → List ℕ
unsupported_words zone = ds_record_words zone ++ codes " is of an algorithm and a digest type that are supported"

unfoldable pub unsigned_zone_words : Labels → List ℕ
unsigned_zone_words zone = codes ": " ++ unsigned_words zone

unfoldable pub unfollowed_words : AskedValue → List ℕ
unfollowed_words step =
    if list_any (λ r. r.rtype == type_ds) (heard_section step.reply Answer) then unsupported_words step.query.owner
    else unsigned_zone_words step.query.owner

abbrev pub zone_words : List AskedValue → Option AskRef → List ℕ
zone_words steps (Some (Step n)) = option_map_or unfollowed_words (slice_get steps n) []
zone_words steps (Some TooDeep) = []
zone_words steps (Some TooMany) = []
zone_words steps None = []

-- no record of the reply denies anything
abbrev pub no_denial_words : List ℕ
no_denial_words = codes ": no NSEC or NSEC3 record is in the reply"

-- or the server failed or refused to answer
abbrev pub code_fault_words : ℕ → List ℕ
code_fault_words code = if can_deny code then no_denial_words else refused_words code

abbrev pub reply_fault_words : HeardValue → List ℕ
reply_fault_words Fault = no_denial_words
reply_fault_words (Records told empty) = code_fault_words told.code

-- one of these, and that a query failed, if it did
unfoldable pub missing_words : AskedValue → List AskedValue → Option AskRef → List ℕ
missing_words top steps made = reply_fault_words top.reply ++ ask_fault_words steps made

-- by the zone, or since nothing is there that denies it
unfoldable pub excuse_words : Explained → Proof → AskedValue → List ℕ
excuse_words g proof top =
    if is_insecure proof then zone_words g.steps (blamed_ask g.steps top.excuse)
    else missing_words top g.steps (blamed_ask g.steps top.excuse)

-- that the server failed or refused to answer, or what the NSEC records of its reply leave open
abbrev pub name_told_words : Question → Told → List ℕ
name_told_words q told = if can_deny told.code then nsec_fault q told else refused_words told.code

abbrev pub name_heard_words : Question → HeardValue → List ℕ
name_heard_words q (Records told empty) = name_told_words q told
name_heard_words q Fault = []

-- by NSEC records, if there are some
unfoldable pub plain_words : Explained → Proof → AskedValue → List ℕ
plain_words g proof top =
    if list_any (λ r. r.rtype == type_nsec) (heard_section top.reply Authority) then name_heard_words top.query top.reply
    else excuse_words g proof top

-- by the first NSEC3 record, if there is one
abbrev pub record_words : Explained → Proof → AskedValue → Option ℕ → List ℕ
record_words g proof top (Some iterations) = hashed_words proof iterations top
record_words g proof top None = plain_words g proof top

-- how often names are hashed again, by the first NSEC3 record
abbrev pub iterations_in : List Rr → Option ℕ
iterations_in records =
    option_map (λ n. n.iterations) (option_and_then (read_as type_nsec3 nsec3_in) (find (λ r. r.rtype == type_nsec3) records))

abbrev pub denial_fault_words : Explained → Proof → AskedValue → Option Place → List ℕ
denial_fault_words g proof top (Some p) = next_words p ++ reason_words g.steps g p
denial_fault_words g proof top None = record_words g proof top (iterations_in (heard_section top.reply Authority))

-- by the last step of a trail, which has this number
unfoldable pub denial_reason : Explained → Proof → ℕ → AskedValue → List ℕ
denial_reason g proof n top = denial_fault_words g proof top (place_by (denial_blames proof) top (causes_of g n))

-- Which ask is to blame for a set that isn't Secure, and what is said of it (RFC 4035, 4.3 and 5).
use Rattle.std.specs.Prelude.{ℕ, Bool, not, ◌==◌, ◌-◌, ◌&&◌, ◌||◌, List, [], ◌++◌, length, codes, Option, None, Some, slice_get, if◌then◌else◌}
use Rattle.std.specs.List.{find}
use Rattle.std.specs.Option.{option_map_or, option_and_then}
use Rattle.dns_model.specs.declared.proof.Proof.{Proof}
use Rattle.dns_model.specs.declared.section.Section.TheVariants.{Answer, Authority}
use Rattle.dns_model.specs.declared.trail.AskRef.{AskRef}
use Rattle.dns_model.specs.declared.trail.AskRef.TheVariants.{Step, TooDeep, TooMany}
use Rattle.dns_model.specs.Records.{Question}
use Rattle.dns_model.specs.SoundAnswers.{is_secure, section_eq}
use Rattle.dns_model.specs.Trails.{AskedValue, JudgedSetValue, HeardValue, Records, Fault, EndingValue, Answered, Denied, Foreign, Failed, Seen}
use Rattle.dns_model.specs.Types.{can_deny, type_nsec, type_nsec3}
use Rattle.dns_flow.specs.CauseRows.{ask_failed, step_failed}
use Rattle.dns_query_answer.specs.CauseWords.{follows}
use Rattle.dns_query_answer.specs.Places.{Explained, Place, causes_of, place_by}
use Rattle.dns_query_answer.specs.SentenceWords.{code_words, set_words, title}

-- ---- the ask

abbrev pub or_last : List AskRef → Option AskRef → Option AskRef
or_last asked (Some made) = Some made
or_last asked None = slice_get asked (length asked - 1)

-- the first that failed, or else the last
abbrev pub blamed_ask : List AskedValue → List AskRef → Option AskRef
blamed_ask steps asked = or_last asked (find (ask_failed steps) asked)

-- that of a set, where its cause lies in one
abbrev pub ask_to_follow : Explained → Place → Option AskRef
ask_to_follow g p = if follows p.cause then blamed_ask g.steps p.set.asked else None

-- ---- what it came to, in words

unfoldable pub denial_mark_words : Proof → List ℕ
denial_mark_words proof = codes " has no answer, and its denial is " ++ title proof

unfoldable pub answered_words : ℕ → List ℕ
answered_words code = codes " was answered with " ++ code_words code

unfoldable pub denied_words : ℕ → Proof → List ℕ
denied_words code proof = if can_deny code then denial_mark_words proof else answered_words code

abbrev pub ending_words : ℕ → EndingValue → List ℕ
ending_words code (Denied proof) = denied_words code proof
ending_words code (Foreign owner class rtype) = codes " got a record of another class"
ending_words code Failed = codes " isn't judged"
ending_words code (Answered denial) = []
ending_words code Seen = []

abbrev pub came_words : HeardValue → EndingValue → List ℕ
came_words Fault ending = codes " got no reply"
came_words (Records told empty) ending = ending_words told.code ending

unfoldable pub query_words : Question → List ℕ
query_words q = codes ": the query for " ++ set_words q.owner q.rtype

unfoldable pub failed_words : AskedValue → List ℕ
failed_words step = query_words step.query ++ came_words step.reply step.ending

unfoldable pub step_fault_words : AskedValue → List ℕ
step_fault_words step = if step_failed step then failed_words step else []

-- of a query that failed, or that wasn't made
abbrev pub made_fault_words : List AskedValue → AskRef → List ℕ
made_fault_words steps (Step n) = option_map_or step_fault_words (slice_get steps n) []
made_fault_words steps TooDeep = codes ": a query would have been too deep"
made_fault_words steps TooMany = codes ": as many queries had been made as may be"

abbrev pub ask_fault_words : List AskedValue → Option AskRef → List ℕ
ask_fault_words steps made = option_map_or (made_fault_words steps) made []

-- ---- the set in its reply

abbrev pub is_denial_type : ℕ → Bool
is_denial_type rtype = (rtype == type_nsec) || (rtype == type_nsec3)

-- where the step has an answer, the set that was asked for; else one that should deny it
abbrev pub blames_by : Question → EndingValue → JudgedSetValue → Bool
blames_by q (Answered denial) set = section_eq Answer set.section && (set.rtype == q.rtype)
blames_by q (Denied proof) set = section_eq Authority set.section && is_denial_type set.rtype
blames_by q (Foreign owner class rtype) set = section_eq Authority set.section && is_denial_type set.rtype
blames_by q Failed set = section_eq Authority set.section && is_denial_type set.rtype
blames_by q Seen set = section_eq Authority set.section && is_denial_type set.rtype

abbrev pub blames : AskedValue → JudgedSetValue → Bool
blames step set = not (is_secure set.mark) && blames_by step.query step.ending set

-- the first such set that isn't Secure
abbrev pub made_place : Explained → AskRef → Option Place
made_place g (Step n) = option_and_then (λ step. place_by (blames step) step (causes_of g n)) (slice_get g.steps n)
made_place g TooDeep = None
made_place g TooMany = None

abbrev pub blamed_place : Explained → Option AskRef → Option Place
blamed_place g made = option_and_then (made_place g) made

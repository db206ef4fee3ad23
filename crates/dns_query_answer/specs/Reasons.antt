-- Why a set isn't Secure, as words: its cause, and what that stands on, down to the set or the query whose fault is its own
-- (RFC 4035, 4.3, 5.2 and 5.3).
use Rattle.std.specs.Prelude.{ℕ, List, [], ◌∷◌, ◌++◌, codes, Option, None, Some, if◌then◌else◌}
use Rattle.std.specs.Option.{option_map_or}
use Rattle.dns_model.specs.Trails.{AskedValue}
use Rattle.dns_model.specs.Views.{RrsigValue}
use Rattle.dns_query_answer.specs.CauseWords.{cause_words, tries, is_unmatched, is_unverified}
use Rattle.dns_query_answer.specs.DigestWords.{digest_words}
use Rattle.dns_query_answer.specs.Following.{ask_fault_words, ask_to_follow, blamed_place}
use Rattle.dns_query_answer.specs.Places.{Explained, Place, origin_place}
use Rattle.dns_query_answer.specs.SentenceWords.{set_words, title}
use Rattle.dns_query_answer.specs.SignatureWords.{named_signature, untimely_signature, signature_words}

-- the signature that isn't of its time, where signatures were tried
abbrev pub ended_signature : ℕ → Place → Option RrsigValue
ended_signature moment p = if tries p.cause then untimely_signature moment p else None

-- `: OWNER TYPE is MARK: `
abbrev pub next_words : Place → List ℕ
next_words p = codes ": " ++ (set_words p.set.owner p.set.rtype ++ (codes " is " ++ (title p.set.mark ++ codes ": ")))

-- where neither an ask nor the time is to blame, the signature itself is, or a DS record
abbrev pub last_words : Explained → Place → List ℕ
last_words g p =
    if is_unverified p.cause then option_map_or (λ sig. codes ": " ++ signature_words g.moment sig) (named_signature g.moment p) []
    else if is_unmatched p.cause then digest_words g p
    else []

-- what the next set is, and why
abbrev pub deeper_words : Explained → Place → (Place → List ℕ) → Option Place → List ℕ
deeper_words g p why None = last_words g p
deeper_words g p why (Some next) = next_words next ++ why next

-- what a cause stands on: a signature that isn't of its time; or a query that failed; or another set
abbrev pub ground_words : Explained → Place → (Place → List ℕ) → Option RrsigValue → List ℕ
ground_words g p why (Some sig) = codes ": " ++ signature_words g.moment sig
ground_words g p why None =
    ask_fault_words g.steps (ask_to_follow g p) ++ deeper_words g p why (blamed_place g (ask_to_follow g p))

-- of a set as it was judged by the rules
abbrev pub origin_words : Explained → Place → (Place → List ℕ) → List ℕ
origin_words g p why = ground_words g p why (ended_signature g.moment p)

-- at most so many sets deep as there are steps: a step stands on those before it alone
unfoldable pub reason_words : List AskedValue → Explained → Place → List ℕ
reason_words [] g p = cause_words p
reason_words (step ∷ left) g p = cause_words p ++ origin_words g (origin_place g p) (reason_words left g)

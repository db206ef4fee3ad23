-- What a session's upstream answers to its query.
use Rattle.std.proofs.Common.{◌≡◌, true, false, cond, List, [], ◌∷◌, map, Some, Err, refl, Option}
use Rattle.std.specs.List.{find}
use Rattle.dns_model.specs.Records.{Question, question_eq}
use Rattle.dns_handle.specs.Errors.{Reply, ErrorValue, Timeout}
use Rattle.dns_handle.specs.Handles.{reply_to}
use Rattle.dns_session.specs.SessionValue.{SessionValue, ReplyValue}
use Rattle.dns_session_lookup.specs.Replies.{reply_from, recorded, session_told}
use Rattle.std.specs.Option.{option_map_or}

-- an answer is one error
pub err_same : (answer : Reply) (a b : ErrorValue) → answer ≡ Err a → answer ≡ Err b → a ≡ b
err_same answer a b x y = cc

abbrev told_by_reply : Option ReplyValue → Reply
told_by_reply told = option_map_or (λ reply. reply_from reply.kind) told (Err Timeout)

-- the recorded reply to a question is that of the first with it
recorded_reply : (replies : List ReplyValue) (q : Question)
    → reply_to (map recorded replies) q ≡ told_by_reply (find (λ reply. question_eq reply.question q) replies)
unfolding reply_to
recorded_reply [] q = refl
recorded_reply (r ∷ rs) q =
    elim (question_eq r.question q) as
    (λ b. cond b (reply_from r.kind) (reply_to (map recorded rs) q) ≡ told_by_reply
    (cond b (Some r) (find (λ reply. question_eq reply.question q) rs))) [
      | true ↦ refl
      | false ↦ recorded_reply rs q
    ]

-- the recorded reply to the query
pub session_replied : (s : SessionValue) → reply_to (map recorded s.replies) s.query ≡ session_told s
session_replied s = recorded_reply s.replies s.query

-- What a handle inside tells is told still, unless it serves by turn.
use Rattle.std.proofs.Common.{◌≡◌, ◌∙◌, inl, inr, Bool, true, false, Option, None, Some, refl, sym, ap, subst, if◌then◌else◌}
use Rattle.dns_model.specs.Records.{Question}
use Rattle.dns_handle.specs.Errors.{Reply}
use Rattle.dns_handle.specs.Handles.{Replies, after_turn, IsLeft, ReplyIsTold}
use Rattle.dns_retry.specs.Telling.{still_told}

-- the replies that are told still, by whether they are served by turn
abbrev told_by : Bool → Replies → Option Replies
told_by by_turn told = if by_turn then None else Some told

abbrev left_by : Bool → Replies → Question → Replies
left_by by_turn told q = record told { list = if by_turn then after_turn told.list q else told.list }

same_by : (by_turn : Bool) (told : Replies) (q : Question) → told_by by_turn (left_by by_turn told q) ≡ told_by by_turn told
same_by true told q = refl
same_by false told q = refl

-- a send changes nothing in what is told still
pub still_same : (before : Option Replies) (q : Option Question) (reply : Reply) (after : Option Replies)
    → IsLeft before q reply after → still_told after ≡ still_told before
still_same None q reply after left = ap still_told left
still_same (Some told) None reply after left = ap still_told left
still_same (Some told) (Some q) reply after (inl left) = ap still_told left ∙ same_by told.by_turn told q
still_same (Some told) (Some q) reply after (inr kept) = ap still_told kept.1

reply_by : (by_turn : Bool) (told : Replies) (q : Option Question) (reply : Reply)
    → ReplyIsTold (Some told) q reply → ReplyIsTold (told_by by_turn told) q reply
reply_by true told q reply is = tt
reply_by false told q reply is = is

-- a reply that is told is told still
pub still_reply : (before : Option Replies) (q : Option Question) (reply : Reply)
    → ReplyIsTold before q reply → ReplyIsTold (still_told before) q reply
still_reply None q reply is = tt
still_reply (Some told) q reply is = reply_by told.by_turn told q reply is

kept_by : (by_turn : Bool) (told : Replies) (q : Option Question) (reply : Reply) → told.by_turn ≡ by_turn
    → IsLeft (told_by by_turn told) q reply (told_by by_turn told)
kept_by true told q reply by = refl
kept_by false told None reply by = refl
kept_by false told (Some q) reply by = inl (ap (λ turn. Some (left_by turn told q)) (sym by))

-- a handle that tells the same as before tells what a send leaves
pub still_left : (before : Option Replies) (q : Option Question) (reply : Reply) (after : Option Replies)
    → after ≡ still_told before → IsLeft (still_told before) q reply after
still_left None q reply after same = same
still_left (Some told) q reply after same = rw same (kept_by told.by_turn told q reply refl)

-- two sends, of which the first changes nothing in what is told still
pub still_then : (start mid : Option Replies) (q : Option Question) (reply : Reply) → mid ≡ start → ReplyIsTold mid q reply
    → ReplyIsTold start q reply
still_then start mid q reply same is =
    let P : Option Replies → Type 0 = λ told. ReplyIsTold told q reply in subst P same is

use Rattle.std.proofs.Common.{◌≡◌, ◌++◌, length}
use Rattle.std.specs.List.{flat_map, list_all}
use Rattle.dns_saved_session.specs.SavedText.{fitting_reply, reply_text}
use Rattle.dns_saved_session.proofs.replies.push_replies.Given as goal

abbrev pub invariant-replies : goal.invariant-replies
invariant-replies l =
    (l.into.items ++ flat_map reply_text l.left ≡ l.initial.into.items ++ flat_map reply_text l.replies)
    × (list_all fitting_reply l.replies ≡ list_all fitting_reply l.left)

abbrev pub decreases-replies : goal.decreases-replies
decreases-replies l = length l.left

-- Which replies a handle that sends again can tell: those that no resend changes.
use Rattle.std.specs.Prelude.{Option, None, Some, if◌then◌else◌}
use Rattle.dns_handle.specs.Handles.{Replies}

-- replies that are served by turn are told no more, since a call may take several of them
abbrev pub still_told : Option Replies → Option Replies
still_told None = None
still_told (Some replies) = if replies.by_turn then None else Some replies

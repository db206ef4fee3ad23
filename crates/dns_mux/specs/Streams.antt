-- What comes for a request, one reply after another, until nothing comes in time (RFC 1035, 4.2.1; RFC 5936, 2.2: a request may
-- have several responses).
use Rattle.std.specs.Prelude.{◌≡◌, Bool, true, false, not, List, [], ◌∷◌, drop, map, Option, None, Some, Result, Err, slice_get, option_map}
use Rattle.std.specs.List.{take_while}
use Rattle.futures.specs.declared.task.Poll.{Poll}
use Rattle.futures.specs.declared.task.Poll.TheVariants.{Ready, Pending}
use Rattle.futures.specs.Runs.{Runs}
use Rattle.dns_model.specs.SoundAnswers.{ResponseValue}
use Rattle.dns_handle.specs.Errors as seen
use Rattle.dns_handle.specs.Errors.{Reply}
use Rattle.dns_handle.specs.Replies.{reply_of}
use Rattle.dns_handle.specs.declared.error.NetError.{NetError}

-- what streams of responses give
abbrev pub Item : Type 0
Item = Result ResponseValue NetError

abbrev pub is_timeout : Reply → Bool
is_timeout (Err seen.Timeout) = true
is_timeout _ = false

-- the replies before the first that says that nothing came in time
abbrev pub before_timeout : List Reply → List Reply
before_timeout replies = take_while (λ reply. not (is_timeout reply)) replies

-- a first item, if there is one, and the others
abbrev pub in_front : Option Item → List Item → List Reply
in_front None rest = map reply_of rest
in_front (Some item) rest = reply_of item ∷ map reply_of rest

-- what a poll gave
abbrev pub poll_of : Poll (Option Item) → Poll (Option Reply)
poll_of (Ready item) = Ready (option_map reply_of item)
poll_of Pending = Pending

-- items that come are these replies from the first on, and then the one behind them, or the end
abbrev pub YieldsInTurn : List Reply → Runs Item
YieldsInTurn replies [] last = option_map reply_of last ≡ slice_get replies 0
YieldsInTurn replies (x ∷ items) last =
    (Some (reply_of x) ≡ slice_get replies 0) × YieldsInTurn (drop 1 replies) items last

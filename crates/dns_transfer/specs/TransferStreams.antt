-- A transfer whose messages a stream gives (RFC 5936, 2.2: it may have many messages).
use Rattle.std.specs.Prelude.{◌≡◌, Bool, true, false, List, [], ◌∷◌, Option, None, Some, Result, Ok, Err, IfSome, option_map}
use Rattle.futures.specs.declared.task.Poll.{Poll}
use Rattle.futures.specs.declared.task.Poll.TheVariants.{Ready, Pending}
use Rattle.futures.specs.Poll.{IfReady, OnPending}
use Rattle.futures.specs.Runs.{Runs, After, Within}
use Rattle.dns_model.specs.SoundAnswers.{ResponseValue}
use Rattle.dns_handle.specs.declared.error.NetError.{NetError}
use Rattle.dns_handle.specs.declared.error.NetError.TheVariants.{Message}
use Rattle.dns_handle.specs.declared.notice.Notice.{Notice}
use Rattle.dns_transfer.specs.Transfers.{Transfer, stage_after, transfer_after, is_ended}
use Rattle.dns_transfer.specs.declared.stage.Stage.{Stage}
use Rattle.dns_transfer.specs.declared.transfer_stream.ClientStreamXfr.{ClientStreamXfr}

-- what streams of responses give
abbrev pub Item : Type 0
Item = Result ResponseValue NetError

-- the stream that is read, and the transfer that its responses make
abbrev pub stream_of : {S : Type 0} → ClientStreamXfr S → S
stream_of xfr = xfr.stream

abbrev pub transfer_of : {S : Type 0} → ClientStreamXfr S → Transfer
transfer_of xfr = xfr.transfer

-- ---- one item

abbrev pub given_by : Result Stage Notice → ResponseValue → Item
given_by (Ok stage) response = Ok response
given_by (Err notice) response = Err (Message notice)

-- what an item of the stream inside is given as: an error of the transfer stands in the place of its response
abbrev pub given_for : Transfer → Item → Item
given_for transfer (Ok response) = given_by (stage_after transfer response.message.answers) response
given_for transfer (Err error) = Err error

-- what an item leaves of the transfer: an error of the stream inside changes nothing
abbrev pub left_after : Transfer → Item → Transfer
left_after transfer (Ok response) = transfer_after transfer response.message.answers
left_after transfer (Err error) = transfer

-- ---- one poll

abbrev pub poll_for : Transfer → Poll (Option Item) → Poll (Option Item)
poll_for transfer (Ready item) = Ready (option_map (given_for transfer) item)
poll_for transfer Pending = Pending

abbrev pub left_by : Transfer → Poll (Option Item) → Transfer
left_by transfer (Ready (Some item)) = left_after transfer item
left_by transfer (Ready None) = transfer
left_by transfer Pending = transfer

-- the stream inside is polled: what it gave, what of it is given, and what is left
pub record PollsInner {S : Type 0} (yields : S → Runs Item) (old new : ClientStreamXfr S) (result : Poll (Option Item)) : Type 0 where
  pub inner : Poll (Option Item)
  pub came : IfReady inner (yields (stream_of old) [])
  pub goes_on : IfReady inner (λ o. IfSome o (λ x. After (yields (stream_of old)) x (yields (stream_of new))))
  pub waits : OnPending inner (Within (yields (stream_of old)) (yields (stream_of new)))
  pub gives : result ≡ poll_for (transfer_of old) inner
  pub left : transfer_of new ≡ left_by (transfer_of old) inner

abbrev pub PollsBy : Bool → {S : Type 0} → (S → Runs Item) → ClientStreamXfr S → ClientStreamXfr S → Poll (Option Item) → Type 0
PollsBy true yields old new result = (result ≡ Ready None) × (new ≡ old)
PollsBy false yields old new result = PollsInner yields old new result

-- after the transfer's end the stream inside is polled no more
abbrev pub PollsTransfer : {S : Type 0} → (S → Runs Item) → ClientStreamXfr S → ClientStreamXfr S → Poll (Option Item) → Type 0
PollsTransfer yields old new result = PollsBy (is_ended (transfer_of old)) yields old new result

-- ---- all that comes

-- an answer that comes of one of the stream inside
pub record ComesOf (source : Runs Item) (transfer : Transfer) (last : Option Item) : Type 0 where
  pub inner : Option Item
  pub came : source [] inner
  pub given : last ≡ option_map (given_for transfer) inner

abbrev pub LastBy : Bool → Runs Item → Transfer → Option Item → Type 0
LastBy true source transfer last = last ≡ None
LastBy false source transfer last = ComesOf source transfer last

-- while the transfer goes on, each item comes of the next of the stream inside, and the end of its end; then it ends
abbrev pub YieldsTransfer : Runs Item → Transfer → Runs Item
YieldsTransfer source transfer [] last = LastBy (is_ended transfer) source transfer last
YieldsTransfer source transfer (x ∷ items) last = (inner : Item) × (is_ended transfer ≡ false) × source [] (Some inner)
    × (x ≡ given_for transfer inner) × YieldsTransfer (λ rest. source (inner ∷ rest)) (left_after transfer inner) items last

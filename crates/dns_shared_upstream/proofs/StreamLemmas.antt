-- How a stream's count of failures moves, and what its errors are.
use Rattle.std.proofs.Common.{◌≡◌, ℕ, ◌==◌, ◌⊎◌, inl, inr, Bool, true, false, List, [], ◌∷◌, ◌++◌, drop, length, None, Some, Result, Ok, Err, IfErr, refl, sym, ap, ◌∙◌, subst, if◌then◌else◌, arith}
use Rattle.std.specs.Prelude.{nat_le, nat_lt}
use Rattle.std.proofs.lemmas.Bool.Decides.{nat_tests}
use Rattle.std.specs.declared.net.socket_addr.SocketAddr.{SocketAddr}
use Rattle.dns_handle.specs.Conversions.{outside_failed}
use Rattle.dns_handle.specs.declared.error.NetError.{NetError}
use Rattle.dns_handle.specs.declared.error.NetError.TheVariants.{Message, Io, NoMemory}
use Rattle.dns_handle.specs.declared.notice.Notice.TheVariants.{SendQueueFull}
use Rattle.dns_handle.specs.declared.io_kind.IoKind.{IoKind}
use Rattle.dns_handle.specs.declared.io_kind.IoKind.TheVariants.{BrokenPipe, InvalidData, NotConnected, Other, RequestTooLong, TimedOut}
use Rattle.dns_multiplexer.specs.Messages.{SerialMessageValue}
use Rattle.dns_multiplexer.specs.Queues.{IsPut}
use Rattle.dns_tcp.specs.declared.feed.Feed.{Feed}
use Rattle.dns_tcp.specs.declared.feed.Feed.TheVariants.{Closed, Message as Whole, More}
use Rattle.dns_tcp.specs.Draining as draining
use Rattle.dns_tcp.specs.Draining.{Drains, IsLoaded, IsRefused, after_drain, drain_reply, is_drained, sent}
use Rattle.dns_tcp.specs.Feeding as feeding
use Rattle.dns_tcp.specs.Feeding.{Feeds, after_feed, after_feed_reply, end_reply, feed_reply, frame_reply, message_reply, part_after}
use Rattle.dns_tcp.specs.Frames.{lacking}
use Rattle.dns_tcp.specs.Links.{LinkView}
use Rattle.dns_tcp.specs.Streams.{StreamValue, after_error, after_reply, with_fault}
use Rattle.dns_shared_upstream.specs.Books.{Covers, IsOutside, IsStreamError, failures_after, fault_of, has_failed_read, has_failed_write, is_failure, total_after}

-- one more failure, or none, is covered
pub covers_on : (failed : Bool) (total failures : ℕ) → Covers total failures
    → Covers (total_after failed total) (failures_after failed failures)
covers_on true total failures covers = omega (arith, covers)
covers_on false total failures covers = covers

-- ---- what errors are

pub fault_back : (kind : IoKind) → fault_of (outside_failed kind) ≡ Some kind
fault_back TimedOut = refl
fault_back _ = refl

some_same : (one next : IoKind) → Some one ≡ Some next → one ≡ next
some_same one next is = cc

-- the fault that an error of a stream is, is that error
pub fault_is : (error : NetError) (kind : IoKind) → IsStreamError error → fault_of error ≡ Some kind
    → error ≡ outside_failed kind
fault_is error kind (inl none) is = let e : fault_of error ≡ None = ap fault_of none in cc
fault_is error kind (inr outside) is =
    let told : Some outside.kind ≡ Some kind = sym (ap fault_of outside.is ∙ fault_back outside.kind) ∙ is in
    outside.is ∙ ap outside_failed (some_same outside.kind kind told)

-- one that is no fault is want of memory
pub no_fault_is : (error : NetError) → IsStreamError error → fault_of error ≡ None → error ≡ NoMemory
no_fault_is error (inl none) is = none
no_fault_is error (inr outside) is =
    let e : Some outside.kind ≡ None = sym (ap fault_of outside.is ∙ fault_back outside.kind) ∙ is in cc

outside_error : (kind : IoKind) → IsStreamError (outside_failed kind)
outside_error kind = inr (record { kind = kind; is = refl })

-- ---- how failures are counted

outside_after : (kind : IoKind) (stream : StreamValue) → after_error (outside_failed kind) stream ≡ with_fault stream
outside_after TimedOut stream = refl
outside_after _ stream = refl

error_failures : (error : NetError) (stream : StreamValue) → IsStreamError error
    → (after_error error stream).failures ≡ failures_after (is_failure (fault_of error)) stream.failures
error_failures error stream (inl none) = rw none refl
error_failures error stream (inr outside) =
    let told : fault_of error ≡ Some outside.kind = ap fault_of outside.is ∙ fault_back outside.kind in
    rw (told, outside.is) (ap (λ (s : StreamValue). s.failures) (outside_after outside.kind stream))

error_peer : (error : NetError) (stream : StreamValue) → (after_error error stream).peer ≡ stream.peer
error_peer NoMemory stream = refl
error_peer _ stream = refl

reply_failures : {X : Type 0} (reply : Result X NetError) (stream : StreamValue) → IfErr reply IsStreamError
    → (after_reply reply stream).failures ≡ failures_after (has_failed_write reply) stream.failures
reply_failures (Ok x) stream is = refl
reply_failures (Err error) stream is = error_failures error stream is

reply_peer : {X : Type 0} (reply : Result X NetError) (stream : StreamValue)
    → (after_reply reply stream).peer ≡ stream.peer
reply_peer (Ok x) stream = refl
reply_peer (Err error) stream = error_peer error stream

-- ---- reads

message_error : (peer : SocketAddr) (bytes : List ℕ) → IfErr (message_reply peer bytes) IsStreamError
message_error peer [] = outside_error BrokenPipe
message_error peer (b ∷ bs) = tt

frame_error : (peer : SocketAddr) (bytes : List ℕ) (t : Bool)
    → IfErr (if t then message_reply peer (drop 2 bytes) else Ok More) IsStreamError
frame_error peer bytes true = message_error peer (drop 2 bytes)
frame_error peer bytes false = tt

end_error : (part : List ℕ) → IfErr (end_reply part) IsStreamError
end_error [] = tt
end_error (b ∷ bs) = outside_error BrokenPipe

feed_error : (peer : SocketAddr) (part : List ℕ) (outcome : Result (List ℕ) IoKind)
    → IfErr (feed_reply peer part outcome) IsStreamError
feed_error peer part (Ok []) = end_error part
feed_error peer part (Ok (b ∷ bs)) = frame_error peer (part ++ b ∷ bs) (lacking (part ++ b ∷ bs) == 0)
feed_error peer part (Err kind) = outside_error kind

read_failures : (reply : Result Feed NetError) (stream : StreamValue) → IfErr reply IsStreamError
    → (after_feed_reply reply stream).failures ≡ failures_after (has_failed_read reply) stream.failures
read_failures (Ok More) stream is = refl
read_failures (Ok (Whole message)) stream is = refl
read_failures (Ok Closed) stream is = refl
read_failures (Err error) stream is = error_failures error stream is

read_peer : (reply : Result Feed NetError) (stream : StreamValue) → (after_feed_reply reply stream).peer ≡ stream.peer
read_peer (Ok More) stream = refl
read_peer (Ok (Whole message)) stream = refl
read_peer (Ok Closed) stream = refl
read_peer (Err error) stream = error_peer error stream

module _ {L : Type 0} (seen : LinkView L) (old_link new_link : L) (old new : StreamValue)
    (reply : Result Feed NetError) where
  pub fed_error : Feeds seen old_link new_link old new reply → IfErr reply IsStreamError
  fed_error (feeding.NoRoom f e n l) = subst (λ (r : Result Feed NetError). IfErr r IsStreamError) (sym e) (inl refl)
  fed_error (feeding.HadFailed f e n l) =
      subst (λ (r : Result Feed NetError). IfErr r IsStreamError) (sym e) (outside_error NotConnected)
  fed_error (feeding.Read outcome f once e n) =
      subst (λ (r : Result Feed NetError). IfErr r IsStreamError) (sym e) (feed_error old.peer old.part outcome)

  pub fed_failures : Feeds seen old_link new_link old new reply
      → new.failures ≡ failures_after (has_failed_read reply) old.failures
  fed_failures (feeding.NoRoom f e n l) = rw (e, n) refl
  fed_failures (feeding.HadFailed f e n l) = rw (e, n) refl
  fed_failures (feeding.Read outcome f once e n) =
      rw (e, n)
      (read_failures (feed_reply old.peer old.part outcome) (record old { part = part_after old.part outcome })
      (feed_error old.peer old.part outcome))

  pub fed_peer : Feeds seen old_link new_link old new reply → new.peer ≡ old.peer
  fed_peer (feeding.NoRoom f e n l) = ap (λ (s : StreamValue). s.peer) n
  fed_peer (feeding.HadFailed f e n l) = ap (λ (s : StreamValue). s.peer) n
  fed_peer (feeding.Read outcome f once e n) =
      ap (λ (s : StreamValue). s.peer) n
      ∙ read_peer (feed_reply old.peer old.part outcome) (record old { part = part_after old.part outcome })

-- ---- writes

refused_error : (old : StreamValue) (error : NetError) → IsRefused old error → IsOutside error
refused_error old error (draining.Misaddressed message rest idle next addr is) = record { kind = InvalidData; is = is }
refused_error old error (draining.TooLong message rest idle next addr long is) =
    record { kind = RequestTooLong; is = is }

took_error : (t all : Bool) → IfErr (if t then Err (Io Other) else Ok all) IsStreamError
took_error true all = outside_error Other
took_error false all = tt

drain_error : (outcome : Result ℕ IoKind) (after : StreamValue) → IfErr (drain_reply outcome after) IsStreamError
drain_error (Ok n) after = took_error (n == 0) (is_drained after)
drain_error (Err kind) after = outside_error kind

loaded_failures : (old loaded : StreamValue) → IsLoaded old loaded → loaded.failures ≡ old.failures
loaded_failures old loaded (draining.Begun some same) = ap (λ (s : StreamValue). s.failures) same
loaded_failures old loaded (draining.Next message rest idle next addr fits is) = ap (λ (s : StreamValue). s.failures) is

loaded_peer : (old loaded : StreamValue) → IsLoaded old loaded → loaded.peer ≡ old.peer
loaded_peer old loaded (draining.Begun some same) = ap (λ (s : StreamValue). s.peer) same
loaded_peer old loaded (draining.Next message rest idle next addr fits is) = ap (λ (s : StreamValue). s.peer) is

sent_failures : (outcome : Result ℕ IoKind) (loaded : StreamValue) → (sent outcome loaded).failures ≡ loaded.failures
sent_failures (Ok n) loaded = refl
sent_failures (Err kind) loaded = refl

sent_peer : (outcome : Result ℕ IoKind) (loaded : StreamValue) → (sent outcome loaded).peer ≡ loaded.peer
sent_peer (Ok n) loaded = refl
sent_peer (Err kind) loaded = refl

module _ {L : Type 0} (seen : LinkView L) (old_link new_link : L) (old new : StreamValue)
    (reply : Result Bool NetError) where
  pub drained_error : Drains seen old_link new_link old new reply → IfErr reply IsStreamError
  drained_error (draining.NoRoom f e n l) =
      subst (λ (r : Result Bool NetError). IfErr r IsStreamError) (sym e) (inl refl)
  drained_error (draining.HadFailed f e n l) =
      subst (λ (r : Result Bool NetError). IfErr r IsStreamError) (sym e) (outside_error NotConnected)
  drained_error (draining.Idle f u q e n l) = subst (λ (r : Result Bool NetError). IfErr r IsStreamError) (sym e) tt
  drained_error (draining.Refused error f r e n l) =
      subst (λ (x : Result Bool NetError). IfErr x IsStreamError) (sym e) (inr (refused_error old error r))
  drained_error (draining.Written loaded outcome f ready once e n) =
      subst (λ (r : Result Bool NetError). IfErr r IsStreamError) (sym e) (drain_error outcome (sent outcome loaded))

  pub drained_failures : Drains seen old_link new_link old new reply
      → new.failures ≡ failures_after (has_failed_write reply) old.failures
  drained_failures (draining.NoRoom f e n l) = rw (e, n) refl
  drained_failures (draining.HadFailed f e n l) = rw (e, n) refl
  drained_failures (draining.Idle f u q e n l) = rw (e, n) refl
  drained_failures (draining.Refused error f r e n l) =
      let outside = refused_error old error r in
      let told : fault_of error ≡ Some outside.kind = ap fault_of outside.is ∙ fault_back outside.kind in
      rw (e, n, told) refl
  drained_failures (draining.Written loaded outcome f ready once e n) =
      let is = reply_failures (drain_reply outcome (sent outcome loaded)) (sent outcome loaded)
      (drain_error outcome (sent outcome loaded)) in
      let before = sent_failures outcome loaded ∙ loaded_failures old loaded ready in
      rw (e, n, ← before) is

  pub drained_peer : Drains seen old_link new_link old new reply → new.peer ≡ old.peer
  drained_peer (draining.NoRoom f e n l) = ap (λ (s : StreamValue). s.peer) n
  drained_peer (draining.HadFailed f e n l) = ap (λ (s : StreamValue). s.peer) n
  drained_peer (draining.Idle f u q e n l) = ap (λ (s : StreamValue). s.peer) n
  drained_peer (draining.Refused error f r e n l) = ap (λ (s : StreamValue). s.peer) n
  drained_peer (draining.Written loaded outcome f ready once e n) =
      ap (λ (s : StreamValue). s.peer) n
      ∙ reply_peer (drain_reply outcome (sent outcome loaded)) (sent outcome loaded)
      ∙ sent_peer outcome loaded ∙ loaded_peer old loaded ready

-- ---- the queue

-- where there is room, only memory can lack
pub put_no_memory : (addr : SocketAddr) (buffer : ℕ) (message : SerialMessageValue)
    (old new : List SerialMessageValue) (error : NetError) → nat_le (length old) buffer ≡ true
    → IsPut {X = Unit} addr buffer message old new (Err error) → error ≡ NoMemory
put_no_memory addr buffer message old new error room put = put_by put.0
  where
    put_by : (error ≡ NoMemory) ⊎ ((nat_lt buffer (length old) ≡ true) × (error ≡ Message SendQueueFull))
        → error ≡ NoMemory
    put_by (inl none) = none
    put_by (inr full) = let is = full.0 in absurd (grind (arith, nat_tests, room, is))

pub put_error : (addr : SocketAddr) (buffer : ℕ) (message : SerialMessageValue) (old new : List SerialMessageValue)
    (result : Result Unit NetError) → nat_le (length old) buffer ≡ true
    → IsPut {X = Unit} addr buffer message old new result
    → IfErr result (λ error. error ≡ NoMemory)
put_error addr buffer message old new (Ok done) room put = tt
put_error addr buffer message old new (Err error) room put = put_no_memory addr buffer message old new error room put

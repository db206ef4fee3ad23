-- Calls of `feed` and `drain`, once their faults are counted.
use Rattle.std.proofs.Common.{◌≡◌, ℕ, ◌≤◌, false, true, Bool, List, [], ◌∷◌, drop, length, slice_get, None, Some, Result, Ok, Err, refl, ap, ◌∙◌, inl, inr}
use Rattle.dns_handle.specs.declared.error.NetError.{NetError}
use Rattle.dns_handle.specs.declared.io_kind.IoKind.{IoKind}
use Rattle.dns_multiplexer.specs.Messages.{SerialMessageValue}
use Rattle.dns_tcp.specs.declared.feed.Feed.{Feed}
use Rattle.dns_tcp.specs.Draining.{Drains, NoRoom, Idle, Refused, Written, IsLoaded, Next, IsRefused, Misaddressed, TooLong, drain_reply, sent}
use Rattle.dns_tcp.specs.Feeding as feeding
use Rattle.dns_tcp.specs.Feeding.{Feeds, after_feed_reply, feed_reply, part_after}
use Rattle.dns_tcp.specs.Frames.{frame, most_framed}
use Rattle.dns_tcp.specs.Links.{LinkView, WritesOnce}
use Rattle.dns_tcp.specs.Loading.{FeedsPart, NoRoomToRead, ReadPart, IsChecked, Loads, TriesDrain, NoRoomToWrite, TriedIdle, TriedRefused, TriedWritten}
use Rattle.dns_tcp.specs.Streams.{StreamValue, after_error, after_reply, with_fault}

-- a refused message is a fault
refused_fault : (old : StreamValue) (error : NetError) → IsRefused old error → after_error error old ≡ with_fault old
refused_fault old error (Misaddressed message rest idle next addr is) = ap (λ e. after_error e old) is
refused_fault old error (TooLong message rest idle next addr long is) = ap (λ e. after_error e old) is

module _ {L : Type 0} (seen : LinkView L) (old_link new_link : L) where
  pub fed : (old : StreamValue) (part : List ℕ) (reply : Result Feed NetError)
      → FeedsPart seen old_link new_link old.peer old.part part reply → old.failed ≡ false
      → Feeds seen old_link new_link old (after_feed_reply reply (record old { part = part })) reply
  fed old part reply (NoRoomToRead e n l) f =
      let same : record old { part = part } ≡ old = ap (λ (p : List ℕ). record old { part = p }) n in
      feeding.NoRoom f e (ap (λ (r : Result Feed NetError). after_feed_reply r (record old { part = part })) e ∙ same) l
  fed old part reply (ReadPart outcome once e n) f =
      feeding.Read outcome f once e
      (ap (λ (r : Result Feed NetError). after_feed_reply r (record old { part = part })) e
      ∙ ap (λ (p : List ℕ). after_feed_reply (feed_reply old.peer old.part outcome) (record old { part = p })) n)

  pub drained : (old mid : StreamValue) (reply : Result Bool NetError)
      → TriesDrain seen old_link new_link old mid reply → old.failed ≡ false
      → Drains seen old_link new_link old (after_reply reply mid) reply
  drained old mid reply (NoRoomToWrite e n l) f =
      NoRoom f e (ap (λ (r : Result Bool NetError). after_reply r mid) e ∙ n) l
  drained old mid reply (TriedIdle u q e n l) f =
      Idle f u q e (ap (λ (r : Result Bool NetError). after_reply r mid) e ∙ n) l
  drained old mid reply (TriedRefused error r e n l) f =
      Refused error f r e
      (ap (λ (x : Result Bool NetError). after_reply x mid) e ∙ ap (after_error error) n ∙ refused_fault old error r) l
  drained old mid reply (TriedWritten loaded outcome ld w e n) f =
      Written loaded outcome f ld w e
      (ap (λ (x : Result Bool NetError). after_reply x mid) e
      ∙ ap (after_reply (drain_reply outcome (sent outcome loaded))) n)

-- the next message was found to be no one that can be written
pub refused_by : (old : StreamValue) (message : SerialMessageValue) (rest : List SerialMessageValue) (error : NetError)
    → old.unsent ≡ [] → old.queue ≡ message ∷ rest → IsChecked message old.peer (Err error) → IsRefused old error
refused_by old message rest error idle next h =
    elim h as (λ _. IsRefused old error) [
      | inl w ↦ Misaddressed message rest idle next w.0 w.1
      | inr w ↦ TooLong message rest idle next w.0 w.1 w.2
    ]

-- the next message's frame is ready
pub loaded_next : (old : StreamValue) (message : SerialMessageValue) (rest queue : List SerialMessageValue) (unsent : List ℕ)
    → old.unsent ≡ [] → old.queue ≡ message ∷ rest → (message.addr ≡ old.peer) × (length message.bytes ≤ most_framed)
    → queue ≡ rest → unsent ≡ frame message.bytes → IsLoaded old (record old { queue = queue; unsent = unsent })
loaded_next old message rest queue unsent idle next sendable q u =
    Next message rest idle next sendable.0 sendable.1
    (ap (λ (l : List SerialMessageValue). record old { queue = l; unsent = unsent }) q
    ∙ ap (λ (bytes : List ℕ). record old { queue = rest; unsent = bytes }) u)

-- what the first element says of a queue
pub none_first : {X : Type 0} (xs : List X) → None ≡ slice_get xs 0 → xs ≡ []
none_first [] e = refl
none_first (x ∷ xs) e = cc

pub some_first : {X : Type 0} (xs : List X) (x : X) → Some x ≡ slice_get xs 0 → xs ≡ x ∷ drop 1 xs
some_first [] x e = cc
some_first {X = X} (y ∷ xs) x e = let same : y ≡ x = cc in ap (λ (z : X). z ∷ xs) same

module _ {L : Type 0} (seen : LinkView L) (link : L) where
  pub tried_error : (old new : StreamValue) (error : NetError) → Loads old new (Err error)
      → TriesDrain seen link link old new (Err error)
  tried_error old new error h =
      elim h.0 as (λ _. TriesDrain seen link link old new (Err error)) [
        | inl e ↦ NoRoomToWrite (ap Err e) h.1 refl
        | inr r ↦ TriedRefused error r refl h.1 refl
      ]

  pub tried_written : (new_link : L) (old loaded new : StreamValue) (ready : Bool) (outcome : Result ℕ IoKind)
      (reply : Result Bool NetError) → Loads old loaded (Ok ready) → ready ≡ true
      → WritesOnce seen loaded.unsent link new_link outcome → new ≡ sent outcome loaded → reply ≡ drain_reply outcome new
      → TriesDrain seen link new_link old new reply
  tried_written new_link old loaded new true outcome reply h e w n r =
      TriedWritten loaded outcome h w (r ∙ ap (drain_reply outcome) n) n
  tried_written new_link old loaded new false outcome reply h e w n r = cc

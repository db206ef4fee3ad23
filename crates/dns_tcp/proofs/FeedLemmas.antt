-- What a read of a part is answered.
use Rattle.std.proofs.Common.{◌≡◌, ℕ, ◌+◌, ◌-◌, ◌*◌, ◌/◌, ◌%◌, ◌<◌, ◌≤◌, ◌==◌, true, false, List, [], ◌∷◌, ◌++◌, length, Option, Some, None, Result, Ok, Err, OnOk, refl, sym, ap, ◌∙◌, append-nil, arith}
use Rattle.std.specs.declared.net.socket_addr.SocketAddr.{SocketAddr}
use Rattle.std.proofs.KnownBytes.{prepend_known-nil}
use Rattle.std.proofs.lemmas.Bool.Decides.{nat_tests}
use Rattle.dns_handle.specs.Conversions.{outside_failed}
use Rattle.dns_handle.specs.declared.error.NetError.{NetError}
use Rattle.dns_handle.specs.declared.error.NetError.TheVariants.{Io, NoMemory}
use Rattle.dns_handle.specs.declared.io_kind.IoKind.{IoKind}
use Rattle.dns_handle.specs.declared.io_kind.IoKind.TheVariants.{BrokenPipe}
use Rattle.dns_link.specs.Moved.{and_then}
use Rattle.dns_tcp.specs.declared.feed.Feed.{Feed}
use Rattle.dns_tcp.specs.declared.feed.Feed.TheVariants.{More, Message, Closed}
use Rattle.dns_tcp.specs.Feeding.{GivesFrame, IsFramed, after_feed_reply, end_reply, frame_given, frame_reply, message_reply, unused}
use Rattle.dns_tcp.specs.Frames.{frame, lacking, most_framed}
use Rattle.dns_tcp.specs.LinkReads.{ReadsOnto}
use Rattle.dns_tcp.specs.Links.{LinkView, ReadsOnce, came_by, counted}
use Rattle.dns_tcp.specs.Loading.{FeedsPart, ReadPart}
use Rattle.dns_tcp.specs.Streams.{StreamValue, after_error}

module _ {L : Type 0} (seen : LinkView L) (old_link new_link : L) (peer : SocketAddr) (part : List ℕ) where
  fault_at : (new : List ℕ) (kind : IoKind) (read : Result (List ℕ) IoKind) → ReadsOnce seen (lacking part) old_link new_link read
      → Err kind ≡ counted read → new ≡ part ++ came_by read
      → FeedsPart seen old_link new_link peer part new (Err (outside_failed kind))
  fault_at new kind (Ok bytes) once told onto = cc
  fault_at new kind (Err k) once told onto =
      let same : kind ≡ k = cc in
      ReadPart (Err k) once (ap (λ (x : IoKind). Err (outside_failed x)) same) (onto ∙ append-nil part)

  -- the link failed
  pub fed_fault : (new : List ℕ) (kind : IoKind) → ReadsOnto seen (lacking part) old_link new_link part new (Err kind)
      → FeedsPart seen old_link new_link peer part new (Err (outside_failed kind))
  fed_fault new kind h = fault_at new kind h.read h.once h.told h.onto

  end_at : (new : List ℕ) (reply : Result Feed NetError) (read : Result (List ℕ) IoKind)
      → ReadsOnce seen (lacking part) old_link new_link read → Ok 0 ≡ counted read → new ≡ part ++ came_by read
      → reply ≡ end_reply part → FeedsPart seen old_link new_link peer part new reply
  end_at new reply (Ok []) once told onto answered = ReadPart (Ok []) once answered (onto ∙ append-nil part)
  end_at new reply (Ok (b ∷ bs)) once told onto answered =
      let none : 0 ≡ length (b ∷ bs) = cc in
      absurd (omega arith)
  end_at new reply (Err k) once told onto answered = cc

  -- the link has ended
  pub fed_end : (new : List ℕ) (reply : Result Feed NetError) → ReadsOnto seen (lacking part) old_link new_link part new (Ok 0)
      → reply ≡ end_reply part → FeedsPart seen old_link new_link peer part new reply
  fed_end new reply h answered = end_at new reply h.read h.once h.told h.onto answered

  bytes_at : (mid new : List ℕ) (n : ℕ) (reply : Result Feed NetError) (read : Result (List ℕ) IoKind)
      → ReadsOnce seen (lacking part) old_link new_link read → 0 < n → Ok n ≡ counted read → mid ≡ part ++ came_by read
      → reply ≡ frame_reply peer mid → new ≡ unused mid → FeedsPart seen old_link new_link peer part new reply
  bytes_at mid new n reply (Ok []) once some told onto answered rest =
      let none : n ≡ 0 = cc in
      absurd (omega arith)
  bytes_at mid new n reply (Ok (b ∷ bs)) once some told onto answered rest =
      ReadPart (Ok (b ∷ bs)) once (answered ∙ ap (frame_reply peer) onto) (rest ∙ ap unused onto)
  bytes_at mid new n reply (Err k) once some told onto answered rest = cc

  -- bytes have come
  pub fed_bytes : (mid new : List ℕ) (n : ℕ) (reply : Result Feed NetError)
      → ReadsOnto seen (lacking part) old_link new_link part mid (Ok n) → 0 < n
      → reply ≡ frame_reply peer mid → new ≡ unused mid → FeedsPart seen old_link new_link peer part new reply
  fed_bytes mid new n reply h some answered rest =
      bytes_at mid new n reply h.read h.once some h.told h.onto answered rest

-- between frames or inside one
pub closed_reply : (part : List ℕ) → part ≡ [] → Ok Closed ≡ end_reply part
closed_reply part e = sym (ap end_reply e)

pub cut_reply : (part : List ℕ) → (part ≡ [] → ⊥) → Err (Io BrokenPipe) ≡ end_reply part
cut_reply [] h = absurd (h refl)
cut_reply (b ∷ bs) h = refl

frame_is_whole : (peer : SocketAddr) (m : List ℕ) → message_reply peer m ≡ frame_reply peer (frame m)
unfolding frame
frame_is_whole peer m =
    let whole : ((length m / 256 * 256 + length m % 256 - length m) == 0) ≡ true = grind (arith, nat_tests) in
    rw whole refl

-- a whole frame is answered by its message
pub framed_reply : (peer : SocketAddr) (p m : List ℕ) → p ≡ frame m → message_reply peer m ≡ frame_reply peer p
framed_reply peer p m e = frame_is_whole peer m ∙ sym (ap (frame_reply peer) e)

-- a message that isn't empty
pub some_reply : (peer : SocketAddr) (m : List ℕ) → (m ≡ [] → ⊥) → message_reply peer m ≡ Ok (Message (record { bytes = m; addr = peer }))
some_reply peer [] h = absurd (h refl)
some_reply peer (b ∷ bs) h = refl

-- ---- the bytes of frames

pub and_then-nil : (told : Option (List ℕ)) → told ≡ and_then told []
and_then-nil None = refl
and_then-nil (Some bytes) = ap Some (sym (append-nil bytes))

-- nothing was read
pub unread_framed : {L : Type 0} (seen : LinkView L) (link : L) (part : List ℕ) (error : NetError)
    → IsFramed seen link link part part (Err error)
unread_framed seen link part error = record {
  read = [];
  given = and_then-nil (seen.given link);
  left = sym (prepend_known-nil (seen.left link));
  used = tt;
}

-- a read, and what it is answered
pub framed_read : {L : Type 0} (seen : LinkView L) (most : ℕ) (old_link new_link : L) (part mid new : List ℕ)
    (outcome : Result ℕ IoKind) (reply : Result Feed NetError) → ReadsOnto seen most old_link new_link part mid outcome
    → OnOk reply (mid ≡ frame_given reply ++ new) → IsFramed seen old_link new_link part new reply
framed_read seen most old_link new_link part mid new outcome (Ok fed) h q = record {
  read = came_by h.read;
  given = h.once.given;
  left = h.once.left;
  used = sym h.onto ∙ q;
}
framed_read seen most old_link new_link part mid new outcome (Err error) h q = record {
  read = came_by h.read;
  given = h.once.given;
  left = h.once.left;
  used = tt;
}

-- what is counted changes no bytes
error_kept : (error : NetError) (stream : StreamValue) → (after_error error stream).part ≡ stream.part
error_kept NoMemory stream = refl
error_kept _ stream = refl

pub part_kept : (reply : Result Feed NetError) (stream : StreamValue) → (after_feed_reply reply stream).part ≡ stream.part
part_kept (Ok Closed) stream = refl
part_kept (Ok More) stream = refl
part_kept (Ok (Message message)) stream = refl
part_kept (Err error) stream = error_kept error stream

-- an Ok leaves a stream open
pub open_kept : (reply : Result Feed NetError) (stream : StreamValue) → stream.failed ≡ false
    → OnOk reply ((after_feed_reply reply stream).failed ≡ false)
open_kept (Ok Closed) stream e = e
open_kept (Ok More) stream e = e
open_kept (Ok (Message message)) stream e = e
open_kept (Err error) stream e = tt

-- the frame of a message that was given, and that it is one
pub message_framed : (peer : SocketAddr) (m : List ℕ) → OnOk (message_reply peer m) (frame m ≡ frame_given (message_reply peer m) ++ [])
message_framed peer [] = tt
message_framed peer (b ∷ bs) = sym (append-nil (frame (b ∷ bs)))

pub message_fits : (peer : SocketAddr) (m : List ℕ) → length m ≤ most_framed → GivesFrame (message_reply peer m)
message_fits peer [] h = tt
message_fits peer (b ∷ bs) h = record { some = omega arith; most = h }

-- Messages that were read in a row, and how a request is answered by them.
use Rattle.std.proofs.Common.{◌≡◌, ℕ, ◌+◌, ◌*◌, ◌<◌, true, false, Bool, List, [], ◌∷◌, ◌++◌, length, Result, Ok, Err, refl, sym, ap, ◌∙◌, append_assoc, append-nil, arith}
use Rattle.std.specs.Prelude.{All}
use Rattle.std.specs.List.{list_any}
use Rattle.std.proofs.lemmas.List.Elements.{All-cons, All-nil}
use Rattle.dns_model.specs.Counts.{RoseBy}
use Rattle.dns_model.specs.Records.{MessageValue}
use Rattle.dns_message.specs.MessageAt.{message_at}
use Rattle.dns_handle.specs.declared.error.NetError.{NetError}
use Rattle.dns_handle.specs.Errors as seen_errors
use Rattle.dns_handle.specs.Errors.{Reply}
use Rattle.dns_handle.specs.Replies.{error_of}
use Rattle.dns_handle.specs.declared.io_kind.IoKind.TheVariants.{UnexpectedEof}
use Rattle.dns_link.specs.Moved.{and_then}
use Rattle.dns_multiplexer.specs.Draws.{CoreValue}
use Rattle.dns_multiplexer.specs.Messages.{answered_by}
use Rattle.dns_tcp.specs.declared.feed.Feed.{Feed}
use Rattle.dns_tcp.specs.declared.feed.Feed.TheVariants.{Closed}
use Rattle.dns_tcp.specs.Frames.{HasFrame, frame, frames}
use Rattle.dns_tcp.specs.Links.{LinkView}
use Rattle.dns_tcp.specs.Streams.{StreamValue}
use Rattle.dns_tcp.specs.Exchanges.{IsUnanswered, Received, Answered, Unanswered, WasClosed, FeedFailed, NoRoom, answers}
use Rattle.dns_tcp.specs.Reads.{HasFed, HasRead, Sight, reads_for_all, sight}
use Rattle.dns_tcp.specs.Steps.{HasEnded}
use Rattle.dns_tcp.proofs.SightLemmas.{and_then-both, and_then-none, part_on}

read_none : (s : Sight) (stream : StreamValue) → HasRead s s stream stream []
read_none s stream = record {
  read = [];
  given = and_then-none s.given;
  taken = refl;
  used = append-nil stream.part;
  framed = All-nil HasFrame;
  fresh = tt;
  gots = omega arith;
  faults = refl;
  ends = refl;
  kept = refl;
}

reads_from_none : (ms : List (List ℕ)) → reads_for_all [] ms ≡ 2 * length ms
reads_from_none [] = refl
reads_from_none (m ∷ ms) = omega arith

first_frame : (m : List ℕ) → All HasFrame (m ∷ []) → HasFrame m
first_frame m h = h 0 m (omega arith)

-- a message, and then others
read_more : (a b c : Sight) (first mid new : StreamValue) (m : List ℕ) (ms : List (List ℕ))
    → HasRead a b first mid (m ∷ [])
    → mid.part ≡ [] → HasRead b c mid new ms → HasRead a c first new (m ∷ ms)
read_more a b c first mid new m ms h none k =
    let one = h.gots in
    let others : RoseBy (2 * length ms) b.counts.gots c.counts.gots =
    rw (← (ap (λ (p : List ℕ). reads_for_all p ms) none ∙ reads_from_none ms)) k.gots in
    record {
      read = h.read ++ k.read;
      given = k.given ∙ ap (λ g. and_then g k.read) h.given ∙ and_then-both a.given h.read k.read;
      taken = k.taken ∙ h.taken;
      used = sym (append_assoc first.part h.read k.read) ∙ ap (λ (l : List ℕ). l ++ k.read) h.used
          ∙ append_assoc (frame m ++ []) mid.part k.read ∙ ap (λ (l : List ℕ). (frame m ++ []) ++ l) k.used
          ∙ ap (λ (l : List ℕ). l ++ (frames ms ++ new.part)) (append-nil (frame m))
          ∙ sym (append_assoc (frame m) (frames ms) new.part);
      framed = All-cons HasFrame m ms (first_frame m h.framed) k.framed;
      fresh = h.fresh;
      gots = omega (arith, one, others);
      faults = k.faults ∙ h.faults;
      ends = k.ends ∙ h.ends;
      kept = part_on first mid new h.kept k.kept;
    }

unanswered_none : (id most : ℕ) → 0 < most → IsUnanswered id most []
unanswered_none id most some = record { fewer = some; others = refl }

none_more : (id : ℕ) (m : List ℕ) (ms : List (List ℕ)) → answers id m ≡ false → list_any (answers id) ms ≡ false
    → list_any (answers id) (m ∷ ms) ≡ false
none_more id m ms h k = rw (h, k) refl

unanswered_more : (id left most : ℕ) (m : List ℕ) (ms : List (List ℕ)) → answers id m ≡ false → most ≡ left + 1
    → IsUnanswered id left ms → IsUnanswered id most (m ∷ ms)
unanswered_more id left most m ms other size h =
    let few = h.fewer in
    record { fewer = omega (arith, few, size); others = none_more id m ms other h.others }

module _ {L : Type 0} (seen : LinkView L) (a b c : Sight) (first mid new : StreamValue) (m : List ℕ)
    (h : HasRead a b first mid (m ∷ [])) (none : mid.part ≡ []) where
  fed_on : (ms : List (List ℕ)) (reply : Result Feed NetError) → HasFed seen b c mid new ms reply
      → HasFed seen a c first new (m ∷ ms) reply
  fed_on ms reply k = record {
    link = k.link;
    new_link = k.new_link;
    stream = k.stream;
    before = read_more a b (sight seen k.link) first mid k.stream m ms h none k.before;
    fed = k.fed;
    until = k.until;
  }

  -- a message that isn't the answer, and then what is received
  pub receive_more : (id left most : ℕ) (is_shutdown : Bool) (reply : Reply) → answers id m ≡ false → most ≡ left + 1
      → Received seen b c mid new id left is_shutdown reply → Received seen a c first new id most is_shutdown reply
  receive_more id left most is_shutdown reply other size (Answered before bytes message k few is own sh r) =
      Answered (m ∷ before) bytes message (read_more a b c first mid new m (before ++ bytes ∷ []) h none k)
      (unanswered_more id left most m before other size few) is own sh r
  receive_more id left most is_shutdown reply other size (Unanswered messages k many unlike sh r) =
      Unanswered (m ∷ messages) (read_more a b c first mid new m messages h none k)
      (omega (arith, many, size)) (none_more id m messages other unlike) sh r
  receive_more id left most is_shutdown reply other size (WasClosed messages fed few sh r) =
      WasClosed (m ∷ messages) (fed_on messages (Ok Closed) fed) (unanswered_more id left most m messages other size few) sh r
  receive_more id left most is_shutdown reply other size (FeedFailed messages error fed few sh r) =
      FeedFailed (m ∷ messages) error (fed_on messages (Err error) fed)
      (unanswered_more id left most m messages other size few) sh r
  receive_more id left most is_shutdown reply other size (NoRoom before bytes k few sh r) =
      NoRoom (m ∷ before) bytes (read_more a b c first mid new m (before ++ bytes ∷ []) h none k)
      (unanswered_more id left most m before other size few) sh r

module _ {L : Type 0} (seen : LinkView L) (a b : Sight) (first new : StreamValue) (id most : ℕ) (is_shutdown : Bool) where
  -- the first message is the answer
  pub receive_first : (reply : Reply) (m : List ℕ) (message : MessageValue) → HasRead a b first new (m ∷ []) → 0 < most
      → message_at m ≡ Ok message → message.id ≡ id → is_shutdown ≡ false → reply ≡ answered_by message
      → Received seen a b first new id most is_shutdown reply
  receive_first reply m message h some is own sh r = Answered [] m message h (unanswered_none id most some) is own sh r

  -- there was no room for it
  pub receive_lost : (m : List ℕ) → HasRead a b first new (m ∷ []) → 0 < most → is_shutdown ≡ false
      → Received seen a b first new id most is_shutdown (Err seen_errors.NoMemory)
  receive_lost m h some sh = NoRoom [] m h (unanswered_none id most some) sh refl

  -- the link has ended
  pub receive_end : HasFed seen a b first new [] (Ok Closed) → 0 < most → is_shutdown ≡ true
      → Received seen a b first new id most is_shutdown (Err (seen_errors.Io UnexpectedEof))
  receive_end fed some sh = WasClosed [] fed (unanswered_none id most some) sh refl

  -- reading failed
  pub receive_failed : (error : NetError) → HasFed seen a b first new [] (Err error) → 0 < most → is_shutdown ≡ false
      → Received seen a b first new id most is_shutdown (Err (error_of error))
  receive_failed error fed some sh = FeedFailed [] error fed (unanswered_none id most some) sh refl

pub receive_none : {L : Type 0} (seen : LinkView L) (a : Sight) (stream : StreamValue) (id most : ℕ)
    (is_shutdown : Bool) → most ≡ 0
    → is_shutdown ≡ false → Received seen a a stream stream id most is_shutdown (Err seen_errors.Timeout)
receive_none seen a stream id most is_shutdown none sh = Unanswered [] (read_none a stream) (sym none) refl sh refl

-- a multiplexer that goes on wasn't told of an end
pub never_ended : (old new : CoreValue) → new.is_shutdown ≡ false → new.is_shutdown ≡ true → HasEnded old new
never_ended old new open_ shut = absurd (cc)

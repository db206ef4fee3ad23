-- Reads of a stream that bring a part of a message, or its last byte.
use Rattle.std.proofs.Common.{◌≡◌, ℕ, ◌+◌, ◌<◌, ◌≤◌, ◌==◌, true, false, Bool, List, [], ◌∷◌, ◌++◌, length, drop, Result, Ok, Err, refl, sym, ap, ◌∙◌, append_assoc, append-nil, if◌then◌else◌, arith}
use Rattle.std.proofs.lemmas.List.{length-append, length-drop}
use Rattle.std.proofs.lemmas.List.Elements.{All-cons, All-nil}
use Rattle.std.specs.declared.net.socket_addr.SocketAddr.{SocketAddr}
use Rattle.dns_model.specs.Bytes.{u16_bytes}
use Rattle.dns_model.specs.Counts.{RoseBy}
use Rattle.dns_handle.specs.declared.error.NetError.{NetError}
use Rattle.dns_handle.specs.declared.io_kind.IoKind.{IoKind}
use Rattle.dns_link.specs.Counts.{CountsValue, with_got}
use Rattle.dns_link.specs.Moved.{and_then}
use Rattle.dns_multiplexer.specs.Messages.{SerialMessageValue}
use Rattle.dns_tcp.specs.declared.feed.Feed.{Feed}
use Rattle.dns_tcp.specs.declared.feed.Feed.TheVariants.{More, Message}
use Rattle.dns_tcp.specs.Feeding.{Feeds, NoRoom, HadFailed, Read, IsFramed, after_feed, after_feed_reply, end_reply, feed_reply, message_reply, part_after, unused}
use Rattle.dns_tcp.specs.Frames.{HasFrame, frame, lacking}
use Rattle.dns_tcp.specs.Links.{LinkView, ReadsOnce}
use Rattle.dns_tcp.specs.Streams.{StreamValue}
use Rattle.dns_tcp.proofs.CauseLemmas.{gave_count}
use Rattle.dns_tcp.proofs.FeedLemmas.{part_kept}
use Rattle.dns_tcp.specs.Reads.{HasFed, HasRead, Sight, reads_for, sight}
use Rattle.dns_tcp.specs.Steps.{IsReading}
use Rattle.dns_tcp.proofs.SightLemmas.{and_then-both, and_then-none, part_on, part_only}

-- ---- one read

-- what a read left of a part, and that only it was counted
pub record IsMoreRead {L : Type 0} (seen : LinkView L) (old_link new_link : L) (old new : StreamValue) : Type 0 where
  pub longer : length old.part < length new.part
  pub got : seen.counts new_link ≡ with_got (seen.counts old_link)
  pub taken : seen.taken new_link ≡ seen.taken old_link
  pub kept : new ≡ record old { part = new.part }

pub record IsLastRead {L : Type 0} (seen : LinkView L) (old_link new_link : L) (old new : StreamValue) (message : List ℕ) : Type 0 where
  pub fresh : length old.part < length (frame message)
  pub known : 2 ≤ length old.part
  pub used : new.part ≡ []
  pub got : seen.counts new_link ≡ with_got (seen.counts old_link)
  pub taken : seen.taken new_link ≡ seen.taken old_link
  pub kept : new ≡ record old { part = new.part }

end_no_more : (part : List ℕ) → Ok More ≡ end_reply part → ⊥
end_no_more [] e = cc
end_no_more (b ∷ bs) e = cc

end_no_message : (part : List ℕ) (m : SerialMessageValue) → Ok (Message m) ≡ end_reply part → ⊥
end_no_message [] m e = cc
end_no_message (b ∷ bs) m e = cc

message_no_more : (peer : SocketAddr) (bytes : List ℕ) → Ok More ≡ message_reply peer bytes → ⊥
message_no_more peer [] e = cc
message_no_more peer (b ∷ bs) e = cc

more_unused : (peer : SocketAddr) (t : Bool) (bytes : List ℕ) → (lacking bytes == 0) ≡ t
    → Ok More ≡ (if t then message_reply peer (drop 2 bytes) else Ok More) → unused bytes ≡ bytes
more_unused peer true bytes is e = absurd (message_no_more peer (drop 2 bytes) e)
more_unused peer false bytes is e = rw is refl

some_message : (peer : SocketAddr) (bytes : List ℕ) (m : SerialMessageValue) → Ok (Message m) ≡ message_reply peer bytes
    → (m.bytes ≡ bytes) × (0 < length bytes)
some_message peer [] m e = cc
some_message peer (b ∷ bs) m e =
    let same : m ≡ record { bytes = b ∷ bs; addr = peer } = cc in
    (ap (λ (x : SerialMessageValue). x.bytes) same, omega arith)

record IsWhole (bytes message : List ℕ) : Type 0 where
  is : message ≡ drop 2 bytes
  some : 0 < length (drop 2 bytes)
  used : unused bytes ≡ []

whole : (peer : SocketAddr) (t : Bool) (bytes : List ℕ) (m : SerialMessageValue) → (lacking bytes == 0) ≡ t
    → Ok (Message m) ≡ (if t then message_reply peer (drop 2 bytes) else Ok More) → IsWhole bytes m.bytes
whole peer true bytes m is e =
    let same = some_message peer (drop 2 bytes) m e in
    record { is = same.0; some = same.1; used = rw is refl }
whole peer false bytes m is e = cc

-- of a length that isn't there, no read brings the first byte behind it
known_length : (part read : List ℕ) (room : ℕ) → length read ≤ room → room ≤ lacking part → 2 < length (part ++ read)
    → 2 ≤ length part
known_length [] read room fits within long = absurd (omega (arith, fits, within, long))
known_length (high ∷ []) read room fits within long =
    let size = length-append (high ∷ []) read in
    absurd (omega (arith, fits, within, long, size))
known_length (high ∷ low ∷ body) read room fits within long = omega arith

frame_size : (message : List ℕ) → length (frame message) ≡ 2 + length message
unfolding frame
frame_size message = omega (arith, length-append (u16_bytes (length message)) message)

module _ {L : Type 0} (seen : LinkView L) (old_link new_link : L) (old new : StreamValue) where
  -- of the stream only the part has changed, whatever message was given
  answered_kept : (outcome : Result (List ℕ) IoKind) (reply : Result Feed NetError) → reply ≡ feed_reply old.peer old.part outcome
      → new ≡ after_feed outcome old → new ≡ after_feed_reply reply (record old { part = part_after old.part outcome })
  answered_kept outcome reply e n =
      n ∙ ap (λ (r : Result Feed NetError). after_feed_reply r (record old { part = part_after old.part outcome })) (sym e)

  part_left : (outcome : Result (List ℕ) IoKind) → new ≡ after_feed outcome old → new.part ≡ part_after old.part outcome
  part_left outcome n =
      ap (λ (s : StreamValue). s.part) n
      ∙ part_kept (feed_reply old.peer old.part outcome) (record old { part = part_after old.part outcome })

  more_by : (outcome : Result (List ℕ) IoKind) → ReadsOnce seen (lacking old.part) old_link new_link outcome
      → Ok More ≡ feed_reply old.peer old.part outcome → new ≡ after_feed outcome old
      → IsMoreRead seen old_link new_link old new
  more_by (Ok []) once e n = absurd (end_no_more old.part e)
  more_by (Ok (b ∷ bs)) once e n =
      let left : new.part ≡ unused (old.part ++ b ∷ bs) = part_left (Ok (b ∷ bs)) n in
      let all = more_unused old.peer (lacking (old.part ++ b ∷ bs) == 0) (old.part ++ b ∷ bs) refl e in
      let size = ap length (left ∙ all) in
      let parts = length-append old.part (b ∷ bs) in
      let some : 0 < length (b ∷ bs) = omega arith in
      record {
        longer = omega (arith, size, parts, some);
        got = once.counts ∙ gave_count once.room (length (b ∷ bs)) (seen.counts old_link) some;
        taken = once.taken;
        kept = part_only old new (part_after old.part (Ok (b ∷ bs))) (answered_kept (Ok (b ∷ bs)) (Ok More) e n);
      }
  more_by (Err kind) once e n = cc

  -- a read that completes no message
  pub more_read : Feeds seen old_link new_link old new (Ok More)
      → IsMoreRead seen old_link new_link old new
  more_read (NoRoom f e n l) = cc
  more_read (HadFailed f e n l) = cc
  more_read (Read outcome f once e n) = more_by outcome once e n

  last_by : (m : SerialMessageValue) (outcome : Result (List ℕ) IoKind)
      → ReadsOnce seen (lacking old.part) old_link new_link outcome
      → Ok (Message m) ≡ feed_reply old.peer old.part outcome → new ≡ after_feed outcome old
      → IsLastRead seen old_link new_link old new m.bytes
  last_by m (Ok []) once e n = absurd (end_no_message old.part m e)
  last_by m (Ok (b ∷ bs)) once e n =
      let bytes = old.part ++ b ∷ bs in
      let w = whole old.peer (lacking bytes == 0) bytes m refl e in
      let parts = length-append old.part (b ∷ bs) in
      let rest = length-drop 2 bytes in
      let size = ap length w.is in
      let framed = frame_size m.bytes in
      let behind = w.some in
      let some : 0 < length (b ∷ bs) = omega arith in
      let long : 2 < length bytes = omega (arith, rest, behind) in
      let left : new.part ≡ unused bytes = part_left (Ok (b ∷ bs)) n in
      record {
        fresh = omega (arith, parts, rest, size, framed, behind, some);
        known = known_length old.part (b ∷ bs) once.room once.fits once.within long;
        used = left ∙ w.used;
        got = once.counts ∙ gave_count once.room (length (b ∷ bs)) (seen.counts old_link) some;
        taken = once.taken;
        kept = part_only old new (part_after old.part (Ok (b ∷ bs))) (answered_kept (Ok (b ∷ bs)) (Ok (Message m)) e n);
      }
  last_by m (Err kind) once e n = cc

  -- a read that completes a message
  pub last_read : (m : SerialMessageValue) → Feeds seen old_link new_link old new (Ok (Message m))
      → IsLastRead seen old_link new_link old new m.bytes
  last_read m (NoRoom f e n l) = cc
  last_read m (HadFailed f e n l) = cc
  last_read m (Read outcome f once e n) = last_by m outcome once e n

-- ---- reads in a row

reads_some : (part : List ℕ) → (1 ≤ reads_for part) × (reads_for part ≤ 2)
reads_some [] = (omega arith, omega arith)
reads_some (high ∷ []) = (omega arith, omega arith)
reads_some (high ∷ low ∷ body) = (omega arith, omega arith)

one_read : (part : List ℕ) → 2 ≤ length part → reads_for part ≡ 1
one_read [] h = absurd (omega (arith, h))
one_read (high ∷ []) h = absurd (omega (arith, h))
one_read (high ∷ low ∷ body) h = refl

got_count : (met now : CountsValue) → now ≡ with_got met → RoseBy 1 met.gots now.gots
got_count met now e = let same = ap (λ (c : CountsValue). c.gots) e in omega (arith, same)

pub reading_none : (s : Sight) (stream : StreamValue) → IsReading s s stream stream
reading_none s stream = record {
  read = [];
  given = and_then-none s.given;
  taken = refl;
  used = append-nil stream.part;
  longer = omega arith;
  gots = omega arith;
  faults = refl;
  ends = refl;
  kept = refl;
}

module _ {L : Type 0} (seen : LinkView L) (s : Sight) (old_link new_link : L) (first old new : StreamValue) where
  -- one read more
  pub reading_more : IsReading s (sight seen old_link) first old
      → IsFramed seen old_link new_link old.part new.part (Ok More)
      → IsMoreRead seen old_link new_link old new
      → IsReading s (sight seen new_link) first new
  reading_more h f m =
      let before = h.gots in
      let got = got_count (seen.counts old_link) (seen.counts new_link) m.got in
      let a = reads_some first.part in
      let b = reads_some old.part in
      let c = reads_some new.part in
      let longer = h.longer in
      let more = m.longer in
      record {
        read = h.read ++ f.read;
        given = f.given ∙ ap (λ g. and_then g f.read) h.given ∙ and_then-both s.given h.read f.read;
        taken = m.taken ∙ h.taken;
        used = sym (append_assoc first.part h.read f.read) ∙ ap (λ (l : List ℕ). l ++ f.read) h.used ∙ f.used;
        longer = omega (arith, longer, more);
        gots = omega (arith, before, got, a.0, a.1, b.0, b.1, c.0, c.1);
        faults = ap (λ (c : CountsValue). c.faults) m.got ∙ h.faults;
        ends = ap (λ (c : CountsValue). c.ends) m.got ∙ h.ends;
        kept = part_on first old new h.kept m.kept;
      }

  -- the last read of a message
  pub reading_last : (m : SerialMessageValue) → IsReading s (sight seen old_link) first old
      → IsFramed seen old_link new_link old.part new.part (Ok (Message m)) → HasFrame m.bytes
      → IsLastRead seen old_link new_link old new m.bytes
      → HasRead s (sight seen new_link) first new (m.bytes ∷ [])
  reading_last m h f framed w =
      let before = h.gots in
      let got = got_count (seen.counts old_link) (seen.counts new_link) w.got in
      let a = reads_some first.part in
      let one = one_read old.part w.known in
      let longer = h.longer in
      let fresh = w.fresh in
      record {
        read = h.read ++ f.read;
        given = f.given ∙ ap (λ g. and_then g f.read) h.given ∙ and_then-both s.given h.read f.read;
        taken = w.taken ∙ h.taken;
        used = sym (append_assoc first.part h.read f.read) ∙ ap (λ (l : List ℕ). l ++ f.read) h.used ∙ f.used
            ∙ ap (λ (l : List ℕ). l ++ new.part) (sym (append-nil (frame m.bytes)));
        framed = All-cons HasFrame m.bytes [] framed (All-nil HasFrame);
        fresh = omega (arith, longer, fresh);
        gots = omega (arith, before, got, a.0, a.1, one);
        faults = ap (λ (c : CountsValue). c.faults) w.got ∙ h.faults;
        ends = ap (λ (c : CountsValue). c.ends) w.got ∙ h.ends;
        kept = part_on first old new h.kept w.kept;
      }

-- bytes of a message that isn't whole are no message
as_read : (a b : Sight) (first old : StreamValue) → IsReading a b first old → HasRead a b first old []
as_read a b first old h =
    let gots = h.gots in
    record {
      read = h.read;
      given = h.given;
      taken = h.taken;
      used = h.used;
      framed = All-nil HasFrame;
      fresh = tt;
      gots = omega (arith, gots);
      faults = h.faults;
      ends = h.ends;
      kept = h.kept;
    }

-- a read that was answered so
pub fed_at : {L : Type 0} (seen : LinkView L) (s : Sight) (old_link new_link : L) (first old new : StreamValue)
    (reply : Result Feed NetError) → IsReading s (sight seen old_link) first old
    → Feeds seen old_link new_link old new reply → HasFed seen s (sight seen new_link) first new [] reply
fed_at seen s old_link new_link first old new reply h f = record {
  link = old_link;
  new_link = new_link;
  stream = old;
  before = as_read s (sight seen old_link) first old h;
  fed = f;
  until = refl;
}

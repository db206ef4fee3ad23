-- A stream over a link in memory that never fails: what calls of `feed` say of the bytes that it has.
use Rattle.std.proofs.Common.{◌≡◌, ℕ, ◌+◌, ◌-◌, ◌*◌, ◌<◌, ◌==◌, ◌⊎◌, inl, inr, Bool, true, false, All, List, [], ◌∷◌, ◌++◌, drop, length, if◌then◌else◌, None, Some, Result, Ok, Err, refl, sym, ap, ◌∙◌, append_assoc, append-nil, arith}
use Rattle.std.proofs.lemmas.List.{length-append}
use Rattle.std.proofs.lemmas.Bool.Decides.{nat_tests}
use Rattle.std.specs.declared.net.socket_addr.SocketAddr.{SocketAddr}
use Rattle.dns_handle.specs.declared.error.NetError.{NetError}
use Rattle.dns_handle.specs.declared.error.NetError.TheVariants.{Io, NoMemory}
use Rattle.dns_handle.specs.declared.io_kind.IoKind.{IoKind}
use Rattle.dns_handle.specs.declared.io_kind.IoKind.TheVariants.{BrokenPipe}
use Rattle.dns_link.specs.Counts.{CountsValue}
use Rattle.dns_link.specs.Pairs.{PairLinkValue}
use Rattle.dns_tcp.specs.declared.feed.Feed.{Feed}
use Rattle.dns_tcp.specs.declared.feed.Feed.TheVariants.{More, Closed}
use Rattle.dns_tcp.specs.Feeding.{Feeds, NoRoom, HadFailed, Read, IsFramed, feed_reply, frame_given, frame_reply, message_reply}
use Rattle.dns_tcp.specs.Frames.{HasFrame, frame, frames, lacking}
use Rattle.dns_tcp.specs.Links.{LinkView, ReadsOnce, came_by, link_view}
use Rattle.dns_tcp.specs.Rows.{AreFrames, AreNoFrames}
use Rattle.dns_tcp.specs.Streams.{StreamValue}
use Rattle.dns_tcp.proofs.FrameLemmas.{frames-push, no_empty_frame, no_part, read_row, row_same}

-- what is told of such a link
abbrev pub sure_view : LinkView PairLinkValue
sure_view = link_view (λ l. record l.counts { faults = 0 }) (λ l. Some l.pieces.given) (λ l. Some l.pieces.left) (λ l. Some l.taken)
    (λ _. None)

-- the bytes before a call are the message's and those after it
pub next_used : (old_link new_link : PairLinkValue) (part new : List ℕ) (fed : Feed)
    → IsFramed sure_view old_link new_link part new (Ok fed)
    → part ++ old_link.pieces.left ≡ frame_given (Ok fed) ++ (new ++ new_link.pieces.left)
next_used old_link new_link part new fed h =
    let told : Some old_link.pieces.left ≡ Some (h.read ++ new_link.pieces.left) = h.left in
    let left : old_link.pieces.left ≡ h.read ++ new_link.pieces.left = cc in
    ap (λ (l : List ℕ). part ++ l) left ∙ sym (append_assoc part h.read new_link.pieces.left)
    ∙ ap (λ (l : List ℕ). l ++ new_link.pieces.left) h.used ∙ append_assoc (frame_given (Ok fed)) new new_link.pieces.left

not_closed : (t : Bool) (rest : List ℕ) (peer : SocketAddr) → Ok Closed ≡ (if t then message_reply peer rest else Ok More) → ⊥
not_closed true [] peer e = cc
not_closed true (b ∷ bs) peer e = cc
not_closed false rest peer e = cc

not_told : (t : Bool) (b : ℕ) (bs : List ℕ) (peer : SocketAddr) (error : NetError)
    → Err error ≡ (if t then message_reply peer (b ∷ bs) else Ok More) → ⊥
not_told true b bs peer error e = cc
not_told false b bs peer error e = cc

zero_told : (t : Bool) (high low : ℕ) (error : NetError) → ((high * 256 + low - 0) == 0) ≡ t
    → Err error ≡ (if t then Err (Io BrokenPipe) else Ok More) → (high ≡ 0) × (low ≡ 0)
zero_told true high low error t e = (grind (arith, nat_tests), grind (arith, nat_tests))
zero_told false high low error t e = cc

-- an error of whole bytes comes of a length of 0
empty_told : (peer : SocketAddr) (error : NetError) (bytes : List ℕ) → Err error ≡ frame_reply peer bytes → bytes ≡ frame []
unfolding frame
empty_told peer error [] e = cc
empty_told peer error (high ∷ []) e = cc
empty_told peer error (high ∷ low ∷ []) e =
    let zero = zero_told ((high * 256 + low - 0) == 0) high low error refl e in
    let h : high ≡ 0 = zero.0 in
    let l : low ≡ 0 = zero.1 in
    cc
empty_told peer error (high ∷ low ∷ b ∷ bs) e =
    absurd (not_told ((high * 256 + low - length (b ∷ bs)) == 0) b bs peer error e)

module _ (old_link new_link : PairLinkValue) where
  left_by : (most : ℕ) (outcome : Result (List ℕ) IoKind) → ReadsOnce sure_view most old_link new_link outcome
      → old_link.pieces.left ≡ came_by outcome ++ new_link.pieces.left
  left_by most outcome once =
      let told : Some old_link.pieces.left ≡ Some (came_by outcome ++ new_link.pieces.left) = once.left in
      cc

  no_fault : (most : ℕ) (kind : IoKind) → ReadsOnce sure_view most old_link new_link (Err kind) → ⊥
  no_fault most kind once =
      let faults = ap (λ (counts : CountsValue). counts.faults) once.counts in
      omega (arith, faults)

  more_by : (part : List ℕ) (peer : SocketAddr) (outcome : Result (List ℕ) IoKind)
      → ReadsOnce sure_view (lacking part) old_link new_link outcome → Ok More ≡ feed_reply peer part outcome
      → length new_link.pieces.left < length old_link.pieces.left
  more_by [] peer (Ok []) once e = cc
  more_by (p ∷ ps) peer (Ok []) once e = cc
  more_by part peer (Ok (b ∷ bs)) once e =
      let left = ap length (left_by (lacking part) (Ok (b ∷ bs)) once) in
      omega (arith, left, length-append (b ∷ bs) new_link.pieces.left)
  more_by part peer (Err kind) once e = cc

  -- more bytes are fewer left
  pub more_moves : (old new : StreamValue) → Feeds sure_view old_link new_link old new (Ok More)
      → length new_link.pieces.left < length old_link.pieces.left
  more_moves old new (NoRoom o e n l) = cc
  more_moves old new (HadFailed f e n l) = cc
  more_moves old new (Read outcome f once e n) = more_by old.part old.peer outcome once e

  closed_by : (part : List ℕ) (peer : SocketAddr) (outcome : Result (List ℕ) IoKind)
      → ReadsOnce sure_view (lacking part) old_link new_link outcome → Ok Closed ≡ feed_reply peer part outcome
      → (part ≡ []) × (old_link.pieces.left ≡ [])
  closed_by [] peer (Ok []) once e =
      let end : new_link.pieces.left ≡ [] = once.end refl in
      (refl, left_by (lacking []) (Ok []) once ∙ end)
  closed_by (p ∷ ps) peer (Ok []) once e = cc
  closed_by part peer (Ok (b ∷ bs)) once e = absurd (not_closed ((lacking (part ++ b ∷ bs)) == 0) (drop 2 (part ++ b ∷ bs)) peer e)
  closed_by part peer (Err kind) once e = cc

  -- at the end nothing is left
  pub closed_end : (old new : StreamValue) → Feeds sure_view old_link new_link old new (Ok Closed)
      → (old.part ≡ []) × (old_link.pieces.left ≡ [])
  closed_end old new (NoRoom o e n l) = cc
  closed_end old new (HadFailed f e n l) = cc
  closed_end old new (Read outcome f once e n) = closed_by old.part old.peer outcome once e

  err_by : (part : List ℕ) (peer : SocketAddr) (outcome : Result (List ℕ) IoKind) (error : NetError) → 0 < lacking part
      → ReadsOnce sure_view (lacking part) old_link new_link outcome → Err error ≡ feed_reply peer part outcome
      → AreNoFrames (part ++ old_link.pieces.left)
  err_by [] peer (Ok []) error some once e = cc
  err_by (p ∷ ps) peer (Ok []) error some once e =
      let end : new_link.pieces.left ≡ [] = once.end refl in
      let none : old_link.pieces.left ≡ [] = left_by (lacking (p ∷ ps)) (Ok []) once ∙ end in
      let all : p ∷ ps ≡ (p ∷ ps) ++ old_link.pieces.left = sym (ap (λ (l : List ℕ). (p ∷ ps) ++ l) none ∙ append-nil (p ∷ ps)) in
      λ ms h. no_part p ps ms some (all ∙ h.row)
  err_by part peer (Ok (b ∷ bs)) error some once e =
      let empty = empty_told peer error (part ++ b ∷ bs) e in
      let left = left_by (lacking part) (Ok (b ∷ bs)) once in
      let all : frame [] ++ new_link.pieces.left ≡ part ++ old_link.pieces.left =
      ap (λ (l : List ℕ). l ++ new_link.pieces.left) (sym empty) ∙ append_assoc part (b ∷ bs) new_link.pieces.left
      ∙ ap (λ (l : List ℕ). part ++ l) (sym left) in
      λ ms h. no_empty_frame new_link.pieces.left ms h.each (all ∙ h.row)
  err_by part peer (Err kind) error some once e = absurd (no_fault (lacking part) kind once)

  -- an error comes for want of memory, or where the bytes are no row of frames
  pub err_told : (old new : StreamValue) (error : NetError) → old.failed ≡ false → 0 < lacking old.part
      → Feeds sure_view old_link new_link old new (Err error)
      → (error ≡ NoMemory) ⊎ AreNoFrames (old.part ++ old_link.pieces.left)
  err_told old new error o some (NoRoom f e n l) = let same : error ≡ NoMemory = cc in inl same
  err_told old new error o some (HadFailed f e n l) = cc
  err_told old new error o some (Read outcome f once e n) = inr (err_by old.part old.peer outcome error some once e)

-- ---- rows of frames

-- where the rest is no row of frames, the whole is none
pub no_whole : (done : List (List ℕ)) (rest all : List ℕ) → all ≡ frames done ++ rest → AreNoFrames rest → AreNoFrames all
no_whole done rest all e h = λ ms w.
    let r = read_row done ms rest w.each (sym e ∙ w.row) in
    h r.0 (record { each = r.2; row = r.3 })

-- a row's reading is its messages
pub row_read : (bytes : List ℕ) (ms ns : List (List ℕ)) → AreFrames bytes ms → AreFrames bytes ns → ms ≡ ns
row_read bytes ms ns a b = row_same ms ns b.each (sym a.row ∙ b.row)

-- one more message is read
pub row_more : (done : List (List ℕ)) (m rest tail all : List ℕ) → all ≡ frames done ++ rest → rest ≡ frame m ++ tail
    → all ≡ frames (done ++ m ∷ []) ++ tail
row_more done m rest tail all e n =
    e ∙ ap (λ (l : List ℕ). frames done ++ l) n ∙ sym (append_assoc (frames done) (frame m) tail)
    ∙ ap (λ (l : List ℕ). l ++ tail) (sym (frames-push done m))

pub row_shorter : (m rest tail : List ℕ) → HasFrame m → rest ≡ frame m ++ tail → length tail < length rest
unfolding frame
row_shorter m rest tail h e =
    let l = ap length e in
    omega (arith, l, length-append m tail)

-- where nothing is left, the messages' frames are the whole
pub none_whole : (done : List (List ℕ)) (rest all : List ℕ) → all ≡ frames done ++ rest → rest ≡ [] → All HasFrame done
    → AreFrames all done
none_whole done rest all e n h = record {
  each = h;
  row = e ∙ ap (λ (l : List ℕ). frames done ++ l) n ∙ append-nil (frames done);
}

-- why the rest has no messages is why the whole has none
pub no_frames_told : (error : NetError) (done : List (List ℕ)) (rest all : List ℕ) → all ≡ frames done ++ rest
    → (error ≡ NoMemory) ⊎ AreNoFrames rest → (error ≡ NoMemory) ⊎ AreNoFrames all
no_frames_told error done rest all e (inl n) = inl n
no_frames_told error done rest all e (inr h) = inr (no_whole done rest all e h)

-- an error other than want of memory says that there are no such messages
pub no_law : (error : NetError) (done messages : List (List ℕ)) (rest all : List ℕ) → all ≡ frames done ++ rest
    → AreFrames all messages → (error ≡ NoMemory) ⊎ AreNoFrames rest
    → (error ≡ NoMemory) ⊎ (Ok messages ≡ Err error)
no_law error done messages rest all e are (inl n) = inl n
no_law error done messages rest all e are (inr h) = absurd (no_whole done rest all e h messages are)

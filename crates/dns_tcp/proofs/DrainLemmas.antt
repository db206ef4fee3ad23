-- What calls of `drain` are answered, by what the link counted, and which bytes they write.
use Rattle.std.proofs.Common.{◌≡◌, ◌≢◌, ℕ, ◌<◌, ◌==◌, ◌⊎◌, ◌&&◌, inl, inr, true, false, Bool, List, [], ◌∷◌, ◌++◌, length, take, drop, map, Result, Ok, Err, OnOk, refl, sym, ap, ◌∙◌, append_assoc, if◌then◌else◌, arith}
use Rattle.std.proofs.lemmas.Bool.Decides.{nat_tests}
use Rattle.std.proofs.lemmas.List.{length-append, length-take, take-append-drop}
use Rattle.dns_model.specs.Counts.{Rose}
use Rattle.dns_handle.specs.Conversions.{outside_failed}
use Rattle.dns_handle.specs.declared.error.NetError.{NetError}
use Rattle.dns_handle.specs.declared.error.NetError.TheVariants.{Io, NoMemory}
use Rattle.dns_handle.specs.declared.io_kind.IoKind.{IoKind}
use Rattle.dns_handle.specs.declared.io_kind.IoKind.TheVariants.{InvalidData, NotConnected, Other, RequestTooLong, TimedOut}
use Rattle.dns_link.specs.Counts.{CountsValue, after_write, with_end, with_fault}
use Rattle.dns_link.specs.Moved.{moved_by}
use Rattle.dns_multiplexer.specs.Messages.{SerialMessageValue}
use Rattle.dns_tcp.specs.Causes.{DrainAnswer, DrainCause, IsMisaddressed, IsOverlong, IsWritten, pending}
use Rattle.dns_tcp.specs.Draining.{Drains, NoRoom, HadFailed, Idle, Refused, Written, IsLoaded, Begun, Next, IsRefused, Misaddressed, TooLong, after_drain, drain_reply, is_drained, is_nil, sent}
use Rattle.dns_tcp.specs.Frames.{frame, frames}
use Rattle.dns_tcp.specs.Links.{LinkView, WritesOnce}
use Rattle.dns_tcp.specs.Streams.{StreamValue, after_error, after_reply}
use Rattle.dns_tcp.proofs.CauseLemmas.{ends_by, faults_by, no_end_by, later_end, later_fault, later_same, no_fault_by, not_both, rose_ends, rose_faults}
use Rattle.dns_tcp.proofs.FeedLemmas.{and_then-nil}

drain_failed : (met now : CountsValue) (old new : StreamValue) (kind : IoKind) → Rose met.faults now.faults
    → DrainCause met now old new (Err (outside_failed kind))
drain_failed met now old new TimedOut h = h
drain_failed met now old new NotConnected h = inr h
drain_failed met now old new InvalidData h = inr h
drain_failed met now old new RequestTooLong h = inr h
drain_failed met now old new Other h = inr h
drain_failed met now old new _ h = h

-- what is counted changes nothing of what waits
error_pending : (error : NetError) (stream : StreamValue) → pending (after_error error stream) ≡ pending stream
error_pending NoMemory stream = refl
error_pending _ stream = refl

reply_pending : (reply : Result Bool NetError) (stream : StreamValue) → pending (after_reply reply stream) ≡ pending stream
reply_pending (Ok all) stream = refl
reply_pending (Err error) stream = error_pending error stream

-- bytes that are ready, or a message that isn't refused, is neither misaddressed nor overlong
module _ (old loaded : StreamValue) where
  not_misaddressed : IsLoaded old loaded → IsMisaddressed old → ⊥
  not_misaddressed (Begun some same) m = some m.next.0
  not_misaddressed (Next message rest idle next addr fits is) m =
      let same : message ∷ rest ≡ m.message ∷ m.rest = sym next ∙ m.next.1 in
      let one : message ≡ m.message = cc in
      m.elsewhere (ap (λ (x : SerialMessageValue). x.addr) (sym one) ∙ addr)

  not_overlong : IsLoaded old loaded → IsOverlong old → ⊥
  not_overlong (Begun some same) m = some m.next.0
  not_overlong (Next message rest idle next addr fits is) m =
      let same : message ∷ rest ≡ m.message ∷ m.rest = sym next ∙ m.next.1 in
      let one : message ≡ m.message = cc in
      let long = m.long in
      let size = ap (λ (x : SerialMessageValue). length x.bytes) one in
      omega (arith, long, size)

module _ (old : StreamValue) (error : NetError) where
  refused_cause : (met now : CountsValue) (new : StreamValue) → IsRefused old error → DrainCause met now old new (Err error)
  refused_cause met now new (Misaddressed message rest idle next addr is) =
      rw is (inl (record { message = message; rest = rest; next = (idle, next); elsewhere = addr }))
  refused_cause met now new (TooLong message rest idle next addr long is) =
      rw is (inl (record { message = message; rest = rest; next = (idle, next); addressed = addr; long = long }))

  refused_misaddressed : IsRefused old error → IsMisaddressed old → error ≡ Io InvalidData
  refused_misaddressed (Misaddressed message rest idle next addr is) m = is
  refused_misaddressed (TooLong message rest idle next addr long is) m =
      let same : message ∷ rest ≡ m.message ∷ m.rest = sym next ∙ m.next.1 in
      let one : message ≡ m.message = cc in
      absurd (m.elsewhere (ap (λ (x : SerialMessageValue). x.addr) (sym one) ∙ addr))

  refused_overlong : IsRefused old error → IsOverlong old → error ≡ Io RequestTooLong
  refused_overlong (Misaddressed message rest idle next addr is) m =
      let same : message ∷ rest ≡ m.message ∷ m.rest = sym next ∙ m.next.1 in
      let one : message ≡ m.message = cc in
      absurd (addr (ap (λ (x : SerialMessageValue). x.addr) one ∙ m.addressed))
  refused_overlong (TooLong message rest idle next addr long is) m = is

some_frame : (message : List ℕ) → 0 < length (frame message)
unfolding frame
some_frame message = omega arith

some_bytes : (bytes : List ℕ) → bytes ≢ [] → 0 < length bytes
some_bytes [] h = absurd (h refl)
some_bytes (b ∷ bs) h = omega arith

-- something is to be written once bytes are ready
loaded_some : (old loaded : StreamValue) → IsLoaded old loaded → 0 < length loaded.unsent
loaded_some old loaded (Begun some same) =
    let size = ap (λ (s : StreamValue). length s.unsent) same in
    let more = some_bytes old.unsent some in
    omega (arith, size, more)
loaded_some old loaded (Next message rest idle next addr fits is) =
    let size = ap (λ (s : StreamValue). length s.unsent) is in
    let more = some_frame message.bytes in
    omega (arith, size, more)

module _ (met now : CountsValue) (old loaded : StreamValue) (ready : IsLoaded old loaded) (open_ : old.failed ≡ false) where
  -- the link took so many bytes
  took_answer : (n : ℕ) (t : Bool) → (n == 0) ≡ t → now ≡ after_write (length loaded.unsent) (Ok n) met
      → DrainAnswer met now old (after_drain (Ok n) loaded) (drain_reply (Ok n) (sent (Ok n) loaded))
  took_answer n true none counts =
      let some = loaded_some old loaded ready in
      let offered : (length loaded.unsent == 0) ≡ false = grind (arith, nat_tests, some) in
      let met_end : after_write (length loaded.unsent) (Ok n) met ≡ with_end met = rw (none, offered) refl in
      let ended : now ≡ with_end met = counts ∙ met_end in
      rw none (record {
        later = later_end met now ended;
        cause = inl (rose_ends met now ended);
        after_fault = λ t. absurd (not_both old.failed t open_);
        misaddressed = λ f m. absurd (not_misaddressed old loaded ready m);
        overlong = λ f m. absurd (not_overlong old loaded ready m);
        failed = λ h. absurd (no_fault_by met now (faults_by met now (with_end met) ended refl) h);
        ended = λ h. refl;
      })
  took_answer n false some counts =
      let unmet : after_write (length loaded.unsent) (Ok n) met ≡ met = rw some refl in
      let same : now ≡ met = counts ∙ unmet in
      rw some (record {
        later = later_same met now same;
        cause = refl;
        after_fault = λ t. absurd (not_both old.failed t open_);
        misaddressed = λ f m. absurd (not_misaddressed old loaded ready m);
        overlong = λ f m. absurd (not_overlong old loaded ready m);
        failed = λ h. absurd (no_fault_by met now (faults_by met now met same refl) h);
        ended = λ h. absurd (no_end_by met now (ends_by met now met same refl) h);
      })

  written_answer : (outcome : Result ℕ IoKind) → now ≡ after_write (length loaded.unsent) outcome met
      → DrainAnswer met now old (after_drain outcome loaded) (drain_reply outcome (sent outcome loaded))
  written_answer (Ok n) counts = took_answer n (n == 0) refl counts
  written_answer (Err kind) counts = record {
    later = later_fault met now counts;
    cause = drain_failed met now old (after_drain (Err kind) loaded) kind (rose_faults met now counts);
    after_fault = λ t. absurd (not_both old.failed t open_);
    misaddressed = λ f m. absurd (not_misaddressed old loaded ready m);
    overlong = λ f m. absurd (not_overlong old loaded ready m);
    failed = λ h. record { kind = kind; told = refl };
    ended = λ h. absurd (no_end_by met now (ends_by met now (with_fault met) counts refl) h);
  }

module _ {L : Type 0} (seen : LinkView L) (old_link new_link : L) (old : StreamValue) where
  -- a link that wasn't written has counted nothing
  unwritten_answer : (new : StreamValue) (reply : Result Bool NetError) → new_link ≡ old_link
      → DrainCause (seen.counts old_link) (seen.counts new_link) old new reply
      → (old.failed ≡ true → reply ≡ Err (Io NotConnected))
      → (old.failed ≡ false → IsMisaddressed old → (reply ≡ Err (Io InvalidData)) ⊎ (reply ≡ Err NoMemory))
      → (old.failed ≡ false → IsOverlong old → (reply ≡ Err (Io RequestTooLong)) ⊎ (reply ≡ Err NoMemory))
      → DrainAnswer (seen.counts old_link) (seen.counts new_link) old new reply
  unwritten_answer new reply l cause after misaddressed overlong =
      let met = seen.counts old_link in
      let now = seen.counts new_link in
      let same : now ≡ met = ap seen.counts l in
      record {
        later = later_same met now same;
        cause = cause;
        after_fault = after;
        misaddressed = misaddressed;
        overlong = overlong;
        failed = λ h. absurd (no_fault_by met now (faults_by met now met same refl) h);
        ended = λ h. absurd (no_end_by met now (ends_by met now met same refl) h);
      }

  none_misaddressed : old.queue ≡ [] → IsMisaddressed old → ⊥
  none_misaddressed q m = let same : [] ≡ m.message ∷ m.rest = sym q ∙ m.next.1 in cc

  none_overlong : old.queue ≡ [] → IsOverlong old → ⊥
  none_overlong q m = let same : [] ≡ m.message ∷ m.rest = sym q ∙ m.next.1 in cc

  drained_is : (new : StreamValue) → old.unsent ≡ [] → old.queue ≡ [] → new ≡ old → true ≡ is_drained new
  drained_is new u q n = rw (n, u, q) refl

  pub drain_answer : (new : StreamValue) (reply : Result Bool NetError) → Drains seen old_link new_link old new reply
      → DrainAnswer (seen.counts old_link) (seen.counts new_link) old new reply
  drain_answer new reply (NoRoom f e n l) =
      rw e (unwritten_answer new (Err NoMemory) l (ap seen.counts l) (λ t. absurd (not_both old.failed t f))
      (λ o m. inr refl) (λ o m. inr refl))
  drain_answer new reply (HadFailed f e n l) =
      rw e (unwritten_answer new (Err (Io NotConnected)) l (inl f) (λ t. refl)
      (λ o m. absurd (not_both old.failed f o)) (λ o m. absurd (not_both old.failed f o)))
  drain_answer new reply (Idle f u q e n l) =
      rw e (unwritten_answer new (Ok true) l (drained_is new u q n) (λ t. absurd (not_both old.failed t f))
      (λ o m. absurd (none_misaddressed q m)) (λ o m. absurd (none_overlong q m)))
  drain_answer new reply (Refused error f r e n l) =
      rw e (unwritten_answer new (Err error) l (refused_cause old error (seen.counts old_link) (seen.counts new_link) new r)
      (λ t. absurd (not_both old.failed t f))
      (λ o m. inl (ap Err (refused_misaddressed old error r m))) (λ o m. inl (ap Err (refused_overlong old error r m))))
  drain_answer new reply (Written loaded outcome f ready once e n) =
      rw (e, n) (written_answer (seen.counts old_link) (seen.counts new_link) old loaded ready f outcome once.counts)

-- ---- what was written

loaded_pending : (old loaded : StreamValue) → IsLoaded old loaded → pending loaded ≡ pending old
loaded_pending old loaded (Begun some same) = ap pending same
loaded_pending old loaded (Next message rest idle next addr fits is) =
    let queued : frames (map (λ (m : SerialMessageValue). m.bytes) old.queue)
    ≡ frame message.bytes ++ frames (map (λ (m : SerialMessageValue). m.bytes) rest) =
    ap (λ (q : List SerialMessageValue). frames (map (λ (m : SerialMessageValue). m.bytes) q)) next in
    ap pending is ∙ sym (ap (λ (u : List ℕ). u ++ frames (map (λ (m : SerialMessageValue). m.bytes) old.queue)) idle ∙ queued)

sent_pending : (outcome : Result ℕ IoKind) (loaded : StreamValue)
    → pending loaded ≡ moved_by outcome loaded.unsent ++ pending (sent outcome loaded)
sent_pending (Ok n) loaded =
    let waiting = frames (map (λ (m : SerialMessageValue). m.bytes) loaded.queue) in
    ap (λ (u : List ℕ). u ++ waiting) (sym (take-append-drop n loaded.unsent))
    ∙ append_assoc (take n loaded.unsent) (drop n loaded.unsent) waiting
sent_pending (Err kind) loaded = refl

nil_pending : (unsent : List ℕ) (queue : List SerialMessageValue) → (is_nil unsent && is_nil queue) ≡ true
    → unsent ++ frames (map (λ (m : SerialMessageValue). m.bytes) queue) ≡ []
nil_pending [] [] e = refl
nil_pending [] (m ∷ ms) e = cc
nil_pending (b ∷ bs) queue e = cc

some_taken : (n : ℕ) (t : Bool) (bytes : List ℕ) → (n == 0) ≡ t → 0 < length bytes
    → OnOk (if t then Err (Io Other) else Ok true) (take n bytes ≢ [])
some_taken n true bytes e h = tt
some_taken n false bytes e h = λ none.
    let nothing = ap length none in
    let size = length-take n bytes in
    let some : 0 < n = grind (arith, nat_tests) in
    absurd (omega (arith, nothing, size, some, h))

module _ (loaded : StreamValue) where
  some_sent : (n : ℕ) (t : Bool) (all : Bool) → (n == 0) ≡ t → 0 < length loaded.unsent
      → OnOk (if t then Err (Io Other) else Ok all) (take n loaded.unsent ≢ [])
  some_sent n true all e h = tt
  some_sent n false all e h = some_taken n false loaded.unsent e h

  -- some bytes were written, or an error is answered
  some_moved : (outcome : Result ℕ IoKind) → 0 < length loaded.unsent
      → OnOk (drain_reply outcome (sent outcome loaded)) (moved_by outcome loaded.unsent ≢ [])
  some_moved (Ok n) h = some_sent n (n == 0) (is_drained (sent (Ok n) loaded)) refl h
  some_moved (Err kind) h = tt

  all_sent : (t all : Bool) (unsent : List ℕ) (queue : List SerialMessageValue) → all ≡ (is_nil unsent && is_nil queue)
      → (if t then Err (Io Other) else Ok all) ≡ Ok true
      → unsent ++ frames (map (λ (m : SerialMessageValue). m.bytes) queue) ≡ []
  all_sent true all unsent queue is e = cc
  all_sent false all unsent queue is e =
      let told : all ≡ true = cc in
      nil_pending unsent queue (sym is ∙ told)

  -- all is written where the answer is true
  all_moved : (outcome : Result ℕ IoKind) → drain_reply outcome (sent outcome loaded) ≡ Ok true → pending (sent outcome loaded) ≡ []
  all_moved (Ok n) e = all_sent (n == 0) (is_drained (sent (Ok n) loaded)) (drop n loaded.unsent) loaded.queue refl e
  all_moved (Err kind) e = cc

  -- fewer bytes are to be written where the answer is false
  less_moved : (outcome : Result ℕ IoKind) → 0 < length loaded.unsent → drain_reply outcome (sent outcome loaded) ≡ Ok false
      → length (pending (sent outcome loaded)) < length (pending loaded)
  less_moved (Ok n) h e =
      let moved : OnOk (drain_reply (Ok n) (sent (Ok n) loaded)) (take n loaded.unsent ≢ []) = some_moved (Ok n) h in
      let some : take n loaded.unsent ≢ [] = rw e at moved in
      let more = some_bytes (take n loaded.unsent) some in
      let sum = ap length (sent_pending (Ok n) loaded) in
      let parts = length-append (take n loaded.unsent) (pending (sent (Ok n) loaded)) in
      omega (arith, more, sum, parts)
  less_moved (Err kind) h e = cc

module _ {L : Type 0} (seen : LinkView L) (old_link new_link : L) (old : StreamValue) where
  nothing_written : (new : StreamValue) (reply : Result Bool NetError) → new_link ≡ old_link → pending new ≡ pending old
      → (pending old ≢ [] → OnOk reply (◌≢◌ {A = List ℕ} [] [])) → (reply ≡ Ok true → pending new ≡ [])
      → (reply ≡ Ok false → ⊥) → IsWritten seen old_link new_link old new reply
  nothing_written new reply l p some all never = record {
    written = [];
    taken = ap seen.taken l ∙ and_then-nil (seen.taken old_link);
    first = sym p;
    some = some;
    all = all;
    less = λ e. absurd (never e);
  }

  -- the bytes of one write
  once_written : (loaded : StreamValue) (outcome : Result ℕ IoKind) → IsLoaded old loaded
      → WritesOnce seen loaded.unsent old_link new_link outcome
      → IsWritten seen old_link new_link old (after_drain outcome loaded) (drain_reply outcome (sent outcome loaded))
  once_written loaded outcome ready once =
      let kept : pending (after_drain outcome loaded) ≡ pending (sent outcome loaded) =
      reply_pending (drain_reply outcome (sent outcome loaded)) (sent outcome loaded) in
      record {
        written = moved_by outcome loaded.unsent;
        taken = once.taken;
        first = sym (loaded_pending old loaded ready) ∙ sent_pending outcome loaded
            ∙ ap (λ (bytes : List ℕ). moved_by outcome loaded.unsent ++ bytes) (sym kept);
        some = λ p. some_moved loaded outcome (loaded_some old loaded ready);
        all = λ e. kept ∙ all_moved loaded outcome e;
        less = λ e.
            let fewer = less_moved loaded outcome (loaded_some old loaded ready) e in
            let new_size = ap length kept in
            let old_size = ap length (loaded_pending old loaded ready) in
            omega (arith, fewer, new_size, old_size);
      }

  idle_pending : old.unsent ≡ [] → old.queue ≡ [] → pending old ≡ []
  idle_pending u q = rw (u, q) refl

  pub drain_written : (new : StreamValue) (reply : Result Bool NetError) → Drains seen old_link new_link old new reply
      → IsWritten seen old_link new_link old new reply
  drain_written new reply (NoRoom f e n l) = rw e (nothing_written new (Err NoMemory) l (ap pending n) (λ p. tt) (λ t. cc) (λ t. cc))
  drain_written new reply (HadFailed f e n l) =
      rw e (nothing_written new (Err (Io NotConnected)) l (ap pending n) (λ p. tt) (λ t. cc) (λ t. cc))
  drain_written new reply (Idle f u q e n l) =
      rw e (nothing_written new (Ok true) l (ap pending n) (λ p. absurd (p (idle_pending u q)))
      (λ t. ap pending n ∙ idle_pending u q) (λ t. cc))
  drain_written new reply (Refused error f r e n l) =
      rw e (nothing_written new (Err error) l (ap pending n) (λ p. tt) (λ t. cc) (λ t. cc))
  drain_written new reply (Written loaded outcome f ready once e n) =
      rw (e, n) (once_written loaded outcome ready once)

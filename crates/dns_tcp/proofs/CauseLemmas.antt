-- What calls of `feed` are answered, by what the link counted.
use Rattle.std.proofs.Common.{◌≡◌, ℕ, ◌<◌, ◌==◌, inl, inr, true, false, Bool, List, [], ◌∷◌, ◌++◌, length, drop, Result, Ok, Err, refl, ap, ◌∙◌, if◌then◌else◌, arith}
use Rattle.std.proofs.lemmas.Bool.Decides.{nat_tests}
use Rattle.dns_model.specs.Counts.{Rose}
use Rattle.dns_handle.specs.Conversions.{outside_failed}
use Rattle.dns_handle.specs.declared.error.NetError.{NetError}
use Rattle.dns_handle.specs.declared.error.NetError.TheVariants.{Io, NoMemory}
use Rattle.dns_handle.specs.declared.io_kind.IoKind.{IoKind}
use Rattle.dns_handle.specs.declared.io_kind.IoKind.TheVariants.{BrokenPipe, NotConnected, TimedOut}
use Rattle.dns_link.specs.Counts.{CountsValue, after_read, with_end, with_fault, with_got}
use Rattle.dns_tcp.specs.declared.feed.Feed.{Feed}
use Rattle.dns_tcp.specs.declared.feed.Feed.TheVariants.{More}
use Rattle.dns_tcp.specs.Causes.{IsLater, FeedAnswer, FeedCause, FeedFault}
use Rattle.dns_tcp.specs.Feeding.{Feeds, NoRoom, HadFailed, Read, end_reply, feed_reply, message_reply}
use Rattle.dns_tcp.specs.Frames.{lacking}
use Rattle.dns_tcp.specs.Links.{LinkView, ReadsOnce}
use Rattle.dns_tcp.specs.Streams.{StreamValue}

-- ---- counts

ended_count : (room : ℕ) (met : CountsValue) → 0 < room → after_read room (Ok 0) met ≡ with_end met
ended_count room met h =
    let no : (room == 0) ≡ false = grind (arith, nat_tests) in
    rw no refl

pub gave_count : (room n : ℕ) (met : CountsValue) → 0 < n → after_read room (Ok n) met ≡ with_got met
gave_count room n met h =
    let no : (n == 0) ≡ false = grind (arith, nat_tests) in
    rw no refl

pub rose_ends : (met now : CountsValue) → now ≡ with_end met → Rose met.ends now.ends
rose_ends met now e = let same = ap (λ (c : CountsValue). c.ends) e in omega (arith, same)

rose_gots : (met now : CountsValue) → now ≡ with_got met → Rose met.gots now.gots
rose_gots met now e = let same = ap (λ (c : CountsValue). c.gots) e in omega (arith, same)

pub rose_faults : (met now : CountsValue) → now ≡ with_fault met → Rose met.faults now.faults
rose_faults met now e = let same = ap (λ (c : CountsValue). c.faults) e in omega (arith, same)

-- what wasn't counted didn't rise
pub no_fault_by : (met now : CountsValue) → now.faults ≡ met.faults → met.faults < now.faults → ⊥
no_fault_by met now e h = omega (arith, e)

pub no_end_by : (met now : CountsValue) → now.ends ≡ met.ends → met.ends < now.ends → ⊥
no_end_by met now e h = omega (arith, e)

no_got_by : (met now : CountsValue) → now.gots ≡ met.gots → met.gots < now.gots → ⊥
no_got_by met now e h = omega (arith, e)

pub faults_by : (met now other : CountsValue) → now ≡ other → other.faults ≡ met.faults → now.faults ≡ met.faults
faults_by met now other e h = ap (λ (c : CountsValue). c.faults) e ∙ h

pub ends_by : (met now other : CountsValue) → now ≡ other → other.ends ≡ met.ends → now.ends ≡ met.ends
ends_by met now other e h = ap (λ (c : CountsValue). c.ends) e ∙ h

gots_by : (met now other : CountsValue) → now ≡ other → other.gots ≡ met.gots → now.gots ≡ met.gots
gots_by met now other e h = ap (λ (c : CountsValue). c.gots) e ∙ h

-- what counts one more, or nothing, lets no count fall
pub later_end : (met now : CountsValue) → now ≡ with_end met → IsLater met now
later_end met now e =
    let faults = ap (λ (c : CountsValue). c.faults) e in
    let ends = ap (λ (c : CountsValue). c.ends) e in
    let gots = ap (λ (c : CountsValue). c.gots) e in
    record { faults = omega (arith, faults); ends = omega (arith, ends); gots = omega (arith, gots) }

later_got : (met now : CountsValue) → now ≡ with_got met → IsLater met now
later_got met now e =
    let faults = ap (λ (c : CountsValue). c.faults) e in
    let ends = ap (λ (c : CountsValue). c.ends) e in
    let gots = ap (λ (c : CountsValue). c.gots) e in
    record { faults = omega (arith, faults); ends = omega (arith, ends); gots = omega (arith, gots) }

pub later_fault : (met now : CountsValue) → now ≡ with_fault met → IsLater met now
later_fault met now e =
    let faults = ap (λ (c : CountsValue). c.faults) e in
    let ends = ap (λ (c : CountsValue). c.ends) e in
    let gots = ap (λ (c : CountsValue). c.gots) e in
    record { faults = omega (arith, faults); ends = omega (arith, ends); gots = omega (arith, gots) }

pub later_same : (met now : CountsValue) → now ≡ met → IsLater met now
later_same met now e =
    let faults = ap (λ (c : CountsValue). c.faults) e in
    let ends = ap (λ (c : CountsValue). c.ends) e in
    let gots = ap (λ (c : CountsValue). c.gots) e in
    record { faults = omega (arith, faults); ends = omega (arith, ends); gots = omega (arith, gots) }

pub not_both : (b : Bool) → b ≡ true → b ≡ false → ⊥
not_both true t f = cc
not_both false t f = cc

-- ---- feed

failed_fault : (met now : CountsValue) (old : StreamValue) (kind : IoKind) → Rose met.faults now.faults
    → FeedFault met now old kind
failed_fault met now old NotConnected h = inr h
failed_fault met now old BrokenPipe h = inr (inr h)
failed_fault met now old _ h = h

failed_cause : (met now : CountsValue) (old : StreamValue) (kind : IoKind) → Rose met.faults now.faults
    → FeedCause met now old (Err (outside_failed kind))
failed_cause met now old TimedOut h = h
failed_cause met now old NotConnected h = inr h
failed_cause met now old BrokenPipe h = inr (inr h)
failed_cause met now old _ h = h

end_cause : (met now : CountsValue) (old : StreamValue) (part : List ℕ) → old.part ≡ part → Rose met.ends now.ends
    → FeedCause met now old (end_reply part)
end_cause met now old [] e h = (e, h)
end_cause met now old (b ∷ bs) e h = inl ((λ n. cc), h)

message_cause : (met now : CountsValue) (old : StreamValue) (bytes : List ℕ) → Rose met.gots now.gots
    → FeedCause met now old (message_reply old.peer bytes)
message_cause met now old [] h = inr (inl h)
message_cause met now old (b ∷ bs) h = h

frame_cause : (met now : CountsValue) (old : StreamValue) (t : Bool) (bytes : List ℕ) → Rose met.gots now.gots
    → FeedCause met now old (if t then message_reply old.peer bytes else Ok More)
frame_cause met now old true bytes h = message_cause met now old bytes h
frame_cause met now old false bytes h = h

module _ {L : Type 0} (seen : LinkView L) (old_link new_link : L) (old : StreamValue) where
  -- by the outcome of the one read
  read_answer : (outcome : Result (List ℕ) IoKind) → ReadsOnce seen (lacking old.part) old_link new_link outcome
      → old.failed ≡ false
      → FeedAnswer (seen.counts old_link) (seen.counts new_link) old (feed_reply old.peer old.part outcome)
  read_answer (Ok []) once f =
      let met = seen.counts old_link in
      let now = seen.counts new_link in
      let ended : now ≡ with_end met = once.counts ∙ ended_count once.room met once.some in
      record {
        later = later_end met now ended;
        cause = end_cause met now old old.part refl (rose_ends met now ended);
        after_fault = λ t. absurd (not_both old.failed t f);
        failed = λ h. absurd (no_fault_by met now (faults_by met now (with_end met) ended refl) h);
        ended = λ h. refl;
        gave = λ h. absurd (no_got_by met now (gots_by met now (with_end met) ended refl) h);
      }
  read_answer (Ok (b ∷ bs)) once f =
      let met = seen.counts old_link in
      let now = seen.counts new_link in
      let some : 0 < length (b ∷ bs) = omega arith in
      let got : now ≡ with_got met = once.counts ∙ gave_count once.room (length (b ∷ bs)) met some in
      record {
        later = later_got met now got;
        cause = frame_cause met now old (lacking (old.part ++ b ∷ bs) == 0) (drop 2 (old.part ++ b ∷ bs)) (rose_gots met now got);
        after_fault = λ t. absurd (not_both old.failed t f);
        failed = λ h. absurd (no_fault_by met now (faults_by met now (with_got met) got refl) h);
        ended = λ h. absurd (no_end_by met now (ends_by met now (with_got met) got refl) h);
        gave = λ h. record { read = b ∷ bs; some = λ e. cc; told = refl };
      }
  read_answer (Err kind) once f =
      let met = seen.counts old_link in
      let now = seen.counts new_link in
      let fault : now ≡ with_fault met = once.counts in
      record {
        later = later_fault met now fault;
        cause = failed_cause met now old kind (rose_faults met now fault);
        after_fault = λ t. absurd (not_both old.failed t f);
        failed = λ h. record { kind = kind; told = refl };
        ended = λ h. absurd (no_end_by met now (ends_by met now (with_fault met) fault refl) h);
        gave = λ h. absurd (no_got_by met now (gots_by met now (with_fault met) fault refl) h);
      }

  -- a link that wasn't read has counted nothing
  unread_answer : (reply : Result Feed NetError) → new_link ≡ old_link
      → FeedCause (seen.counts old_link) (seen.counts new_link) old reply
      → (old.failed ≡ true → reply ≡ Err (Io NotConnected))
      → FeedAnswer (seen.counts old_link) (seen.counts new_link) old reply
  unread_answer reply l cause after =
      let met = seen.counts old_link in
      let now = seen.counts new_link in
      let same : now ≡ met = ap seen.counts l in
      record {
        later = later_same met now same;
        cause = cause;
        after_fault = after;
        failed = λ h. absurd (no_fault_by met now (faults_by met now met same refl) h);
        ended = λ h. absurd (no_end_by met now (ends_by met now met same refl) h);
        gave = λ h. absurd (no_got_by met now (gots_by met now met same refl) h);
      }

  pub feed_answer : (new : StreamValue) (reply : Result Feed NetError) → Feeds seen old_link new_link old new reply
      → FeedAnswer (seen.counts old_link) (seen.counts new_link) old reply
  feed_answer new reply (NoRoom f e n l) =
      rw e (unread_answer (Err NoMemory) l (ap seen.counts l) (λ t. absurd (not_both old.failed t f)))
  feed_answer new reply (HadFailed f e n l) = rw e (unread_answer (Err (Io NotConnected)) l (inl f) (λ t. refl))
  feed_answer new reply (Read outcome f once e n) = rw e (read_answer outcome once f)

-- Writes of a stream: which bytes they write of which messages, and what is left.
use Rattle.std.proofs.Common.{◌≡◌, ℕ, ◌<◌, ◌==◌, inl, inr, ◌⊎◌, true, false, Bool, List, [], ◌∷◌, ◌++◌, ◌&&◌, length, drop, Option, Some, None, Result, Ok, Err, refl, sym, ap, ◌∙◌, append_assoc, append-nil, slice_get, if◌then◌else◌, arith}
use Rattle.std.specs.Prelude.{nat_lt}
use Rattle.std.proofs.lemmas.Bool.Decides.{nat_tests}
use Rattle.std.specs.declared.net.socket_addr.SocketAddr.{SocketAddr}
use Rattle.dns_handle.specs.declared.error.NetError.{NetError}
use Rattle.dns_handle.specs.declared.error.NetError.TheVariants.{Io, Message, NoMemory}
use Rattle.dns_handle.specs.declared.io_kind.IoKind.{IoKind}
use Rattle.dns_handle.specs.declared.io_kind.IoKind.TheVariants.{Other}
use Rattle.dns_handle.specs.declared.notice.Notice.TheVariants.{SendQueueFull}
use Rattle.dns_link.specs.Counts.{after_write}
use Rattle.dns_link.specs.Moved.{and_then}
use Rattle.dns_multiplexer.specs.Draws.{CoreValue, IsPop}
use Rattle.dns_multiplexer.specs.Machine.{Settings, State}
use Rattle.dns_multiplexer.specs.Messages.{SerialMessageValue}
use Rattle.dns_multiplexer.specs.Queues.{IsPut, addressed}
use Rattle.dns_tcp.specs.Causes.{IsWritten, pending}
use Rattle.dns_tcp.specs.Draining.{Drains, NoRoom, HadFailed, Idle, Refused, Written, IsLoaded, Begun, Next, after_drain, drain_reply, is_drained, is_nil, sent}
use Rattle.dns_tcp.specs.Frames.{frame}
use Rattle.dns_tcp.specs.Links.{LinkView, WritesOnce}
use Rattle.dns_tcp.specs.Streams.{StreamValue, after_reply}
use Rattle.dns_tcp.specs.Reads.{Sight, sight}
use Rattle.dns_tcp.specs.Steps.{DrainsAll, IsPopped, WritesMessage, WritesOut}
use Rattle.dns_tcp.specs.Writes.{HasDrained, HasWritten, HasWrittenAll, frames_of, message_to, messages_to}
use Rattle.dns_tcp.proofs.SightLemmas.{and_then-both, and_then-none, queue_on, queue_only}

-- ---- frames in a row

frames_of_append : (xs ys : List SerialMessageValue) → frames_of (xs ++ ys) ≡ frames_of xs ++ frames_of ys
frames_of_append [] ys = refl
frames_of_append (x ∷ xs) ys =
    ap (λ (l : List ℕ). frame x.bytes ++ l) (frames_of_append xs ys)
    ∙ sym (append_assoc (frame x.bytes) (frames_of xs) (frames_of ys))

pub messages_to_push : (peer : SocketAddr) (ms : List SerialMessageValue) (m : SerialMessageValue)
    → messages_to peer (ms ++ m ∷ []) ≡ messages_to peer ms ++ message_to peer m.bytes
messages_to_push peer [] m = append-nil (message_to peer m.bytes)
messages_to_push peer (x ∷ ms) m =
    ap (λ (l : List SerialMessageValue). message_to peer x.bytes ++ l) (messages_to_push peer ms m)
    ∙ sym (append_assoc (message_to peer x.bytes) (messages_to peer ms) (message_to peer m.bytes))

pub no_message : (peer : SocketAddr) (bytes : List ℕ) → bytes ≡ [] → message_to peer bytes ≡ []
no_message peer bytes e = ap (message_to peer) e

pub some_message : (peer : SocketAddr) (bytes : List ℕ) → (bytes ≡ [] → ⊥)
    → message_to peer bytes ≡ record { bytes = bytes; addr = peer } ∷ []
some_message peer [] h = absurd (h refl)
some_message peer (b ∷ bs) h = refl

-- ---- writes in a row

pub written_none : (s : Sight) (stream : StreamValue) → HasWritten s s stream stream []
written_none s stream = record {
  written = [];
  taken = and_then-none s.taken;
  first = append-nil (pending stream);
  begun = [];
  waiting = append-nil stream.queue;
  given = refl;
  counts = refl;
  kept = refl;
}

module _ (a b c : Sight) (old mid new : StreamValue) (m n : List SerialMessageValue) (h : HasWritten a b old mid m) where
  pub written_on : HasWritten b c mid new n → HasWritten a c old new (m ++ n)
  written_on k = record {
    written = h.written ++ k.written;
    taken = k.taken ∙ ap (λ t. and_then t k.written) h.taken ∙ and_then-both a.taken h.written k.written;
    first = ap (λ (l : List ℕ). pending old ++ l) (frames_of_append m n)
        ∙ sym (append_assoc (pending old) (frames_of m) (frames_of n))
        ∙ ap (λ (l : List ℕ). l ++ frames_of n) h.first
        ∙ append_assoc h.written (pending mid) (frames_of n)
        ∙ ap (λ (l : List ℕ). h.written ++ l) k.first
        ∙ sym (append_assoc h.written k.written (pending new));
    begun = h.begun ++ k.begun;
    waiting = sym (append_assoc old.queue m n)
        ∙ ap (λ (l : List SerialMessageValue). l ++ n) h.waiting
        ∙ append_assoc h.begun mid.queue n
        ∙ ap (λ (l : List SerialMessageValue). h.begun ++ l) k.waiting
        ∙ sym (append_assoc h.begun k.begun new.queue);
    given = k.given ∙ h.given;
    counts = k.counts ∙ h.counts;
    kept = queue_on old mid new h.kept k.kept;
  }

  pub all_on : HasWrittenAll b c mid new n → HasWrittenAll a c old new (m ++ n)
  all_on k = record { out = written_on k.out; idle = k.idle }

pub drained_on : {L : Type 0} (seen : LinkView L) (a b c : Sight) (old mid new : StreamValue)
    (m n : List SerialMessageValue) (error : NetError)
    → HasWritten a b old mid m → HasDrained seen b c mid new n error → HasDrained seen a c old new (m ++ n) error
drained_on seen a b c old mid new m n error h k = record {
  link = k.link;
  new_link = k.new_link;
  stream = k.stream;
  before = written_on a b (sight seen k.link) old mid k.stream m n h k.before;
  drained = k.drained;
  until = k.until;
}

-- ---- one write

nil_queue : (unsent : List ℕ) (queue : List SerialMessageValue) → true ≡ (is_nil unsent && is_nil queue) → queue ≡ []
nil_queue [] [] e = refl
nil_queue [] (m ∷ ms) e = cc
nil_queue (b ∷ bs) queue e = cc

nil_unsent : (unsent : List ℕ) (queue : List SerialMessageValue) → true ≡ (is_nil unsent && is_nil queue) → unsent ≡ []
nil_unsent [] queue e = refl
nil_unsent (b ∷ bs) queue e = cc

-- the messages that wait no more after a write, and that nothing else has changed
record IsStep (old new : StreamValue) : Type 0 where
  begun : List SerialMessageValue
  waiting : old.queue ≡ begun ++ new.queue
  kept : new ≡ record old { queue = new.queue; unsent = new.unsent }

same_step : (old new : StreamValue) → new ≡ old → IsStep old new
same_step old new e = record {
  begun = [];
  waiting = sym (ap (λ (s : StreamValue). s.queue) e);
  kept = queue_only old new old.queue old.unsent e;
}

loaded_step : (old loaded : StreamValue) → IsLoaded old loaded → IsStep old loaded
loaded_step old loaded (Begun some same) = same_step old loaded same
loaded_step old loaded (Next message rest idle next addr fits is) = record {
  begun = message ∷ [];
  waiting = next ∙ sym (ap (λ (s : StreamValue). message ∷ s.queue) is);
  kept = queue_only old loaded rest (frame message.bytes) is;
}

sent_step : (old loaded new : StreamValue) (unsent : List ℕ) → IsStep old loaded
    → new ≡ record loaded { unsent = unsent } → IsStep old new
sent_step old loaded new unsent h e = record {
  begun = h.begun;
  waiting = h.waiting ∙ sym (ap (λ (s : StreamValue). h.begun ++ s.queue) e);
  kept = queue_on old loaded new h.kept (queue_only loaded new loaded.queue unsent e);
}

-- a write that met nothing and read nothing
record IsQuiet {L : Type 0} (seen : LinkView L) (old_link new_link : L) (old new : StreamValue) : Type 0 where
  given : seen.given new_link ≡ seen.given old_link
  counts : seen.counts new_link ≡ seen.counts old_link
  step : IsStep old new
  unfailed : old.failed ≡ false

module _ {L : Type 0} (seen : LinkView L) (old_link new_link : L) (old new : StreamValue) where
  took_quiet : (all : Bool) (loaded : StreamValue) (n : ℕ) (t : Bool) → (n == 0) ≡ t → old.failed ≡ false → IsLoaded old loaded
      → WritesOnce seen loaded.unsent old_link new_link (Ok n)
      → Ok all ≡ (if t then Err (Io Other) else Ok (is_drained (sent (Ok n) loaded)))
      → new ≡ after_reply (if t then Err (Io Other) else Ok (is_drained (sent (Ok n) loaded))) (sent (Ok n) loaded)
      → IsQuiet seen old_link new_link old new
  took_quiet all loaded n true is f ready once e m = cc
  took_quiet all loaded n false is f ready once e m =
      let unmet : after_write (length loaded.unsent) (Ok n)
      (seen.counts old_link) ≡ seen.counts old_link = rw is refl in
      record {
        given = once.given;
        counts = once.counts ∙ unmet;
        step = sent_step old loaded new (drop n loaded.unsent) (loaded_step old loaded ready) m;
        unfailed = f;
      }

  written_quiet : (all : Bool) (loaded : StreamValue) (outcome : Result ℕ IoKind) → old.failed ≡ false → IsLoaded old loaded
      → WritesOnce seen loaded.unsent old_link new_link outcome → Ok all ≡ drain_reply outcome (sent outcome loaded)
      → new ≡ after_drain outcome loaded → IsQuiet seen old_link new_link old new
  written_quiet all loaded (Ok n) f ready once e m = took_quiet all loaded n (n == 0) refl f ready once e m
  written_quiet all loaded (Err kind) f ready once e m = cc

  drained_quiet : (all : Bool) → Drains seen old_link new_link old new (Ok all) → IsQuiet seen old_link new_link old new
  drained_quiet all (NoRoom f e n l) = cc
  drained_quiet all (HadFailed f e n l) = cc
  drained_quiet all (Idle f u q e n l) = record {
    given = ap seen.given l;
    counts = ap seen.counts l;
    step = same_step old new n;
    unfailed = f;
  }
  drained_quiet all (Refused error f r e n l) = cc
  drained_quiet all (Written loaded outcome f ready once e n) = written_quiet all loaded outcome f ready once e n

  -- a write that succeeded
  pub drained_written : (all : Bool) → Drains seen old_link new_link old new (Ok all)
      → IsWritten seen old_link new_link old new (Ok all)
      → HasWritten (sight seen old_link) (sight seen new_link) old new []
  drained_written all d w =
      let q = drained_quiet all d in
      record {
        written = w.written;
        taken = w.taken;
        first = append-nil (pending old) ∙ w.first;
        begun = q.step.begun;
        waiting = append-nil old.queue ∙ q.step.waiting;
        given = q.given;
        counts = q.counts;
        kept = q.step.kept;
      }

  drained_unfailed : (all : Bool) → Drains seen old_link new_link old new (Ok all) → new.failed ≡ false
  drained_unfailed all d =
      let q = drained_quiet all d in
      ap (λ (s : StreamValue). s.failed) q.step.kept ∙ q.unfailed

  -- after writes in a row
  module _ (a : Sight) (start : StreamValue) (h : HasWritten a (sight seen old_link) start old []) where
    pub write_more : (all : Bool) → Drains seen old_link new_link old new (Ok all)
        → IsWritten seen old_link new_link old new (Ok all) → HasWritten a (sight seen new_link) start new []
    write_more all d w =
        written_on a (sight seen old_link) (sight seen new_link) start old new [] [] h (drained_written all d w)

    pub write_last : Drains seen old_link new_link old new (Ok true)
        → IsWritten seen old_link new_link old new (Ok true) → true ≡ is_drained new
        → HasWrittenAll a (sight seen new_link) start new []
    write_last d w e = record {
      out = write_more true d w;
      idle = record {
        queue = nil_queue new.unsent new.queue e;
        unsent = nil_unsent new.unsent new.queue e;
        unfailed = drained_unfailed true d;
      };
    }

    pub write_failed : (error : NetError) → Drains seen old_link new_link old new (Err error)
        → HasDrained seen a (sight seen new_link) start new [] error
    write_failed error d = record {
      link = old_link;
      new_link = new_link;
      stream = old;
      before = h;
      drained = d;
      until = refl;
    }

-- ---- a message that is put into the queue

module _ (a : Sight) (old new : StreamValue) (addr : SocketAddr) (message : SerialMessageValue)
    (kept : new ≡ record old { queue = new.queue }) where
  put_queued : new.queue ≡ old.queue ++ addressed addr message ∷ [] → HasWritten a a old new (addressed addr message ∷ [])
  put_queued e =
      let one = addressed addr message ∷ [] in
      record {
        written = [];
        taken = and_then-none a.taken;
        first = append_assoc old.unsent (frames_of old.queue) (frames_of one)
            ∙ ap (λ (l : List ℕ). old.unsent ++ l) (sym (frames_of_append old.queue one))
            ∙ ap (λ (q : List SerialMessageValue). old.unsent ++ frames_of q) (sym e)
            ∙ ap (λ (u : List ℕ). u ++ frames_of new.queue) (sym (ap (λ (s : StreamValue). s.unsent) kept));
        begun = [];
        waiting = sym e;
        given = refl;
        counts = refl;
        kept = queue_only old new new.queue old.unsent kept;
      }

  -- it is put behind the others, for the peer
  pub put_written : addr ≡ old.peer → (message.bytes ≡ [] → ⊥) → new.queue ≡ old.queue ++ addressed addr message ∷ []
      → HasWritten a a old new (message_to old.peer message.bytes)
  put_written same some put =
      let told : message_to old.peer message.bytes ≡ addressed addr message ∷ [] =
      some_message old.peer message.bytes some
      ∙ ap (λ (p : SocketAddr). addressed p message ∷ []) (sym same) in
      rw told (put_queued put)

-- an empty queue isn't full
pub put_failed : (addr : SocketAddr) (buffer : ℕ) (message : SerialMessageValue)
    (old new : List SerialMessageValue) (error : NetError)
    → old ≡ [] → IsPut {X = Unit} addr buffer message old new (Err error) → error ≡ NoMemory
put_failed addr buffer message old new error none put = put_by put.0
  where
    put_by : (error ≡ NoMemory) ⊎ ((nat_lt buffer (length old) ≡ true) × (error ≡ Message SendQueueFull))
        → error ≡ NoMemory
    put_by (inl n) = n
    put_by (inr f) =
        let size = ap length none in
        let full = f.0 in
        absurd (grind (arith, nat_tests, size, full))

-- it is put there, and all that waits is written
pub message_on : {L : Type 0} (seen : LinkView L) (old_link mid_link new_link : L) (old mid new : StreamValue) (bytes : List ℕ)
    (result : Result Unit NetError) → mid_link ≡ old_link
    → HasWritten (sight seen old_link) (sight seen old_link) old mid (message_to old.peer bytes)
    → DrainsAll seen mid_link new_link mid new result → WritesMessage seen old_link new_link old new bytes result
message_on seen old_link mid_link new_link old mid new bytes (Ok done) l h k =
    let all = all_on (sight seen old_link) (sight seen old_link) (sight seen new_link) old mid new (message_to old.peer bytes) [] h
    (rw l at k) in
    rw (append-nil (message_to old.peer bytes)) at all
message_on seen old_link mid_link new_link old mid new bytes (Err error) l h k =
    let failed = drained_on seen (sight seen old_link) (sight seen old_link) (sight seen new_link) old mid new
    (message_to old.peer bytes) [] error h (rw l at k) in
    inr (rw (append-nil (message_to old.peer bytes)) at failed)

-- there was no room for it, and nothing has changed
pub put_refused : (old new : StreamValue) (addr : SocketAddr) (buffer : ℕ) (message : SerialMessageValue) (error : NetError)
    → new ≡ record old { queue = new.queue } → old.queue ≡ []
    → IsPut {X = Unit} addr buffer message old.queue new.queue (Err error) → (error ≡ NoMemory) × (new ≡ old)
put_refused old new addr buffer message error kept none put = (
  put_failed addr buffer message old.queue new.queue error none put,
  kept ∙ ap (λ (q : List SerialMessageValue). record old { queue = q }) put.1,
)

-- ---- what is popped

pub popped_none : (core : CoreValue) → IsPopped core core
popped_none core = record { settings = refl; is_shutdown = refl; requests = refl }

pub popped_on : (a b c : CoreValue) → IsPopped a b → IsPopped b c → IsPopped a c
popped_on a b c h k = record {
  settings = k.settings ∙ h.settings;
  is_shutdown = k.is_shutdown ∙ h.is_shutdown;
  requests = k.requests ∙ h.requests;
}

pop_requests : (settings : Settings) (old new : State) (popped : Option SerialMessageValue)
    → IsPop settings old new popped
    → new.requests ≡ old.requests
pop_requests settings old new None h = ap (λ (s : State). s.requests) h.1
pop_requests settings old new (Some message) p = ap (λ (s : State). s.requests) p.moved

pub pop_one : (old new : CoreValue) (popped : Option SerialMessageValue) → IsPop old.settings old.state new.state popped
    → new ≡ record old { state = new.state } → IsPopped old new
pop_one old new popped h kept = record {
  settings = ap (λ (c : CoreValue). c.settings) kept;
  is_shutdown = ap (λ (c : CoreValue). c.is_shutdown) kept;
  requests = pop_requests old.settings old.state new.state popped h;
}

first_by : (xs : List SerialMessageValue) (x : SerialMessageValue) → Some x ≡ slice_get xs 0 → xs ≡ x ∷ drop 1 xs
first_by [] x e = cc
first_by (y ∷ xs) x e = let same : x ≡ y = cc in ap (λ (z : SerialMessageValue). z ∷ xs) (sym same)

-- the first message that waited
pub pop_first : (settings : Settings) (old new : State) (message : SerialMessageValue)
    → IsPop settings old new (Some message) → old.outbound ≡ message ∷ new.outbound
pop_first settings old new message p =
    first_by old.outbound message p.answered
    ∙ ap (λ (ms : List SerialMessageValue). message ∷ ms) (sym (ap (λ (s : State). s.outbound) p.moved))

-- one more of what is to be sent was popped
pub parted_on : (outbound popped waiting left : List SerialMessageValue) (message : SerialMessageValue)
    → outbound ≡ popped ++ waiting → waiting ≡ message ∷ left → outbound ≡ (popped ++ message ∷ []) ++ left
parted_on outbound popped waiting left message p q =
    p ∙ ap (λ (l : List SerialMessageValue). popped ++ l) q ∙ sym (append_assoc popped (message ∷ []) left)

shorter_by : (xs : List SerialMessageValue) (x : SerialMessageValue) → Some x ≡ slice_get xs 0
    → length (drop 1 xs) < length xs
shorter_by [] x e = cc
shorter_by (y ∷ xs) x e = omega arith

pub pop_shorter : (settings : Settings) (old new : State) (message : SerialMessageValue)
    → IsPop settings old new (Some message) → length new.outbound < length old.outbound
pop_shorter settings old new message p =
    let size = ap (λ (s : State). length s.outbound) p.moved in
    let fewer = shorter_by old.outbound message p.answered in
    omega (arith, size, fewer)

-- ---- what is to be sent, a message at a time

module _ {L : Type 0} (seen : LinkView L) (old_link mid_link new_link : L) (old mid new : StreamValue)
    (popped : List SerialMessageValue) (message : SerialMessageValue)
    (h : HasWrittenAll (sight seen old_link) (sight seen mid_link) old mid (messages_to old.peer popped)) where
  one_more : messages_to old.peer (popped ++ message ∷ []) ≡ messages_to old.peer popped ++ message_to mid.peer message.bytes
  one_more =
      messages_to_push old.peer popped message
      ∙ ap (λ (p : SocketAddr). messages_to old.peer popped ++ message_to p message.bytes)
      (sym (ap (λ (s : StreamValue). s.peer) h.out.kept))

  -- one more is written
  pub out_more : HasWrittenAll (sight seen mid_link) (sight seen new_link) mid new (message_to mid.peer message.bytes)
      → HasWrittenAll (sight seen old_link) (sight seen new_link) old new (messages_to old.peer (popped ++ message ∷ []))
  out_more k =
      rw one_more (all_on (sight seen old_link) (sight seen mid_link) (sight seen new_link) old mid new
      (messages_to old.peer popped) (message_to mid.peer message.bytes) h.out k)

  -- it wasn't written
  pub out_failed : (outbound waiting left : List SerialMessageValue) (error : NetError) → outbound ≡ popped ++ waiting
      → waiting ≡ message ∷ left → WritesMessage seen mid_link new_link mid new message.bytes (Err error)
      → WritesOut seen old_link new_link old new outbound left (Err error)
  out_failed outbound waiting left error p q (inl n) =
      inl (
        n.0,
        record {
          moved = popped;
          lost = message;
          parted = p ∙ ap (λ (l : List SerialMessageValue). popped ++ l) q;
          done = rw (n.1, n.2) h;
        },
      )
  out_failed outbound waiting left error p q (inr d) = inr (record {
    moved = popped ++ message ∷ [];
    parted = parted_on outbound popped waiting left message p q;
    drained = rw one_more (drained_on seen (sight seen old_link) (sight seen mid_link) (sight seen new_link) old mid new
        (messages_to old.peer popped) (message_to mid.peer message.bytes) error h.out d);
  })

-- A reply that is put into a stream's queue and written.
use Rattle.std.proofs.Common.{◌≡◌, ◌==◌, ◌∙◌, ℕ, inr, true, false, List, [], ◌∷◌, length, Result, Ok, Err, OnOk, refl, sym, subst, append-nil, arith}
use Rattle.std.proofs.lemmas.Bool.Decides.{nat_tests}
use Rattle.std.specs.declared.net.socket_addr.SocketAddr.{SocketAddr}
use Rattle.dns_handle.specs.declared.error.NetError.{NetError}
use Rattle.dns_multiplexer.specs.Messages.{SerialMessageValue}
use Rattle.dns_multiplexer.specs.Queues.{IsPut}
use Rattle.dns_tcp.specs.Links.{LinkView}
use Rattle.dns_tcp.specs.Reads.{sight}
use Rattle.dns_tcp.specs.Steps.{DrainsAll}
use Rattle.dns_tcp.specs.Streams.{StreamValue}
use Rattle.dns_tcp.specs.Writes.{message_to}
use Rattle.dns_tcp.proofs.WriteLemmas.{all_on, drained_on, put_written}
use Rattle.dns_listener.specs.Streams.{IsQueued, Writes}

-- of no length
pub no_bytes : (bytes : List ℕ) → length bytes == 0 ≡ true → bytes ≡ []
no_bytes [] is = refl
no_bytes (b ∷ bs) is = absurd (grind (arith, nat_tests, is))

some_bytes : (bytes : List ℕ) → length bytes == 0 ≡ false → bytes ≡ [] → ⊥
some_bytes [] some is = cc
some_bytes (b ∷ bs) some is = cc

-- a message of these bytes is put into the queue, for the peer
module _ {L : Type 0} (seen : LinkView L) (link : L) (old new : StreamValue) (addr : SocketAddr) (bytes : List ℕ)
    (same : addr ≡ old.peer) (some : length bytes == 0 ≡ false) (kept : new ≡ record old { queue = new.queue }) where
  pub queued : (message : SerialMessageValue) (buffer : ℕ) (result : Result Unit NetError) → message.bytes ≡ bytes
      → IsPut {X = Unit} addr buffer message old.queue new.queue result → OnOk result (IsQueued seen link old new bytes)
  queued message buffer (Ok done) is put =
      subst (λ (b : List ℕ). IsQueued seen link old new b) is
      (put_written (sight seen link) old new addr message kept same (λ e. some_bytes bytes some (sym is ∙ e)) put.1)
  queued message buffer (Err error) is put = tt

-- a message waits behind the others, and then all that waits is written
module _ {L : Type 0} (seen : LinkView L) (link new_link : L) (old mid new : StreamValue) (bytes : List ℕ) where
  pub written_on : (result : Result Unit NetError) → IsQueued seen link old mid bytes
      → DrainsAll seen link new_link mid new result → Writes seen link new_link old new bytes result
  written_on (Ok done) queued drained =
      rw (append-nil (message_to old.peer bytes)) at
      (all_on (sight seen link) (sight seen link) (sight seen new_link) old mid new
      (message_to old.peer bytes) [] queued drained)
  written_on (Err error) queued drained =
      inr (rw (append-nil (message_to old.peer bytes)) at
      (drained_on seen (sight seen link) (sight seen link) (sight seen new_link) old mid new
      (message_to old.peer bytes) [] error queued drained))

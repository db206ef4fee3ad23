-- Sockets that are made after some refusals, and the ports that were drawn for them.
use Rattle.std.proofs.Common.{◌≡◌, ℕ, suc, ◌+◌, ◌<◌, ◌≤◌, ◌⊎◌, inl, inr, Bool, true, false, List, [], ◌∷◌, ◌++◌, length, Option, Some, Result, Ok, Err, IfErr, refl, sym, ap, ◌∙◌, subst, arith}
use Rattle.std.specs.declared.net.socket_addr.SocketAddr.{SocketAddr}
use Rattle.std.specs.Net.Socket.{socket_ip, socket_port}
use Rattle.dns_handle.specs.declared.io_kind.IoKind.{IoKind}
use Rattle.dns_link.specs.Calls.{NetCalls, and_calls, fault_of}
use Rattle.dns_link.specs.Counts.{CountsValue, with_fault}
use Rattle.dns_link.specs.Moved.{DatagramValue, IsNew}
use Rattle.dns_link.specs.declared.net_call.NetCall.TheVariants.{Bind}
use Rattle.dns_multiplexer.specs.Draws.{Drawn}
use Rattle.dns_udp.specs.Ports.{IsNextPort, is_avoided}
use Rattle.dns_udp.specs.Met.{DialerView, Meets}
use Rattle.dns_udp.specs.Bindings.{AreTried, BindingValue, DrawsPorts, IsMadeAfter, IsNextLocalBy, all_refused, draws_ports, is_tried_again, only_faults}
use Rattle.dns_udp.proofs.MetLemmas.{meets_fault, meets_none, meets_then}

module _ {R : Type 0} (draw : R → ℕ → R → Type 0) where
  pub no_ports : (from : R) → DrawsPorts draw from from
  no_ports from = record { ports = []; drawn = refl }

  found_ports : (is_avoided : ℕ → Bool) (from to : R) (after port : ℕ) (passed : List ℕ)
      → (Drawn draw from (passed ++ port ∷ []) to × (is_avoided port ≡ false) × (after < 10)) ⊎
      (Drawn draw from passed to × (port ≡ 0) × (10 ≤ after))
      → DrawsPorts draw from to
  found_ports is_avoided from to after port passed (inl found) = record { ports = passed ++ port ∷ []; drawn = found.0 }
  found_ports is_avoided from to after port passed (inr found) = record { ports = passed; drawn = found.0 }

  pub next_ports : (is_avoided : ℕ → Bool) (from to : R) (before after port : ℕ)
      → IsNextPort draw is_avoided from to before after port
      → DrawsPorts draw from to
  next_ports is_avoided from to before after port next = found_ports is_avoided from to after port next.passed
      next.found

  pub next_rises : (is_avoided : ℕ → Bool) (from to : R) (before after port : ℕ)
      → IsNextPort draw is_avoided from to before after port
      → before ≤ after
  next_rises is_avoided from to before after port next = let h = next.counted in omega arith

  drawn_then : (from mid to : R) (one other : List ℕ) → Drawn draw from one mid → Drawn draw mid other to
      → Drawn draw from (one ++ other) to
  drawn_then from mid to [] other h k = subst (λ (r : R). Drawn draw r other to) (sym h) k
  drawn_then from mid to (port ∷ one) other (next, drawn, h) k = (next, drawn, drawn_then next mid to one other h k)

  pub ports_then : (from mid to : R) → DrawsPorts draw from mid → DrawsPorts draw mid to → DrawsPorts draw from to
  ports_then from mid to h k = record {
    ports = h.ports ++ k.ports;
    drawn = drawn_then from mid to h.ports k.ports
        h.drawn k.drawn;
  }

  -- a given address
  pub given_local : (binding : BindingValue) (from : R) (attempted : ℕ) → draws_ports binding ≡ false
      → IsNextLocalBy (draws_ports binding) draw binding from from attempted attempted binding.local
  given_local binding from attempted h = rw h (refl, refl, refl)

  -- one with a port that is drawn
  pub drawn_local : (binding : BindingValue) (from to : R) (before after : ℕ) (local : SocketAddr)
      → draws_ports binding ≡ true
      → IsNextPort draw (is_avoided binding.avoid) from to before after (socket_port local)
      → socket_ip local ≡ socket_ip binding.local
      → IsNextLocalBy (draws_ports binding) draw binding from to before after local
  drawn_local binding from to before after local h next ip = rw h (next, ip)

-- ---- binds, one after another

module _ {R G : Type 0} (draw : R → ℕ → R → Type 0) (binding : BindingValue) where
  -- the last bind: it makes the socket, or its refusal is answered
  pub tried_last : (from to : R) (before after : ℕ) (address : SocketAddr) (result : Result G IoKind)
      → IsNextLocalBy (draws_ports binding) draw binding from to before after address
      → IfErr result (λ kind. is_tried_again after kind ≡ false)
      → AreTried draw binding from to before after (all_refused result 0)
      (record { made = Bind address ∷ []; fault = fault_of result }) result
  tried_last from to before after address result next none = record {
    again = [];
    mid = from;
    attempted = before;
    refusals = (refl, refl);
    local = address;
    last = next;
    few = omega arith;
    count = refl;
    ended = none;
    asked = refl;
  }

  one_more_refused : (result : Result G IoKind) (n : ℕ) → all_refused result (suc n) ≡ 1 + all_refused result n
  one_more_refused (Ok socket) n = omega arith
  one_more_refused (Err kind) n = omega arith

  -- a bind before these was refused, and is tried again
  pub tried_after : (from middle to : R) (before n after : ℕ) (refusal : SocketAddr × IoKind) (refused : ℕ) (calls : NetCalls)
      (result : Result G IoKind)
      → IsNextLocalBy (draws_ports binding) draw binding from middle before n refusal.0
      → is_tried_again n refusal.1 ≡ true → n < 11 → before ≤ n
      → AreTried draw binding middle to (n + 1) after refused calls result
      → AreTried draw binding from to before after (1 + refused)
      (and_calls (record { made = Bind refusal.0 ∷ []; fault = Some refusal.1 }) calls) result
  tried_after from middle to before n after refusal refused calls result next tried left rises later = record {
    again = refusal ∷ later.again;
    mid = later.mid;
    attempted = later.attempted;
    refusals = (middle, n, next, tried, later.refusals);
    local = later.local;
    last = later.last;
    few = let few = later.few in omega arith;
    count = ap (λ (k : ℕ). 1 + k) later.count ∙ sym (one_more_refused result (length later.again));
    ended = later.ended;
    asked = ap (λ c. and_calls (record { made = Bind refusal.0 ∷ []; fault = Some refusal.1 }) c) later.asked;
  }

module _ {G : Type 0} (counts : G → CountsValue) (given : G → Option (List DatagramValue)) where
  pub made_at_once : (before now : DialerView) (socket : G) → now.counts ≡ before.counts → now.given ≡ before.given
      → IsNew (counts socket) (given socket) → IsMadeAfter counts given before now 0 (Ok socket)
  made_at_once before now socket same kept new = record {
    met = rw same (meets_none before.counts);
    kept = kept;
    made = new;
    failed = tt;
  }

  pub refused_at_last : (before now : DialerView) (kind : IoKind) → now.counts ≡ with_fault before.counts
      → now.given ≡ before.given
      → IsMadeAfter counts given before now 1 (Err kind)
  refused_at_last before now kind fault kept = record {
    met = rw fault (meets_fault before.counts);
    kept = kept;
    made = tt;
    failed = omega arith;
  }

  still_failed : (n : ℕ) (result : Result G IoKind) → IfErr result (λ _. 0 < 1 + n)
  still_failed n (Ok socket) = tt
  still_failed n (Err kind) = omega arith

  pub made_after : (before mid now : DialerView) (refused : ℕ) (result : Result G IoKind)
      → mid.counts ≡ with_fault before.counts → mid.given ≡ before.given
      → IsMadeAfter counts given mid now refused result → IsMadeAfter counts given before now (1 + refused) result
  made_after before mid now refused result fault kept made = record {
    met =
        let first : Meets before.counts mid.counts (only_faults 1) = rw fault (meets_fault before.counts) in
        meets_then before.counts mid.counts now.counts (only_faults 1) (only_faults refused) first made.met;
    kept = made.kept ∙ kept;
    made = made.made;
    failed = still_failed refused result;
  }

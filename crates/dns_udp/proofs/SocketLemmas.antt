-- Sockets that are open: one more, a turn of one, one that is given back.
use Rattle.std.proofs.Common.{◌≡◌, ℕ, zero, suc, ◌+◌, ◌<◌, List, [], ◌∷◌, ◌++◌, length, take, set, get_or, Option, None, Some, Result, Ok, Err, refl, sym, ap, subst, ◌∙◌, append-nil, append_assoc, length-append, arith}
use Rattle.std.specs.declared.net.socket_addr.SocketAddr.{SocketAddr}
use Rattle.dns_handle.specs.declared.io_kind.IoKind.{IoKind}
use Rattle.dns_link.specs.Counts.{CountsValue, after_receive, no_counts}
use Rattle.dns_link.specs.Moved.{DatagramValue, IsNew, IsEmptyIfTold, and_then, received_by}
use Rattle.dns_udp.specs.Met.{one_met, sum_met}
use Rattle.dns_udp.specs.OpenSockets.{AreHeard, IsHeard, Tells, Turned}
use Rattle.dns_udp.proofs.MetLemmas.{meets_none, meets_receive, meets_then, sum_none, sum_none_last, sum_shift, sum_swap}

-- ---- one socket

tells_nothing : (given : Option (List DatagramValue)) → IsEmptyIfTold given → Tells given []
tells_nothing None h = tt
tells_nothing (Some told) h = h

-- a socket that is new
pub heard_new : (counts : CountsValue) (given : Option (List DatagramValue)) → IsNew counts given
    → IsHeard counts given [] no_counts
heard_new counts given new = record {
  meets = rw new.uncounted (meets_none no_counts);
  told = tells_nothing given new.unused;
  gots = refl;
}

tells_more : (given : Option (List DatagramValue)) (own new : List DatagramValue) → Tells given own
    → Tells (and_then given new) (own ++ new)
tells_more None own new h = tt
tells_more (Some told) own new h = ap (λ (x : List DatagramValue). x ++ new) h

got_as_many : (result : Result (Option (ℕ × SocketAddr)) IoKind) (buf : List ℕ)
    → (one_met result).gots ≡ length (received_by result buf)
got_as_many (Ok None) buf = refl
got_as_many (Ok (Some came)) buf = refl
got_as_many (Err kind) buf = refl

-- a socket after a wait for a datagram
pub heard_more : (old_counts new_counts : CountsValue) (old_given new_given : Option (List DatagramValue))
    (own : List DatagramValue)
    (met : CountsValue) (result : Result (Option (ℕ × SocketAddr)) IoKind) (buf : List ℕ)
    → IsHeard old_counts old_given own met
    → new_counts ≡ after_receive result old_counts → new_given ≡ and_then old_given (received_by result buf)
    → IsHeard new_counts new_given (own ++ received_by result buf) (sum_met met (one_met result))
heard_more old_counts new_counts old_given new_given own met result buf h counts given = record {
  meets = rw counts (meets_then no_counts old_counts (after_receive result old_counts) met (one_met result) h.meets
      (meets_receive old_counts result));
  told = rw given (tells_more old_given own (received_by result buf) h.told);
  gots =
      let a : met.gots ≡ length own = h.gots in
      let b : (one_met result).gots ≡ length (received_by result buf) = got_as_many result buf in
      let c : length (own ++ received_by result buf) ≡ length own + length
      (received_by result buf) = length-append own (received_by result buf) in
      omega arith;
}

-- ---- sockets together

module _ {G : Type 0} (counts : G → CountsValue) (given : G → Option (List DatagramValue)) where
  -- one socket behind the others
  pub heard_behind : (sockets : List G) (socket : G) (came own : List DatagramValue) (met own_met : CountsValue)
      → AreHeard counts given sockets came met → IsHeard (counts socket) (given socket) own own_met
      → AreHeard counts given (sockets ++ socket ∷ []) (came ++ own) (sum_met met own_met)
  heard_behind [] socket came own met own_met h this = (
    own,
    [],
    own_met,
    no_counts,
    this,
    (refl, refl),
    ap (λ (x : List DatagramValue). x ++ own) h.0 ∙ sym (append-nil own),
    ap (λ (x : CountsValue). sum_met x own_met) h.1 ∙ sym (sum_none own_met) ∙ sum_none_last own_met,
  )
  heard_behind (first ∷ sockets) socket came own met own_met (a, rest, m, rest_met, heard, others, all, sum) this = (
    a,
    rest ++ own,
    m,
    sum_met rest_met own_met,
    heard,
    heard_behind sockets socket rest own rest_met own_met others this,
    ap (λ (x : List DatagramValue). x ++ own) all ∙ append_assoc a rest own,
    ap (λ (x : CountsValue). sum_met x own_met) sum ∙ sum_shift m rest_met own_met,
  )

  -- a turn of one socket, wherever it stands
  pub heard_turn : (sockets : List G) (at : ℕ) (old new : G) (came more : List DatagramValue) (met one : CountsValue)
      → at < length sockets → old ≡ get_or sockets at old → AreHeard counts given sockets came met
      → ((own : List DatagramValue) (own_met : CountsValue) → IsHeard (counts old) (given old) own own_met
      → IsHeard (counts new) (given new) (own ++ more) (sum_met own_met one))
      → Turned counts given (set sockets at new) more came met one
  heard_turn [] at old new came more met one inside read h step = absurd (omega arith)
  heard_turn (first ∷ sockets) zero old new came more met one inside read
      (a, rest, m, rest_met, heard, others, all, sum) step = record {
        after = (a ++ more) ++ rest;
        heard = (
          a ++ more,
          rest,
          sum_met m one,
          rest_met,
          step a m (subst (λ (s : G). IsHeard (counts s) (given s) a m) (sym read) heard),
          others,
          refl,
          ap (λ (x : CountsValue). sum_met x one) sum ∙ sum_swap m rest_met one,
        );
        joins = record { left = a; right = rest; was = all; now = append_assoc a more rest };
      }
  heard_turn (first ∷ sockets) (suc at) old new came more met one inside read
      (a, rest, m, rest_met, heard, others, all, sum) step =
      let behind = heard_turn sockets at old new rest more rest_met one (omega arith) read others step in
      record {
        after = a ++ behind.after;
        heard = (
          a,
          behind.after,
          m,
          sum_met rest_met one,
          heard,
          behind.heard,
          refl,
          ap (λ (x : CountsValue). sum_met x one) sum ∙ sum_shift m rest_met one,
        );
        joins = record {
          left = a ++ behind.joins.left;
          right = behind.joins.right;
          was = all ∙ ap (λ (x : List DatagramValue). a ++ x) behind.joins.was
              ∙ sym (append_assoc a behind.joins.left behind.joins.right);
          now = ap (λ (x : List DatagramValue). a ++ x) behind.joins.now
              ∙ sym (append_assoc a behind.joins.left (more ++ behind.joins.right));
        };
      }

  -- no datagram came
  pub turned_none : (sockets : List G) (outcome : Option (ℕ × SocketAddr)) (buf : List ℕ) (came : List DatagramValue)
      (met : CountsValue)
      → outcome ≡ None → Turned counts given sockets (received_by (Ok outcome) buf) came met
      (one_met {X = ℕ × SocketAddr} (Ok outcome))
      → Turned counts given sockets [] came met (record { faults = 0; ends = 0; gots = 0; quiet = 1 })
  turned_none sockets None buf came met h turned = turned
  turned_none sockets (Some x) buf came met h turned = absurd (cc)

  -- one came
  pub turned_some : (sockets : List G) (outcome : Option (ℕ × SocketAddr)) (buf : List ℕ) (came : List DatagramValue)
      (met : CountsValue)
      (x : ℕ × SocketAddr) → outcome ≡ Some x
      → Turned counts given sockets (received_by (Ok outcome) buf) came met (one_met {X = ℕ × SocketAddr} (Ok outcome))
      → Turned counts given sockets ((take x.0 buf, x.1) ∷ []) came met
      (record { faults = 0; ends = 0; gots = 1; quiet = 0 })
  turned_some sockets None buf came met x h turned = absurd (cc)
  turned_some sockets (Some y) buf came met x h turned =
      let e : y ≡ x = cc in
      subst (λ (z : ℕ × SocketAddr). Turned counts given sockets ((take z.0 buf, z.1) ∷ []) came met
      (record { faults = 0; ends = 0; gots = 1; quiet = 0 })) e turned

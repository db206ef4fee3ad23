-- What comes and goes at a port, one after another (RFC 1035, 4.2).
use Rattle.std.proofs.Common.{◌≡◌, ◌≤◌, ◌∙◌, ℕ, List, [], ◌∷◌, ◌++◌, length, Option, None, Some, Result, Ok, Err, refl, sym, ap, subst, append-nil, append_assoc, arith}
use Rattle.dns_model.specs.Counts.{Rose, one_more}
use Rattle.dns_handle.specs.declared.io_kind.IoKind.{IoKind}
use Rattle.dns_ports.specs.Ports.{TellsMore, ends_after, gots_after, given_by}
use Rattle.dns_seats.specs.Serving.{Moves, raised}
use Rattle.dns_seats.specs.Turns.{Goes}
use Rattle.dns_ports.specs.declared.port.Port as port
use Rattle.dns_ports.specs.declared.port.PortFault.{PortFault}
use Rattle.dns_seats.specs.declared.seat.Ended.TheVariants as ended

-- nothing more is told
tells_none : (a : Option (List (List ℕ))) → TellsMore a [] a
tells_none None = tt
tells_none (Some x) = sym (append-nil x)

pub tells_same : (a b : Option (List (List ℕ))) → b ≡ a → TellsMore a [] b
tells_same a b same = subst (λ x. TellsMore a [] x) (sym same) (tells_none a)

-- these, and then those
tells_then : (a b c : Option (List (List ℕ))) (r s : List (List ℕ)) → TellsMore a r b → TellsMore b s c
    → TellsMore a (r ++ s) c
tells_then a b None r s p q = tt
tells_then a None (Some z) r s p q = absurd q
tells_then None (Some y) (Some z) r s p q = absurd p
tells_then (Some x) (Some y) (Some z) r s p q = q ∙ (ap (λ l. l ++ s) p ∙ append_assoc x r s)

-- a count that rose by the length of one list, and then by that of another
raised_then : (r s : List (List ℕ)) (count : ℕ)
    → raised (length s) (raised (length r) count) ≡ raised (length (r ++ s)) count
unfolding raised
raised_then [] s count = refl
raised_then (x ∷ r) s count = raised_then r s (one_more count)

raised_none : (n : ℕ) → raised 0 n ≡ n
unfolding raised
raised_none n = refl

raised_one : (n : ℕ) → raised 1 n ≡ one_more n
unfolding raised
raised_one n = refl

-- what a port gave as it was to give a request
pub record GaveBy {P : Type 0} (ports : port.Ghosts P) (p q : P)
    (given : Result (Option (List ℕ)) PortFault) : Type 0 where
  pub gots : ports.gots q ≡ gots_after (ports.gots p) given
  pub ends : ports.ends q ≡ ends_after (ports.ends p) given
  pub later : ports.faults p ≤ ports.faults q
  pub received : TellsMore (ports.received p) (given_by given) (ports.received q)
  pub replied : ports.replied q ≡ ports.replied p

-- what it sent as it was to send a reply
pub record SentBy {P : Type 0} (ports : port.Ghosts P) (p q : P) (sent : List (List ℕ)) : Type 0 where
  pub gots : ports.gots q ≡ ports.gots p
  pub ends : ports.ends q ≡ ports.ends p
  pub later : ports.faults p ≤ ports.faults q
  pub received : ports.received q ≡ ports.received p
  pub replied : TellsMore (ports.replied p) sent (ports.replied q)

module _ {P : Type 0} {ports : port.Ghosts P} where
  -- nothing moves
  pub moves_none : (p q : P) → q ≡ p → Moves ports p q [] [] 0
  moves_none p q same = subst (λ x. Moves ports p x [] [] 0) (sym same) (record {
    received = tells_none (ports.received p);
    replied = tells_none (ports.replied p);
    gots = sym (raised_none (ports.gots p));
    ends_rose = sym (raised_none (ports.ends p));
    later = omega arith;
  })

  -- one after the other
  pub moves_then : {p q r : P} {rs ss ts us : List (List ℕ)} {n : ℕ} → Moves ports p q rs ss 0 → Moves ports q r ts us n
      → Moves ports p r (rs ++ ts) (ss ++ us) n
  moves_then {p} {q} {r} {rs} {ss} {ts} {us} {n} a b = record {
    received = tells_then (ports.received p) (ports.received q) (ports.received r) rs ts a.received b.received;
    replied = tells_then (ports.replied p) (ports.replied q) (ports.replied r) ss us a.replied b.replied;
    gots = b.gots ∙ (ap (raised (length ts)) a.gots ∙ raised_then rs ts (ports.gots p));
    ends_rose = b.ends_rose ∙ ap (raised n) (a.ends_rose ∙ raised_none (ports.ends p));
    later = omega (arith, a.later, b.later);
  }

  pub came_request : {p q : P} (request : List ℕ) → GaveBy ports p q (Ok (Some request))
      → Moves ports p q (request ∷ []) [] 0
  came_request {p} {q} request h = record {
    received = h.received;
    replied = tells_same (ports.replied p) (ports.replied q) h.replied;
    gots = h.gots ∙ sym (raised_one (ports.gots p));
    ends_rose = h.ends ∙ sym (raised_none (ports.ends p));
    later = h.later;
  }

  pub came_none : {p q : P} → GaveBy ports p q (Ok None) → Moves ports p q [] [] 1
  came_none {p} {q} h = record {
    received = h.received;
    replied = tells_same (ports.replied p) (ports.replied q) h.replied;
    gots = h.gots ∙ sym (raised_none (ports.gots p));
    ends_rose = h.ends ∙ sym (raised_one (ports.ends p));
    later = h.later;
  }

  pub came_fault : {p q : P} (why : PortFault) → GaveBy ports p q (Err why) → Moves ports p q [] [] 0
  came_fault {p} {q} why h = record {
    received = h.received;
    replied = tells_same (ports.replied p) (ports.replied q) h.replied;
    gots = h.gots ∙ sym (raised_none (ports.gots p));
    ends_rose = h.ends ∙ sym (raised_none (ports.ends p));
    later = h.later;
  }

  -- a reply was sent
  sent_moves : {p q : P} (sent : List (List ℕ)) → SentBy ports p q sent → Moves ports p q [] sent 0
  sent_moves {p} {q} sent h = record {
    received = tells_same (ports.received p) (ports.received q) h.received;
    replied = h.replied;
    gots = h.gots ∙ sym (raised_none (ports.gots p));
    ends_rose = h.ends ∙ sym (raised_none (ports.ends p));
    later = h.later;
  }

module _ {P : Type 0} (ports : port.Ghosts P) (p q : P) where
  pub went : (reply : Option (List ℕ)) (bytes : List ℕ) → reply ≡ Some bytes → SentBy ports p q (bytes ∷ [])
      → Goes ports p q reply (Ok tt)
  went reply bytes is h = subst (λ r. Goes ports p q r (Ok tt)) (sym is) (sent_moves (bytes ∷ []) h)

  pub unsent : (reply : Option (List ℕ)) (bytes : List ℕ) (kind : IoKind) → reply ≡ Some bytes → SentBy ports p q []
      → Rose (ports.faults p) (ports.faults q) → Goes ports p q reply (Err (ended.Port kind))
  unsent reply bytes kind is h rose =
      subst (λ r. Goes ports p q r (Err (ended.Port kind))) (sym is) (sent_moves [] h, rose)

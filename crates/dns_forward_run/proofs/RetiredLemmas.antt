-- Ports that a listener has back, one after another.
use Rattle.std.proofs.Common.{◌≡◌, ◌<◌, ◌≤◌, ◌∙◌, ◌+◌, ◌-◌, ◌^◌, ℕ, List, [], ◌∷◌, ◌++◌, map, length, refl, sym, ap, subst, arith}
use Rattle.std.specs.Prelude.{All, min}
use Rattle.std.proofs.lemmas.List.{length-map, map-append}
use Rattle.std.proofs.lemmas.List.Elements.{All-append}
use Rattle.dns_model.specs.Counts.{RoseBy}
use Rattle.dns_listener.specs.Listening.{ListenerCounts, PortCountsValue, nothing_met, with_port}
use Rattle.dns_forward_run.specs.Lines.{broken_in, closed_in, is_broken, is_closed, one_if, requests_in}
use Rattle.dns_forward_run.specs.Retired.{AreBack, AreLinesOf, AreNew, IsEnd, with_ports}
use Rattle.dns_forward_run.specs.declared.lines.SeatEnd.{SeatEnd}
use Rattle.dns_forward_run.specs.declared.lines.SeatEnd.TheVariants.{Count, Closed, Port}
use Rattle.dns_forward_run.specs.declared.lines.SeatLine.{SeatLine}

with_ports_append : (c : ListenerCounts) (ps qs : List PortCountsValue)
    → with_ports c (ps ++ qs) ≡ with_ports (with_ports c ps) qs
with_ports_append c [] qs = refl
with_ports_append c (p ∷ ps) qs = with_ports_append (with_port c p) ps qs

-- one port more
pub back_more : {X : Type 0} (f : X → PortCountsValue) (c : ListenerCounts) (xs : List X) (x : X)
    → with_ports c (map f (xs ++ x ∷ [])) ≡ with_port (with_ports c (map f xs)) (f x)
back_more f c xs x =
    ap (λ ps. with_ports c ps) (map-append f xs (x ∷ [])) ∙ with_ports_append c (map f xs) (map f (x ∷ []))

-- one new port more
pub new_more : {X : Type 0} (f : X → PortCountsValue) (xs : List X) (x : X) → AreNew (map f xs) → f x ≡ nothing_met
    → AreNew (map f (xs ++ x ∷ []))
new_more f xs x old is =
    subst AreNew (sym (map-append f xs (x ∷ [])))
    (All-append (λ p. p ≡ nothing_met) (map f xs) (map f (x ∷ [])) old (only (f x) is))
  where
    only : (p : PortCountsValue) → p ≡ nothing_met → AreNew (p ∷ [])
    only p same = λ k d short. let zero_at : k ≡ 0 = omega arith in
        subst (λ n. Rattle.std.specs.Prelude.slice_index_or (p ∷ []) n d ≡ nothing_met) (sym zero_at) same

-- seats whose ports are these
pub seated_many : {X P : Type 0} (port_of : X → P) (seats : List X) (all : List P) → map port_of seats ≡ all
    → length seats ≡ length all
seated_many port_of seats all same = sym (length-map seats port_of) ∙ ap length same

pub met_seats : {X P Y : Type 0} (port_of : X → P) (met : P → Y) (seats : List X)
    → map met (map port_of seats) ≡ map (λ s. met (port_of s)) seats
met_seats port_of met [] = refl
met_seats port_of met (s ∷ seats) = ap (λ l. met (port_of s) ∷ l) (met_seats port_of met seats)

pub seated_new : {X P : Type 0} (port_of : X → P) (met : P → PortCountsValue) (seats : List X) (all : List P)
    → map port_of seats ≡ all → AreNew (map met all) → AreNew (map (λ s. met (port_of s)) seats)
seated_new port_of met seats all same new =
    subst AreNew (met_seats port_of met seats) (subst (λ ps. AreNew (map met ps)) (sym same) new)

-- ---- what lines say together

-- a seat's port says that no more requests come exactly where the seat ended so
ends_one : (count requests : ℕ) (end : SeatEnd) (p : PortCountsValue) → IsEnd count end requests p
    → p.ends ≡ one_if (is_closed end)
ends_one count requests Count p h = h.1
ends_one count requests Closed p h = h
ends_one count requests Port p h = h.0

faults_one : (count requests : ℕ) (end : SeatEnd) (p : PortCountsValue) → IsEnd count end requests p
    → one_if (is_broken end) ≤ p.faults
faults_one count requests Count p h = omega arith
faults_one count requests Closed p h = omega arith
faults_one count requests Port p h = omega (arith, h.1)

module _ (count : ℕ) where
  requests_sum : (c : ListenerCounts) (lines : List SeatLine) (ports : List PortCountsValue)
      → AreLinesOf count lines ports → c.gots ≤ 2 ^ 64 - 1
      → (with_ports c ports).gots ≡ min (c.gots + requests_in lines) (2 ^ 64 - 1)
  requests_sum c [] [] h fits = omega arith
  requests_sum c [] (p ∷ ps) h fits = absurd h
  requests_sum c (line ∷ lines) [] h fits = absurd h
  requests_sum c (line ∷ lines) (p ∷ ps) (is, more) fits =
      omega (arith, requests_sum (with_port c p) lines ps more (omega arith), is.requests)

  closed_sum : (c : ListenerCounts) (lines : List SeatLine) (ports : List PortCountsValue)
      → AreLinesOf count lines ports → c.ends ≤ 2 ^ 64 - 1
      → (with_ports c ports).ends ≡ min (c.ends + closed_in lines) (2 ^ 64 - 1)
  closed_sum c [] [] h fits = omega arith
  closed_sum c [] (p ∷ ps) h fits = absurd h
  closed_sum c (line ∷ lines) [] h fits = absurd h
  closed_sum c (line ∷ lines) (p ∷ ps) (is, more) fits =
      omega (
        arith,
        closed_sum (with_port c p) lines ps more (omega arith),
        ends_one count line.requests line.end p is.ended,
      )

  broken_sum : (c : ListenerCounts) (lines : List SeatLine) (ports : List PortCountsValue)
      → AreLinesOf count lines ports → RoseBy (broken_in lines) c.broken (with_ports c ports).broken
  broken_sum c [] [] h = omega arith
  broken_sum c [] (p ∷ ps) h = absurd h
  broken_sum c (line ∷ lines) [] h = absurd h
  broken_sum c (line ∷ lines) (p ∷ ps) (is, more) =
      omega (
        arith,
        broken_sum (with_port c p) lines ps more,
        faults_one count line.requests line.end p is.ended,
      )

  faults_kept : (c : ListenerCounts) (ports : List PortCountsValue) → (with_ports c ports).faults ≡ c.faults
  faults_kept c [] = refl
  faults_kept c (p ∷ ps) = faults_kept (with_port c p) ps

  all_back : (lines : List SeatLine) (ports : List PortCountsValue) (old : ListenerCounts) → 0 < length lines
      → AreLinesOf count lines ports → AreBack count lines old (with_ports old ports)
  all_back [] ports old some h = absurd (omega arith)
  all_back (line ∷ lines) [] old some h = absurd h
  all_back (line ∷ lines) (p ∷ ps) old some (is, more) = record {
    ports = p ∷ ps;
    each = (is, more);
    back = refl;
    requests = omega (arith, requests_sum (with_port old p) lines ps more (omega arith), is.requests);
    closed = omega (
      arith,
      closed_sum (with_port old p) lines ps more (omega arith),
      ends_one count line.requests line.end p is.ended,
    );
    broken = broken_sum old (line ∷ lines) (p ∷ ps) (is, more);
    faults = faults_kept old (p ∷ ps);
  }

-- lines of ports that are all back
pub are_back : (count : ℕ) (lines : List SeatLine) (ports : List PortCountsValue) (old new : ListenerCounts)
    → 0 < length lines → AreLinesOf count lines ports → new ≡ with_ports old ports → AreBack count lines old new
are_back count lines ports old new some each is =
    subst (λ n. AreBack count lines old n) (sym is) (all_back count lines ports old some each)

-- What a session comes to, out of the lines of its seats, the dialer and the listener.
use Rattle.std.proofs.Common.{◌≡◌, ◌<◌, ◌∙◌, ℕ, List, [], ◌∷◌, ◌++◌, map, length, slice_index_or, Option, None, Some, Result, Ok, Err, refl, sym, ap, subst, arith}
use Rattle.std.specs.Prelude.{All, IfOk, IfSome, IsSome, Vec}
use Rattle.std.proofs.lemmas.List.Elements.{All-nil}
use Rattle.std.specs.declared.net.socket_addr.SocketAddr.{SocketAddr}
use Rattle.dns_asking.specs.Addresses.{IsSocketOf}
use Rattle.dns_handle.specs.declared.error.NetError.{NetError}
use Rattle.dns_ports.specs.declared.port.Port as port
use Rattle.dns_listener.specs.Listening.{ListenerCounts, PortCountsValue, nothing_met, with_port}
use Rattle.dns_tcp.specs.Dialing.{IsDialed, dial_to}
use Rattle.dns_forward_run.specs.Forms.{seats_of}
use Rattle.dns_forward_run.specs.Forwards.{HasReached, IsGivenBack, NetView, Unopened, Unreached, connection_timeout, met_of}
use Rattle.dns_forward_run.specs.Openings.{AreOpened}
use Rattle.dns_forward_run.specs.Retired.{AreBack, IsLineOf, IsRefused, with_refusal}
use Rattle.dns_forward_run.specs.Steps.{IsOneBack, KeepsDialer, ServesAs, ServesClients, TellsLines, WithLine}
use Rattle.dns_forward_run.specs.declared.ending.Ending.{Ending}
use Rattle.dns_forward_run.specs.declared.ending.Ending.TheVariants.{Told, Failed, NoMemory}
use Rattle.dns_forward_run.specs.declared.form.Carried.TheVariants.{Datagrams, Connections}
use Rattle.dns_forward_run.specs.declared.form.Service.{Service}
use Rattle.dns_forward_run.specs.declared.lines.SeatLine.{SeatLine}
use Rattle.dns_forward_run.proofs.LineLemmas.{as_many, lines_of}
use Rattle.dns_forward_run.proofs.RetiredLemmas.{are_back}

-- lines of so many clients
clients_told : {Z E : Type 0} (number count : ℕ) (old new : ListenerCounts) (lines : Result (Vec SeatLine Z) E)
    (ending : Ending) → TellsLines lines ending
    → IfOk lines (λ all. (length all.items ≡ number) × AreBack count all.items old new)
    → ServesClients number count old new ending
clients_told number count old new (Ok all) (Told status text) told back =
    record { lines = all.items; seats = back.0; back = back.1; ended = told.0; spelled = told.1 }
clients_told number count old new (Ok all) Failed told back = absurd told
clients_told number count old new (Ok all) NoMemory told back = tt
clients_told number count old new (Err e) (Told status text) told back = absurd told
clients_told number count old new (Err e) Failed told back = absurd told
clients_told number count old new (Err e) NoMemory told back = tt

module _ {P : Type 0} (ports : port.Ghosts P) (number count : ℕ) (old mid new : ListenerCounts) where
  -- the same of clients whose ports were opened
  pub accepted_told : {Z E : Type 0} (all : List P) (lines : Result (Vec SeatLine Z) E) (ending : Ending)
      → AreOpened ports number old mid all → TellsLines lines ending
      → IfOk lines (λ l. length l.items ≡ length all) → IfOk lines (λ l. AreBack count l.items mid new)
      → ServesClients number count old new ending
  accepted_told {Z = Z} {E = E} all (Ok l) ending opened told many back =
      clients_told {Z = Z} {E = E} number count old new (Ok l) ending told
      (many ∙ opened.number, subst (λ c. AreBack count l.items c new) opened.counts back)
  accepted_told {Z = Z} {E = E} all (Err e) ending opened told many back =
      clients_told {Z = Z} {E = E} number count old new (Err e) ending told tt

only_one : {X : Type 0} (P : X → Type 0) (x : X) → P x → All P (x ∷ [])
only_one P x h = λ k d short.
    let zero_at : k ≡ 0 = omega arith in subst (λ n. P (slice_index_or (x ∷ []) n d)) (sym zero_at) h

module _ {X : Type 0} (count : ℕ) (line_by : X → Option SeatLine) (met : X → PortCountsValue) (x : X) where
  -- the line of one seat, whose port is back
  pub one_line : {Z E : Type 0} (empty : Vec SeatLine Z) (line : Option SeatLine) (new : Result (Vec SeatLine Z) E)
      → empty.items ≡ [] → WithLine {E = E} (Ok empty) line new → line ≡ line_by x
      → IfSome (line_by x) (λ l. IsLineOf count l (met x)) → (before now : ListenerCounts)
      → now ≡ with_port before (met x) → IfOk new (λ all. IsOneBack count all.items before now)
  one_line empty line (Err e) none more is has before now back = tt
  one_line empty line (Ok all) none more is has before now back =
      let lines : map Some all.items ≡ line_by x ∷ [] =
      more ∙ (ap (λ l. map Some l ++ line ∷ []) none ∙ ap (λ l. l ∷ []) is) in
      let one : length all.items ≡ 1 = as_many line_by (x ∷ []) all.items lines in
      record {
        one = one;
        back =
            are_back count all.items (met x ∷ []) before now (omega (arith, one))
            (lines_of count line_by met (x ∷ []) all.items lines
            (only_one (λ y. IfSome (line_by y) (λ l. IsLineOf count l (met y))) x has)) back;
      }

-- a dialer that comes back with its lines
pub dialer_kept : {D Z E : Type 0} (left : Option D) (lines : Result (Vec SeatLine Z) E) (ending : Ending)
    → TellsLines lines ending → IfOk lines (λ all. IsSome left) → KeepsDialer left ending
dialer_kept (Some dial) lines ending told some = tt
dialer_kept None (Ok all) ending told some = absurd cc
dialer_kept None (Err e) (Told status text) told some = absurd told
dialer_kept None (Err e) Failed told some = absurd told
dialer_kept None (Err e) NoMemory told some = tt

module _ {D N : Type 0} (seen : NetView D N) (service : Service) (given : D) (old new : N) where
  -- ---- by datagrams

  pub one_serves : {Z E : Type 0} (left : Option D) (lines : Result (Vec SeatLine Z) E) (ending : Ending)
      → service.carried ≡ Datagrams → TellsLines lines ending
      → (mid : ListenerCounts) → mid ≡ seen.listened old
      → IfOk lines (λ all. IsOneBack service.count all.items mid (seen.listened new))
      → IfOk lines (λ all. IsSome left) → ServesAs seen service (met_of given left old new) ending
  one_serves left (Ok all) (Told status text) is told mid same back some = record {
    lines = all.items;
    seats = back.one ∙ sym (ap seats_of is);
    back = subst (λ c. AreBack service.count all.items c (seen.listened new)) same back.back;
    dialer = subst (λ c. IsGivenBack seen c service.upstream given left) (sym is) some;
    ended = told.0;
    spelled = told.1;
  }
  one_serves left (Ok all) Failed is told mid same back some = absurd told
  one_serves left (Ok all) NoMemory is told mid same back some = tt
  one_serves left (Err e) (Told status text) is told mid same back some = absurd told
  one_serves left (Err e) Failed is told mid same back some = absurd told
  one_serves left (Err e) NoMemory is told mid same back some = tt

  pub one_refused : service.carried ≡ Datagrams → seen.listened new ≡ with_refusal (seen.listened old)
      → ServesAs seen service (met_of given (Some given) old new) Failed
  one_refused is counted = Unopened (record {
    dial = given;
    left = refl;
    reached = subst (λ c. HasReached seen c service.upstream given given) (sym is) refl;
    refused = record {
      ports = [];
      fewer = subst (λ c. 0 < seats_of c) (sym is) (omega arith);
      unused = All-nil (λ p. p ≡ nothing_met);
      counted = counted;
    };
  })

  -- ---- over connections

  pub unreached : (X : Type 0) (n : ℕ) (server : SocketAddr) (dial : D) (error : NetError)
      → service.carried ≡ Connections n → IsSocketOf service.upstream server
      → IsDialed {X = X} seen.dialed seen.calls (dial_to server None connection_timeout) given dial (Err error)
      → new ≡ old → ServesAs seen service (met_of given (Some dial) old new) Failed
  unreached X n server dial error is at dialed same = Unreached (record {
    dial = dial;
    left = refl;
    kind = dialed.1;
    counted = dialed.0;
    asked = record { server = server; is = at; asked = dialed.3 };
    carried = (n, is);
    listener = same;
  })

  reached : {X : Type 0} (n : ℕ) (server : SocketAddr) (dial : D) (made : X)
      → service.carried ≡ Connections n → IsSocketOf service.upstream server
      → IsDialed seen.dialed seen.calls (dial_to server None connection_timeout) given dial (Ok made)
      → HasReached seen (Connections n) service.upstream given dial
  reached n server dial made is at dialed = (dialed.0, record { server = server; is = at; asked = dialed.1 })

  pub clients_serve : {X : Type 0} (n : ℕ) (server : SocketAddr) (dial : D) (made : X) (ending : Ending)
      → service.carried ≡ Connections n → IsSocketOf service.upstream server
      → IsDialed seen.dialed seen.calls (dial_to server None connection_timeout) given dial (Ok made)
      → ServesClients n service.count (seen.listened old) (seen.listened new) ending
      → ServesAs seen service (met_of given (Some dial) old new) ending
  clients_serve n server dial made (Told status text) is at dialed served = record {
    lines = served.lines;
    seats = served.seats ∙ sym (ap seats_of is);
    back = served.back;
    dialer = subst (λ c. IsGivenBack seen c service.upstream given (Some dial)) (sym is)
        (reached n server dial made is at dialed);
    ended = served.ended;
    spelled = served.spelled;
  }
  clients_serve n server dial made Failed is at dialed refused = Unopened (record {
    dial = dial;
    left = refl;
    reached = subst (λ c. HasReached seen c service.upstream given dial) (sym is)
        (reached n server dial made is at dialed);
    refused = subst (λ k. IsRefused k (seen.listened old) (seen.listened new)) (sym (ap seats_of is)) refused;
  })
  clients_serve n server dial made NoMemory is at dialed served = tt

-- What was met so far by a dialer and by sockets that are open.
use Rattle.std.proofs.Common.{◌≡◌, ◌+◌, inl, inr, List, [], ◌∷◌, ◌++◌, length, Option, None, Some, refl, sym, ap, ◌∙◌, append-nil, append_assoc, length-append, arith}
use Rattle.dns_link.specs.Counts.{CountsValue, no_counts, with_counts}
use Rattle.dns_link.specs.Moved.{DatagramValue, and_those}
use Rattle.dns_udp.specs.Met.{AreGiven, DialerView, HasMet, Meets, sum_met}
use Rattle.dns_udp.proofs.MetLemmas.{meets_back, meets_none, meets_then, sum_none_last, sum_shift, sum_swap}
use Rattle.dns_udp.specs.OpenSockets.{AreHeard, Holds, IsHeard, Joins, Tells, Turned}
use Rattle.dns_udp.proofs.SocketLemmas.{heard_behind}

given_nothing : (given : Option (List DatagramValue)) → AreGiven given [] given
given_nothing None = inl refl
given_nothing (Some told) = inr (ap Some (sym (append-nil told)))

-- a socket's datagrams, behind those that the dialer has
given_more : (before now : Option (List DatagramValue)) (back own : List DatagramValue)
    (given : Option (List DatagramValue))
    → AreGiven before back now → Tells given own → AreGiven before (back ++ own) (and_those now given)
given_more before now back own None h told = inl refl
given_more before None back own (Some x) h told = inl refl
given_more before (Some y) back own (Some x) (inl h) told = cc
given_more None (Some y) back own (Some x) (inr h) told = cc
given_more (Some z) (Some y) back own (Some x) (inr h) told =
    inr (ap Some (ap (λ (l : List DatagramValue). y ++ l) told
    ∙ ap (λ (l : List DatagramValue). l ++ own) (some_same y (z ++ back) h) ∙ append_assoc z back own))
  where
    some_same : (a b : List DatagramValue) → Some a ≡ Some b → a ≡ b
    some_same a b e = cc

module _ {G : Type 0} (counts : G → CountsValue) (given : G → Option (List DatagramValue)) where
  -- nothing was met
  pub holds_none : (now : DialerView) → Holds counts given now now [] [] no_counts
  holds_none now = record {
    back = [];
    waiting = [];
    back_met = no_counts;
    open_met = no_counts;
    dialed = record { counts = meets_none now.counts; given = given_nothing now.given; gots = refl };
    opened = (refl, refl);
    all = refl;
    sum = refl;
  }

  -- the dialer met something more, and no socket is given back
  pub holds_more : (before mid now : DialerView) (sockets : List G) (came : List DatagramValue) (met more : CountsValue)
      → Holds counts given before mid sockets came met → Meets mid.counts now.counts more → more.gots ≡ 0
      → now.given ≡ mid.given
      → Holds counts given before now sockets came (sum_met met more)
  holds_more before mid now sockets came met more h meets none kept = record {
    back = h.back;
    waiting = h.waiting;
    back_met = sum_met h.back_met more;
    open_met = h.open_met;
    dialed = record {
      counts = meets_then before.counts mid.counts now.counts h.back_met more h.dialed.counts meets;
      given = rw kept h.dialed.given;
      gots = let x = h.dialed.gots in omega arith;
    };
    opened = h.opened;
    all = h.all;
    sum = ap (λ (x : CountsValue). sum_met x more) h.sum ∙ sum_swap h.back_met h.open_met more;
  }

  -- a socket more, to which nothing came
  pub holds_socket : (before now : DialerView) (sockets : List G) (socket : G) (came : List DatagramValue)
      (met own : CountsValue)
      → Holds counts given before now sockets came met → IsHeard (counts socket) (given socket) [] own
      → Holds counts given before now (sockets ++ socket ∷ []) came (sum_met met own)
  holds_socket before now sockets socket came met own h heard = record {
    back = h.back;
    waiting = h.waiting ++ [];
    back_met = h.back_met;
    open_met = sum_met h.open_met own;
    dialed = h.dialed;
    opened = heard_behind counts given sockets socket h.waiting [] h.open_met own h.opened heard;
    all = h.all ∙ ap (λ (l : List DatagramValue). h.back ++ l) (sym (append-nil h.waiting));
    sum = ap (λ (x : CountsValue). sum_met x own) h.sum ∙ sum_shift h.back_met h.open_met own;
  }

  -- the dialer after a socket was given back
  pub record IsBack (mid now : DialerView) (socket : G) : Type 0 where
    pub counts_now : now.counts ≡ with_counts mid.counts (counts socket)
    pub given_now : now.given ≡ and_those mid.given (given socket)

  met_back : (before mid now : DialerView) (socket : G) (back own : List DatagramValue) (back_met own_met : CountsValue)
      → HasMet before mid back back_met → IsHeard (counts socket) (given socket) own own_met → IsBack mid now socket
      → HasMet before now (back ++ own) (sum_met back_met own_met)
  met_back before mid now socket back own back_met own_met h heard is_back = record {
    counts = rw is_back.counts_now
        (meets_back before.counts mid.counts back_met (counts socket) own_met h.counts heard.meets);
    given = rw is_back.given_now (given_more before.given mid.given back own (given socket) h.given heard.told);
    gots =
        let x = h.gots in
        let y = heard.gots in
        let z : length (back ++ own) ≡ length back + length own = length-append back own in
        omega arith;
  }

  -- a socket that isn't open and is given back at once
  pub holds_spare : (before mid now : DialerView) (sockets : List G) (socket : G) (came : List DatagramValue)
      (met own : CountsValue)
      → Holds counts given before mid sockets came met → IsHeard (counts socket) (given socket) [] own
      → IsBack mid now socket
      → Holds counts given before now sockets came (sum_met met own)
  holds_spare before mid now sockets socket came met own h heard is_back = record {
    back = h.back ++ [];
    waiting = h.waiting;
    back_met = sum_met h.back_met own;
    open_met = h.open_met;
    dialed = met_back before mid now socket h.back [] h.back_met own h.dialed heard is_back;
    opened = h.opened;
    all = h.all ∙ ap (λ (l : List DatagramValue). l ++ h.waiting) (sym (append-nil h.back));
    sum = ap (λ (x : CountsValue). sum_met x own) h.sum ∙ sum_swap h.back_met h.open_met own;
  }

  -- the first open socket is given back
  pub holds_back : (before mid now : DialerView) (socket : G) (sockets : List G) (came : List DatagramValue)
      (met : CountsValue)
      → Holds counts given before mid (socket ∷ sockets) came met → IsBack mid now socket
      → Holds counts given before now sockets came met
  holds_back before mid now socket sockets came met h is_back = by_parts h.opened
    where
      by_parts : AreHeard counts given (socket ∷ sockets) h.waiting h.open_met
          → Holds counts given before now sockets came met
      by_parts (own, rest, own_met, rest_met, heard, others, parts, sums) = record {
        back = h.back ++ own;
        waiting = rest;
        back_met = sum_met h.back_met own_met;
        open_met = rest_met;
        dialed = met_back before mid now socket h.back own h.back_met own_met h.dialed heard is_back;
        opened = others;
        all = h.all ∙ ap (λ (l : List DatagramValue). h.back ++ l) parts ∙ sym (append_assoc h.back own rest);
        sum = h.sum ∙ ap (λ (x : CountsValue). sum_met h.back_met x) sums ∙ sym (sum_shift h.back_met own_met rest_met);
      }

  -- no socket is open any more
  pub holds_end : (before now : DialerView) (came : List DatagramValue) (met : CountsValue)
      → Holds counts given before now [] came met
      → HasMet before now came met
  holds_end before now came met h =
      let came_same : came ≡ h.back = h.all ∙ ap (λ (l : List DatagramValue). h.back ++ l) (h.opened.0)
      ∙ append-nil h.back in
      let met_same : met ≡ h.back_met = h.sum ∙ ap (λ (x : CountsValue). sum_met h.back_met x) (h.opened.1) ∙ sym
      (sum_none_last h.back_met) in
      rw (came_same, met_same) h.dialed

  -- a turn of one socket
  pub record Turns (before now : DialerView) (sockets : List G) (new came : List DatagramValue)
      (met one : CountsValue) : Type 0 where
    pub after : List DatagramValue
    pub holds : Holds counts given before now sockets after (sum_met met one)
    pub joins : Joins new came after

  pub holds_turn : (before now : DialerView) (old sockets : List G) (new came : List DatagramValue)
      (met one : CountsValue)
      → Holds counts given before now old came met
      → ((waiting : List DatagramValue) (open_met : CountsValue) → AreHeard counts given old waiting open_met
      → Turned counts given sockets new waiting open_met one)
      → Turns before now sockets new came met one
  holds_turn before now old sockets new came met one h turn =
      let turned = turn h.waiting h.open_met h.opened in
      record {
        after = h.back ++ turned.after;
        holds = record {
          back = h.back;
          waiting = turned.after;
          back_met = h.back_met;
          open_met = sum_met h.open_met one;
          dialed = h.dialed;
          opened = turned.heard;
          all = refl;
          sum = ap (λ (x : CountsValue). sum_met x one) h.sum ∙ sum_shift h.back_met h.open_met one;
        };
        joins = record {
          left = h.back ++ turned.joins.left;
          right = turned.joins.right;
          was = h.all ∙ ap (λ (l : List DatagramValue). h.back ++ l) turned.joins.was ∙ sym
              (append_assoc h.back turned.joins.left turned.joins.right);
          now = ap (λ (l : List DatagramValue). h.back ++ l) turned.joins.now ∙ sym
              (append_assoc h.back turned.joins.left (new ++ turned.joins.right));
        };
      }

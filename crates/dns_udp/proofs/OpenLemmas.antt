-- A socket that is opened: made, sent on, and kept or given back.
use Rattle.std.proofs.Common.{◌≡◌, ℕ, inl, inr, List, [], Option, Result, Ok, Err, refl, subst, arith}
use Rattle.dns_handle.specs.Conversions.{outside_failed}
use Rattle.dns_handle.specs.declared.io_kind.IoKind.{IoKind}
use Rattle.dns_handle.specs.declared.error.NetError.{NetError}
use Rattle.dns_link.specs.Counts.{CountsValue, no_counts}
use Rattle.dns_link.specs.Moved.{DatagramValue, IsNew}
use Rattle.dns_udp.specs.Bindings.{IsMadeAfter, only_faults}
use Rattle.dns_udp.specs.Met.{DialerView, sum_met}
use Rattle.dns_udp.proofs.MetLemmas.{meets_end, meets_fault, sum_none_last, sum_shift}
use Rattle.dns_udp.specs.OpenSockets.{Holds, IsHeard}
use Rattle.dns_udp.specs.Waiting.{FailsBy, IsSentOn, Opens, OpensBy}
use Rattle.dns_udp.proofs.HoldLemmas.{holds_more}
use Rattle.dns_udp.proofs.SocketLemmas.{heard_new}

-- what a socket met on which the request was sent
pub record SentHeard {X : Type 0} (counts : CountsValue) (given : Option (List DatagramValue))
    (result : Result X NetError) : Type 0 where
  pub own : CountsValue
  pub heard : IsHeard counts given [] own
  pub gots : own.gots ≡ 0
  pub quiet : own.quiet ≡ 0
  pub cause : OpensBy own result

sent_heard : {X : Type 0} (new : CountsValue) (given : Option (List DatagramValue)) (result : Result X NetError)
    → IsNew no_counts given → IsSentOn no_counts new result → SentHeard new given result
sent_heard new given (Ok done) fresh sent = record {
  own = no_counts;
  heard = rw sent (heard_new no_counts given fresh);
  gots = refl;
  quiet = refl;
  cause = refl;
}
sent_heard new given (Err error) fresh (inl short) = record {
  own = record { faults = 0; ends = 1; gots = 0; quiet = 0 };
  heard = record {
    meets = rw short.1 (meets_end no_counts);
    told = (heard_new no_counts given fresh).told;
    gots = refl;
  };
  gots = refl;
  quiet = refl;
  cause = inr (inl (short.0, omega arith));
}
sent_heard new given (Err error) fresh (inr fault) = record {
  own = only_faults 1;
  heard = record {
    meets = rw fault.2 (meets_fault no_counts);
    told = (heard_new no_counts given fresh).told;
    gots = refl;
  };
  gots = refl;
  quiet = refl;
  cause = inr (inr (fault.0, fault.1, omega arith, refl));
}

pub heard_sent : {X : Type 0} (old new : CountsValue) (old_given new_given : Option (List DatagramValue))
    (result : Result X NetError) → IsNew old old_given → IsSentOn old new result → new_given ≡ old_given
    → SentHeard new new_given result
heard_sent old new old_given new_given result fresh sent kept =
    let start : IsNew no_counts old_given = subst (λ (c : CountsValue). IsNew c old_given) fresh.uncounted fresh in
    let first : IsSentOn no_counts new result = subst
    (λ (c : CountsValue). IsSentOn c new result) fresh.uncounted sent in
    rw kept (sent_heard new old_given result start first)

fails_more : (own : CountsValue) (refused : ℕ) (error : NetError) → FailsBy own error
    → FailsBy (sum_met (only_faults refused) own) error
fails_more own refused error (inl none) = inl none
fails_more own refused error (inr (inl short)) = inr (inl (short.0, (let x = short.1 in omega arith)))
fails_more own refused error (inr (inr fault)) =
    inr (inr (fault.0, fault.1, (let x = fault.2 in omega arith), (let x = fault.3 in omega arith)))

opens_more : {X : Type 0} (own : CountsValue) (refused : ℕ) (result : Result X NetError) → OpensBy own result
    → OpensBy (sum_met (only_faults refused) own) result
opens_more own refused (Ok done) whole = omega arith
opens_more own refused (Err error) fails = fails_more own refused error fails

module _ {G X : Type 0} (counts : G → CountsValue) (given : G → Option (List DatagramValue)) where
  -- no socket was made
  pub not_bound : (before mid now : DialerView) (sockets : List G) (came : List DatagramValue) (met : CountsValue)
      (kind : IoKind) (error : NetError) (refused : ℕ) → Holds counts given before mid sockets came met
      → IsMadeAfter counts given mid now refused (Err kind)
      → error ≡ outside_failed kind → Opens {X = X} counts given before now sockets came met (Err error)
  not_bound before mid now sockets came met kind error refused held made same = record {
    more = only_faults refused;
    holds = holds_more counts given before mid now sockets came met (only_faults refused) held made.met refl made.kept;
    gots = refl;
    quiet = refl;
    cause = inr (inr (kind, same, made.failed, refl));
  }

module _ {G X : Type 0} (counts : G → CountsValue) (given : G → Option (List DatagramValue))
    (before mid made_at now : DialerView) (old sockets : List G) (socket : G) (came : List DatagramValue)
    (met : CountsValue) where
  -- a socket was made, sent on, and kept or given back
  pub made_and_sent : (refused : ℕ) (new_counts : CountsValue) (new_given : Option (List DatagramValue))
      (result reply : Result X NetError)
      → Holds counts given before mid old came met → IsMadeAfter counts given mid made_at refused (Ok socket)
      → (sent : SentHeard new_counts new_given result)
      → ((own_met : CountsValue) (own : CountsValue) → Holds counts given before made_at old came own_met
      → IsHeard new_counts new_given [] own → Holds counts given before now sockets came (sum_met own_met own))
      → (OpensBy sent.own result → OpensBy sent.own reply)
      → Opens counts given before now sockets came met reply
  made_and_sent refused new_counts new_given result reply held made sent kept same =
      let start = holds_more counts given before mid made_at old came met (only_faults refused) held made.met refl
      made.kept in
      let all : Holds counts given before now sockets came (sum_met (sum_met met (only_faults refused)) sent.own) =
      kept (sum_met met (only_faults refused)) sent.own start sent.heard in
      record {
        more = sum_met (only_faults refused) sent.own;
        holds = subst (λ (m : CountsValue). Holds counts given before now sockets came m)
            (sum_shift met (only_faults refused) sent.own) all;
        gots = let x = sent.gots in omega arith;
        quiet = let x = sent.quiet in omega arith;
        cause = opens_more sent.own refused reply (same sent.cause);
      }

module _ {G X : Type 0} (counts : G → CountsValue) (given : G → Option (List DatagramValue)) where
  -- one more was opened behind others, or not
  pub opens_then : (before mid now : DialerView) (old sockets : List G) (came : List DatagramValue)
      (met : CountsValue) (reply : Result X NetError)
      → (first : Opens {X = Unit {0}} counts given before mid old came met (Ok tt))
      → Opens counts given before now sockets came (sum_met met first.more) reply
      → Opens counts given before now sockets came met reply
  opens_then before mid now old sockets came met reply first second = record {
    more = sum_met first.more second.more;
    holds = subst (λ (m : CountsValue). Holds counts given before now sockets came m)
        (sum_shift met first.more second.more) second.holds;
    gots = let x = first.gots in let y = second.gots in omega arith;
    quiet = let x = first.quiet in let y = second.quiet in omega arith;
    cause = cause_then reply second.cause;
  }
    where
      fails_then : (error : NetError) → FailsBy second.more error → FailsBy (sum_met first.more second.more) error
      fails_then error (inl none) = inl none
      fails_then error (inr (inl short)) = inr (inl (short.0, (let x = short.1 in omega arith)))
      fails_then error (inr (inr fault)) =
          inr (inr (
            fault.0,
            fault.1,
            (let x = fault.2 in omega arith),
            (let x = fault.3 in let y = first.cause in omega arith),
          ))

      cause_then : (r : Result X NetError) → OpensBy second.more r → OpensBy (sum_met first.more second.more) r
      cause_then (Ok done) whole = let y = first.cause in omega arith
      cause_then (Err error) fails = fails_then error fails

module _ {G : Type 0} (counts : G → CountsValue) (given : G → Option (List DatagramValue)) where
  -- none was opened: there are enough
  pub opens_none : (before now : DialerView) (sockets : List G) (came : List DatagramValue) (met : CountsValue)
      → Holds counts given before now sockets came met
      → Opens {X = Unit {0}} counts given before now sockets came met (Ok tt)
  opens_none before now sockets came met held = record {
    more = no_counts;
    holds = subst (λ (m : CountsValue). Holds counts given before now sockets came m) (sum_none_last met) held;
    gots = refl;
    quiet = refl;
    cause = refl;
  }

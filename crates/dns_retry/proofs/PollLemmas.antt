-- What all polls of a send may come to, by what one of them does.
use Rattle.std.proofs.Common.{ℕ, ◌≡◌, Bool, true, false, [], ◌∷◌}
use Rattle.dns_handle.specs.Errors.{Reply}
use Rattle.dns_handle.specs.declared.handle.DnsHandle as handle
use Rattle.dns_retry.specs.Retries.{is_due, left_after, busy_after, MaySend}
use Rattle.dns_retry.specs.RetryHandles.{inner_of}
use Rattle.dns_retry.specs.RetrySends.{SendState, OneSend, MayEnd, MayAnswerBy}
use Rattle.dns_retry.specs.declared.retry_handle.RetryDnsHandle.{RetryDnsHandle}
use Rattle.dns_retry.proofs.RetryLemmas.{follows_after, follows_now}

module _ {H : Type 0} (meanings : handle.Ghosts H) where
  end_by : (done : Bool) (s : SendState H) (reply : Reply) → done ≡ false → MayAnswerBy done meanings s reply → MayEnd meanings s reply
  end_by true s reply running may = cc
  end_by false s reply running may = may

  by_end : (done : Bool) (s : SendState H) (reply : Reply) → done ≡ false → MayEnd meanings s reply → MayAnswerBy done meanings s reply
  by_end true s reply running may = cc
  by_end false s reply running may = may

  -- what may be answered after a send after which another one is due may be answered from before it
  pub may_more : (old : SendState H) (retry : RetryDnsHandle H) (left busy : ℕ) (r : Reply) (reply : Reply) → old.is_done ≡ false
      → MaySend (OneSend meanings old) (inner_of old.retry) r (inner_of retry)
      → is_due old.left old.busy r ≡ true → left ≡ left_after old.left r → busy ≡ busy_after old.busy r
      → MayAnswerBy old.is_done meanings (record old { retry = retry; left = left; busy = busy }) reply
      → MayAnswerBy old.is_done meanings old reply
  may_more old retry left busy r reply running sent due lefts busies may =
      let new = record old { retry = retry; left = left; busy = busy } in
      let ends : MayEnd meanings new reply = end_by old.is_done new reply running may in
      by_end old.is_done old reply running (record {
        again = r ∷ ends.again;
        new = ends.new;
        follows = follows_after (OneSend meanings old) old.left old.busy left busy (inner_of old.retry) (inner_of retry) r ends.again
            ends.new reply sent due lefts busies ends.follows;
      })

  -- the reply of a send after which none is due may be answered
  pub may_now : (old : SendState H) (new : H) (reply : Reply) → old.is_done ≡ false
      → MaySend (OneSend meanings old) (inner_of old.retry) reply new → is_due old.left old.busy reply ≡ false
      → MayAnswerBy old.is_done meanings old reply
  may_now old new reply running sent over = by_end old.is_done old reply running (record {
    again = [];
    new = new;
    follows = follows_now (OneSend meanings old) old.left old.busy (inner_of old.retry) new reply sent over;
  })

-- Sends of one call put together: none yet, one more, and the end.
use Rattle.std.proofs.Common.{ℕ, ◌≡◌, ◌∙◌, ◌+◌, ◌-◌, inl, inr, Bool, true, false, List, [], ◌∷◌, refl, sym, ap, arith, if◌then◌else◌, cond}
use Rattle.std.specs.Prelude.{not, nat_lt, Err}
use Rattle.std.proofs.Math.Bool.{and-false}
use Rattle.std.proofs.lemmas.List.Sums.{sum_by-cons}
use Rattle.dns_handle.specs.Errors as seen
use Rattle.dns_handle.specs.Errors.{Reply}
use Rattle.dns_retry.specs.Retries.{is_busy, is_due, left_after, busy_after, cost, times_busy, MaySend, Tried, IsRetried}
use Rattle.dns_retry.specs.RetrySends.{Follows}

-- ---- counts

cost_more : (reply : Reply) (before : List Reply) → cost (reply ∷ before) ≡ cond (not (is_busy reply)) 1 0 + cost before
cost_more reply before = sum_by-cons (λ r. cond (not (is_busy r)) 1 0) reply before

times_more : (reply : Reply) (before : List Reply) → times_busy (reply ∷ before) ≡ cond (is_busy reply) 1 0 + times_busy before
times_more reply before = sum_by-cons (λ r. cond (is_busy r) 1 0) reply before

left_by : (busy : Bool) (attempts left spent : ℕ) → left ≡ attempts - spent
    → (if busy then left else left - 1) ≡ attempts - (cond (not busy) 1 0 + spent)
left_by true attempts left spent h = omega (arith, h)
left_by false attempts left spent h = omega (arith, h)

busy_by : (busy : Bool) (count : ℕ) → (if busy then count + 1 else count) ≡ cond busy 1 0 + count
busy_by true count = omega arith
busy_by false count = omega arith

left_more : (attempts left : ℕ) (reply : Reply) (before : List Reply) → left ≡ attempts - cost before
    → left_after left reply ≡ attempts - cost (reply ∷ before)
left_more attempts left reply before h =
    left_by (is_busy reply) attempts left (cost before) h ∙ ap (λ n. attempts - n) (sym (cost_more reply before))

busy_more : (busy : ℕ) (reply : Reply) (before : List Reply) → busy ≡ times_busy before
    → busy_after busy reply ≡ times_busy (reply ∷ before)
busy_more busy reply before h =
    ap (λ n. busy_after n reply) h ∙ busy_by (is_busy reply) (times_busy before) ∙ sym (times_more reply before)

-- ---- sends

-- want of memory is answered at once
memory_over : (left busy : ℕ) → is_due left busy (Err seen.NoMemory) ≡ false
memory_over left busy = and-false (nat_lt 0 left)

-- where another send is due, the one before it was made
pub due_sent : {H : Type 0} (one : H → Reply → H → Type 0) (old new : H) (reply : Reply) (left busy : ℕ)
    → MaySend one old reply new → is_due left busy reply ≡ true → one old reply new
due_sent one old new reply left busy (inl sent) due = sent
due_sent one old new reply left busy (inr none) due =
    let over : is_due left busy reply ≡ false = ap (is_due left busy) none.0 ∙ memory_over left busy in
    let both : true ≡ false = sym due ∙ over in
    cc

-- the sends so far of a call, with what they left of the attempts
pub record Trying {H : Type 0} (one : H → Reply → H → Type 0) (attempts : ℕ) (from to : H) (left busy : ℕ) : Type 0 where
  pub again : List Reply
  pub tried : Tried one attempts from again to
  pub left_is : left ≡ attempts - cost again
  pub busy_is : busy ≡ times_busy again

pub no_try : {H : Type 0} (one : H → Reply → H → Type 0) (attempts : ℕ) (h : H) → Trying one attempts h h attempts 0
unfolding Tried
no_try one attempts h = record { again = []; tried = refl; left_is = omega arith; busy_is = refl }

pub try_more : {H : Type 0} (one : H → Reply → H → Type 0) (attempts : ℕ) (from mid to : H) (left busy next_left next_busy : ℕ)
    (reply : Reply) → Trying one attempts from mid left busy → MaySend one mid reply to → is_due left busy reply ≡ true
    → next_left ≡ left_after left reply → next_busy ≡ busy_after busy reply → Trying one attempts from to next_left next_busy
unfolding Tried
try_more one attempts from mid to left busy next_left next_busy reply trying sent due lefts busies = record {
  again = reply ∷ trying.again;
  tried = (
    mid,
    trying.tried,
    due_sent one mid to reply left busy sent due,
    ap (λ n. is_due n (times_busy trying.again) reply) (sym trying.left_is) ∙ ap (λ n. is_due left n reply) (sym trying.busy_is) ∙ due,
  );
  left_is = lefts ∙ left_more attempts left reply trying.again trying.left_is;
  busy_is = busies ∙ busy_more busy reply trying.again trying.busy_is;
}

pub try_over : {H : Type 0} (one : H → Reply → H → Type 0) (attempts : ℕ) (from last new : H) (left busy : ℕ) (reply : Reply)
    → Trying one attempts from last left busy → MaySend one last reply new → is_due left busy reply ≡ false
    → IsRetried one attempts from new reply
try_over one attempts from last new left busy reply trying sent over = record {
  again = trying.again;
  last = last;
  tried = trying.tried;
  sent = sent;
  over = ap (λ n. is_due n (times_busy trying.again) reply) (sym trying.left_is) ∙ ap (λ n. is_due left n reply) (sym trying.busy_is)
      ∙ over;
}

-- ---- what is known of each send is known of all

module _ {H : Type 0} (one two : H → Reply → H → Type 0) (known : (a : H) (reply : Reply) (b : H) → one a reply b → two a reply b) where
  tried_known : (attempts : ℕ) (from : H) (again : List Reply) (to : H) → Tried one attempts from again to
      → Tried two attempts from again to
  unfolding Tried
  tried_known attempts from [] to tried = tried
  tried_known attempts from (reply ∷ before) to tried =
      (tried.0, tried_known attempts from before tried.0 tried.1, known tried.0 reply to tried.2, tried.3)

  send_known : (old : H) (reply : Reply) (new : H) → MaySend one old reply new → MaySend two old reply new
  send_known old reply new (inl sent) = inl (known old reply new sent)
  send_known old reply new (inr none) = inr none

  pub retried_known : (attempts : ℕ) (old new : H) (reply : Reply) → IsRetried one attempts old new reply
      → IsRetried two attempts old new reply
  retried_known attempts old new reply retried = record {
    again = retried.again;
    last = retried.last;
    tried = tried_known attempts old retried.again retried.last retried.tried;
    sent = send_known retried.last reply new retried.sent;
    over = retried.over;
  }

-- ---- sends in their order

-- what follows on the sends so far is a call
pub follows_retried : {H : Type 0} (one : H → Reply → H → Type 0) (attempts : ℕ) (from : H) (left busy : ℕ) (mid : H)
    (rest : List Reply) (new : H) (reply : Reply) → Trying one attempts from mid left busy
    → Follows one left busy mid rest new reply → IsRetried one attempts from new reply
unfolding Follows
follows_retried one attempts from left busy mid [] new reply trying follows =
    try_over one attempts from mid new left busy reply trying follows.0 follows.1
follows_retried one attempts from left busy mid (r ∷ rest) new reply trying follows =
    follows_retried one attempts from (left_after left r) (busy_after busy r) follows.0 rest new reply
    (try_more one attempts from mid follows.0 left busy (left_after left r) (busy_after busy r) r trying (inl follows.1)
    follows.2 refl refl)
    follows.3

-- ---- polls

module _ {H : Type 0} (one : H → Reply → H → Type 0) where
  -- what may follow a send after which another one is due may follow from before it
  pub follows_after : (left busy next_left next_busy : ℕ) (old mid : H) (r : Reply) (rest : List Reply) (new : H) (reply : Reply)
      → MaySend one old r mid → is_due left busy r ≡ true → next_left ≡ left_after left r → next_busy ≡ busy_after busy r
      → Follows one next_left next_busy mid rest new reply → Follows one left busy old (r ∷ rest) new reply
  unfolding Follows
  follows_after left busy next_left next_busy old mid r rest new reply sent due lefts busies follows =
      (mid, due_sent one old mid r left busy sent due, due, rw (sym lefts, sym busies) follows)

  -- a send after which none is due is what follows
  pub follows_now : (left busy : ℕ) (old new : H) (reply : Reply)
      → MaySend one old reply new → is_due left busy reply ≡ false → Follows one left busy old [] new reply
  unfolding Follows
  follows_now left busy old new reply sent over = (sent, over)

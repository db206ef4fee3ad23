-- A send in the machine: how it is answered, and what it leaves.
use Rattle.std.proofs.Common.{inl, inr, ◌≡◌, ℕ, suc, ◌≤◌, ◌<◌, Bool, true, false, List, [], ◌∷◌, ◌++◌, length, drop, Option, None, Some, Result, Ok, Err, refl, sym, ap, ◌∙◌, arith, append-nil, ◌⊎◌}
use Rattle.std.specs.Prelude.{nat_lt, nat_le, is_ok, slice_set, IsSome, if◌then◌else◌}
use Rattle.std.proofs.lemmas.Bool.{false≢true}
use Rattle.std.proofs.lemmas.Bool.Decides.{nat_tests}
use Rattle.dns_model.specs.Records.{MessageValue}
use Rattle.dns_message.specs.WrittenAs.{encoded, written}
use Rattle.dns_message.specs.declared.encode_error.EncodeError.{EncodeError}
use Rattle.dns_message.specs.declared.encode_error.EncodeError.TheVariants as encoding
use Rattle.dns_handle.specs.Errors as seen
use Rattle.dns_handle.specs.Errors.{ErrorValue, Busy, Message, Proto}
use Rattle.dns_handle.specs.declared.error.ProtoError.TheVariants.{TooLong}
use Rattle.dns_handle.specs.declared.notice.Notice.TheVariants.{IdSpaceExhausted, SendQueueFull}
use Rattle.dns_multiplexer.specs.Messages.{SerialMessageValue}
use Rattle.dns_multiplexer.specs.Events.{Send, last_drawn}
use Rattle.dns_multiplexer.specs.History.{put_out}
use Rattle.dns_multiplexer.specs.Machine.{Settings, Request, State, after, are_drawn, is_busy, is_taken_id, most_draws, sent_under}
use Rattle.dns_multiplexer.specs.Draws.{Drawn, IsEncoded, IsFreeDraw, IsLastFree, IsPlaced, IsSend, Plays}

abbrev encoded_as : List ℕ → Result (List ℕ) EncodeError
encoded_as bytes = Ok bytes

-- ---- bytes under an id

pub set_id : (bytes : List ℕ) (a b : ℕ) → 2 ≤ length bytes → slice_set (slice_set bytes 0 a) 1 b ≡ a ∷ b ∷ drop 2 bytes
set_id [] a b long = absurd (omega (arith, long))
set_id (x ∷ []) a b long = absurd (omega (arith, long))
set_id (x ∷ y ∷ rest) a b long = refl

written-long : (m : MessageValue) → 2 ≤ length (written m)
unfolding written
written-long m = omega arith

long-case : (m : MessageValue) (bytes : List ℕ) (b : Bool)
    → (if b then Ok (written m) else Err encoding.TooLong) ≡ Ok bytes → 2 ≤ length bytes
long-case m bytes true is = rw (sym (bytes-inj (written m) bytes is)) (written-long m)
  where
    bytes-inj : (xs ys : List ℕ) → encoded_as xs ≡ encoded_as ys → xs ≡ ys
    bytes-inj xs ys h = cc
long-case m bytes false is = cc

-- a message has two bytes and more
pub encoded_long : (m : MessageValue) (bytes : List ℕ) → encoded m ≡ Ok bytes → 2 ≤ length bytes
unfolding encoded
encoded_long m bytes is = long-case m bytes (nat_le (length (written m)) 65535) is

short-case : (m : MessageValue) (bytes : List ℕ) (b : Bool) → nat_le (length (written m)) 65535 ≡ b
    → (if b then Ok (written m) else Err encoding.TooLong) ≡ Ok bytes → length bytes ≤ 65535
short-case m bytes true fits is =
    let same : written m ≡ bytes = bytes-inj (written m) bytes is in
    let short : length (written m) ≤ 65535 = grind (arith, nat_tests) in
    omega (arith, short, ap (λ (xs : List ℕ). length xs) same)
  where
    bytes-inj : (xs ys : List ℕ) → encoded_as xs ≡ encoded_as ys → xs ≡ ys
    bytes-inj xs ys h = cc
short-case m bytes false fits is = cc

-- and 65,535 at most
pub encoded_short : (m : MessageValue) (bytes : List ℕ) → encoded m ≡ Ok bytes → length bytes ≤ 65535
unfolding encoded
encoded_short m bytes is = short-case m bytes (nat_le (length (written m)) 65535) refl is

-- ---- a request under an id

-- nothing is put out where nothing was taken
unput : (request : Option (List ℕ)) (moment : ℕ) (drawn : List ℕ) (settings : Settings)
    (reply : Result ℕ ErrorValue) → put_out settings.server (Send request moment drawn false reply) ≡ []
unput None moment drawn settings reply = refl
unput (Some bytes) moment drawn settings reply = refl

-- a refusal leaves the state
pub refused_state : (settings : Settings) (old : State) (request : Option (List ℕ)) (moment : ℕ) (drawn : List ℕ)
    (error : ErrorValue)
    → old ≡ after settings old (Send request moment drawn false (Err error))
refused_state settings old request moment drawn error =
    ap (λ queue. record { requests = old.requests; outbound = queue })
    (sym (append-nil old.outbound) ∙ ap (λ xs. old.outbound ++ xs) (sym (unput request moment drawn settings (Err error))))

pub placed_none : (settings : Settings) (old : State) (id : ℕ) (request : Option (List ℕ)) (moment : ℕ)
    → IsPlaced settings old old id request moment (Err seen.NoMemory)
placed_none settings old id request moment = inl (refl, refl)

pub placed_long : (settings : Settings) (old : State) (id : ℕ) (request : Option (List ℕ)) (moment : ℕ)
    → request ≡ None → IsPlaced settings old old id request moment (Err (Proto TooLong))
placed_long settings old id None moment long = inr
    (refl, refused_state settings old None moment (id ∷ []) (Proto TooLong))
placed_long settings old id (Some bytes) moment long = cc

pub placed_full : (settings : Settings) (old : State) (id : ℕ) (request : Option (List ℕ)) (moment : ℕ)
    (bytes : List ℕ) → IsEncoded id request (Ok bytes)
    → nat_lt settings.buffer (length old.outbound) ≡ true
    → IsPlaced settings old old id request moment (Err (Message SendQueueFull))
placed_full settings old id None moment bytes is full = absurd is
placed_full settings old id (Some own) moment bytes is full =
    inr (rw full refl, refused_state settings old (Some own) moment (id ∷ []) (Message SendQueueFull))

pub placed_sent : (settings : Settings) (old : State) (id : ℕ) (request : Option (List ℕ)) (moment : ℕ)
    (bytes : List ℕ) (queue : List SerialMessageValue) (requests : List Request) (number : ℕ)
    → IsEncoded id request (Ok bytes) → nat_lt settings.buffer (length old.outbound) ≡ false
    → queue ≡ old.outbound ++ record { bytes = bytes; addr = settings.server } ∷ []
    → number ≡ length old.requests → requests ≡ old.requests ++ sent_under id moment ∷ []
    → IsPlaced settings old (record { requests = requests; outbound = queue }) id request moment (Ok number)
unfolding last_drawn
placed_sent settings old id None moment bytes queue requests number is room put next one_more = absurd is
placed_sent settings old id (Some own) moment bytes queue requests number is room put next one_more =
    inr (rw (room, next) refl, rw (put, one_more, is) refl)

-- ---- a whole send

pub sent_busy : (settings : Settings) (old : State) (request : Option (List ℕ)) (moment : ℕ)
    → is_busy settings old ≡ true
    → Plays settings old old (Send request moment [] false (Err Busy))
sent_busy settings old request moment busy = record {
  answered = (rw busy refl, refl, rw busy refl);
  moved = refused_state settings old request moment [] Busy;
}

exhausted-case : (settings : Settings) (old : State) (request : Option (List ℕ)) (moment : ℕ) (drawn : List ℕ)
    → is_busy settings old ≡ false
    → are_drawn most_draws (is_taken_id old.requests) drawn ≡ true → is_taken_id old.requests (last_drawn drawn) ≡ true
    → Plays settings old old (Send request moment drawn false (Err (Message IdSpaceExhausted)))
exhausted-case settings old request moment drawn idle fits taken = record {
  answered = (rw (idle, fits) refl, refl, rw (idle, taken) refl);
  moved = refused_state settings old request moment drawn (Message IdSpaceExhausted);
}

pub sent_exhausted : {R : Type 0} (draw : R → ℕ → R → Type 0) (from to : R) (settings : Settings) (old : State)
    (request : Option (List ℕ)) (moment : ℕ) → is_busy settings old ≡ false
    → IsFreeDraw draw from to most_draws (is_taken_id old.requests) None
    → IsSend (λ ids. Drawn draw from ids to) settings old old request moment (Err (Message IdSpaceExhausted))
unfolding are_drawn
sent_exhausted draw from to settings old request moment idle free = record {
  drawn = free.drawn;
  walked = free.walked;
  played = inr (exhausted-case settings old request moment free.drawn idle free.fits (was-taken free.drawn free.fits free.last));
}
  where
    was-taken : (drawn : List ℕ) → are_drawn most_draws (is_taken_id old.requests) drawn ≡ true
        → (drawn ≡ []) ⊎ (is_taken_id old.requests (last_drawn drawn) ≡ true)
        → is_taken_id old.requests (last_drawn drawn) ≡ true
    was-taken drawn fits (inr taken) = taken
    was-taken [] fits (inl empty) = cc
    was-taken (id ∷ rest) fits (inl empty) = cc

-- where a request is put, only the last id counts
placed-case : (settings : Settings) (old new : State) (request : Option (List ℕ)) (moment id : ℕ)
    (drawn : List ℕ) (reply : Result ℕ ErrorValue) → is_busy settings old ≡ false
    → are_drawn most_draws (is_taken_id old.requests) drawn ≡ true → last_drawn drawn ≡ id
    → is_taken_id old.requests id ≡ false → IsPlaced settings old new id request moment reply
    → ((reply ≡ Err seen.NoMemory) × (new ≡ old)) ⊎ Plays settings old new
    (Send request moment drawn (is_ok reply) reply)
unfolding last_drawn
placed-case settings old new request moment id drawn reply idle fits last free (inl want) = inl want
placed-case settings old new request moment id drawn reply idle fits last free (inr placed) = inr (record {
  answered = (rw (idle, fits) refl, refl, placed.0 ∙ rw (idle, last, free) refl);
  moved = placed.1 ∙ same-last request (is_ok reply) reply;
})
  where
    same-last : (r : Option (List ℕ)) (took : Bool) (answer : Result ℕ ErrorValue)
        → after settings old (Send r moment (id ∷ []) took answer) ≡ after settings old
        (Send r moment drawn took answer)
    same-last None took (Ok n) = rw last refl
    same-last None took (Err e) = refl
    same-last (Some own) true (Ok n) = rw last refl
    same-last (Some own) true (Err e) = rw last refl
    same-last (Some own) false (Ok n) = rw last refl
    same-last (Some own) false (Err e) = refl

pub sent_placed : {R : Type 0} (draw : R → ℕ → R → Type 0) (from to : R) (settings : Settings) (old new : State)
    (request : Option (List ℕ)) (moment id : ℕ) (reply : Result ℕ ErrorValue)
    → is_busy settings old ≡ false → IsFreeDraw draw from to most_draws (is_taken_id old.requests) (Some id)
    → IsPlaced settings old new id request moment reply
    → IsSend (λ ids. Drawn draw from ids to) settings old new request moment reply
sent_placed draw from to settings old new request moment id reply idle free placed = record {
  drawn = free.drawn;
  walked = free.walked;
  played = placed-case settings old new request moment id free.drawn reply idle free.fits free.last.0 free.last.1
      placed;
}

-- ---- draws

pub no_draw : {R : Type 0} (draw : R → ℕ → R → Type 0) (from : R) (is_taken : ℕ → Bool)
    → IsFreeDraw draw from from 0 is_taken None
unfolding are_drawn
no_draw draw from is_taken = record
    { drawn = []; walked = refl; fits = refl; last = inl refl; some = λ found. absurd (false≢true found) }

pub free_draw : {R : Type 0} (draw : R → ℕ → R → Type 0) (from to : R) (left id : ℕ) (is_taken : ℕ → Bool)
    → draw from id to → is_taken id ≡ false
    → IsFreeDraw draw from to (suc left) is_taken (Some id)
unfolding are_drawn last_drawn
free_draw draw from to left id is_taken drew free = record
    { drawn = id ∷ []; walked = (to, drew, refl); fits = rw free refl; last = (refl, free); some = λ found. omega arith }

more-fits : (left id : ℕ) (is_taken : ℕ → Bool) (rest : List ℕ) → is_taken id ≡ true
    → are_drawn left is_taken rest ≡ true → are_drawn (suc left) is_taken (id ∷ rest) ≡ true
unfolding are_drawn
more-fits left id is_taken [] taken fits = rw taken fits
more-fits left id is_taken (next ∷ rest) taken fits = rw taken fits

more-last : (id : ℕ) (is_taken : ℕ → Bool) (rest : List ℕ) (found : Option ℕ) → is_taken id ≡ true
    → (IsSome found → 0 < length rest) → IsLastFree is_taken rest found → IsLastFree is_taken (id ∷ rest) found
unfolding last_drawn
more-last id is_taken [] None taken long last = inr taken
more-last id is_taken (next ∷ rest) None taken long (inl empty) = cc
more-last id is_taken (next ∷ rest) None taken long (inr more) = inr more
more-last id is_taken [] (Some found) taken long last = absurd (omega (arith, long refl))
more-last id is_taken (next ∷ rest) (Some found) taken long last = last

pub more_draw : {R : Type 0} (draw : R → ℕ → R → Type 0) (from mid to : R) (left id : ℕ) (is_taken : ℕ → Bool)
    (found : Option ℕ) → draw from id mid → is_taken id ≡ true
    → IsFreeDraw draw mid to left is_taken found → IsFreeDraw draw from to (suc left) is_taken found
more_draw draw from mid to left id is_taken found drew taken free = record {
  drawn = id ∷ free.drawn;
  walked = (mid, drew, free.walked);
  fits = more-fits left id is_taken free.drawn taken free.fits;
  last = more-last id is_taken free.drawn found taken free.some free.last;
  some = λ found. omega arith;
}

pub free_draw_at : {R : Type 0} (draw : R → ℕ → R → Type 0) (from to : R) (left below id : ℕ)
    (is_taken : ℕ → Bool) → left ≡ suc below → draw from id to → is_taken id ≡ false
    → IsFreeDraw draw from to left is_taken (Some id)
free_draw_at draw from to left below id is_taken is drew free = rw is
    (free_draw draw from to below id is_taken drew free)

pub more_draw_at : {R : Type 0} (draw : R → ℕ → R → Type 0) (from mid to : R) (left below id : ℕ)
    (is_taken : ℕ → Bool) (found : Option ℕ) → left ≡ suc below → draw from id mid
    → is_taken id ≡ true → IsFreeDraw draw mid to below is_taken found → IsFreeDraw draw from to left is_taken found
more_draw_at draw from mid to left below id is_taken found is drew taken free = rw is
    (more_draw draw from mid to below id is_taken found drew taken free)

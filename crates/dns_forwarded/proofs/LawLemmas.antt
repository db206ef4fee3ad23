-- What follows for each reply.
use Rattle.std.proofs.Common.{◌≡◌, ℕ, ◌+◌, ◌*◌, ◌/◌, ◌%◌, ◌≤◌, ◌<◌, Bool, true, false, ◌&&◌, ◌||◌, cond, List, [], ◌∷◌, Result, Ok, Err, refl, sym, ap, ◌∙◌, subst, arith}
use Rattle.std.specs.Prelude.{not, nat_le, length, IfSome}
use Rattle.std.specs.List.{filter, list_any}
use Rattle.std.proofs.lemmas.Bool.{and_parts, or_parts}
use Rattle.dns_model.proofs.EachLemmas.{each_filter, none_passes}
use Rattle.dns_model.specs.Told.{Told}
use Rattle.dns_model.specs.Records.{Rr, Question, MessageValue}
use Rattle.dns_model.specs.SoundAnswers.{ResponseValue}
use Rattle.dns_message.specs.WrittenAs.{written, flag_bit, flags_of}
use Rattle.dns_message.proofs.RecordWriting.{do_flag, number_small}
use Rattle.dns_handle.specs.declared.protocol.Protocol.{Protocol}
use Rattle.dns_handle.specs.declared.protocol.Protocol.TheVariants.{Udp, Tcp}
use Rattle.dns_forwarded.specs.declared.outcome.Outcome.{Outcome}
use Rattle.dns_forwarded.specs.declared.outcome.Outcome.TheVariants as outcome
use Rattle.dns_forwarded.specs.declared.received.Received.{Received}
use Rattle.dns_forwarded.specs.declared.received.Received.TheVariants.{Ignored, Unreadable, Read}
use Rattle.dns_forwarded.specs.Requests.{code_serv_fail, received_of, course_of}
use Rattle.dns_forwarded.specs.Replies.{asks_if_authentic, bare_reply, forwarded, has_no_place, is_authentic, is_bogus, is_shown, is_shown_beside, is_withheld, judged_reply, looked_up_reply, reply_by, reply_bytes, reply_to, reply_with, room_of, shortened, told_to, unreadable_reply, wants_dnssec}
use Rattle.dns_forwarded.specs.Laws.{NoneIsBogus, HasNoBogus, has_ad, SaysAuthentic}

-- ---- nothing Bogus is told

kept_beside : (a b : Bool) (r : Rr) (rs : List Rr) → is_bogus r.proof ≡ b → NoneIsBogus rs
    → NoneIsBogus (cond (a && not b) (r ∷ rs) rs)
kept_beside false b r rs is more = more
kept_beside true true r rs is more = more
kept_beside true false r rs is more = (is, more)

beside_clean : (dnssec_ok : Bool) (qtype : ℕ) (rs : List Rr)
    → NoneIsBogus (filter (is_shown_beside false dnssec_ok qtype) rs)
beside_clean dnssec_ok qtype [] = tt
beside_clean dnssec_ok qtype (r ∷ rs) =
    kept_beside (is_shown dnssec_ok qtype r) (is_bogus r.proof) r
    (filter (is_shown_beside false dnssec_ok qtype) rs) refl
    (beside_clean dnssec_ok qtype rs)

bare_clean : (request : MessageValue) (code : ℕ) → HasNoBogus (bare_reply request code)
bare_clean request code = record { answers = tt; authorities = tt; additionals = tt }

told_clean : (request : MessageValue) (q : Question) (response : MessageValue) (authentic : Bool)
    → request.checking_disabled ≡ false
    → (list_any (λ r. is_bogus r.proof) response.answers
    || list_any (λ r. is_bogus r.proof) response.authorities) ≡ false
    → HasNoBogus (reply_with request (told_to request q response) authentic false)
told_clean request q response authentic clear none =
    let parts = or_parts (list_any (λ r. is_bogus r.proof) response.answers)
    (list_any (λ r. is_bogus r.proof) response.authorities) none in
    let shown = is_shown (wants_dnssec request.edns) q.rtype in
    let Clean = λ (r : Rr). is_bogus r.proof ≡ false in
    record {
      answers = each_filter Clean shown response.answers (none_passes (λ r. is_bogus r.proof) response.answers parts.0);
      authorities = each_filter Clean shown response.authorities
          (none_passes (λ r. is_bogus r.proof) response.authorities parts.1);
      additionals = subst (λ (b : Bool). NoneIsBogus
          (filter (is_shown_beside b (wants_dnssec request.edns) q.rtype) response.additionals))
          (sym clear) (beside_clean (wants_dnssec request.edns) q.rtype response.additionals);
    }

-- by whether it is withheld, and whether its code has a place
judged_cases : (withheld no_place : Bool) (request : MessageValue) (q : Question) (response : MessageValue)
    (bogus authentic : Bool)
    → request.checking_disabled ≡ false → is_withheld request.checking_disabled bogus response ≡ withheld
    → HasNoBogus (cond (withheld || no_place) (bare_reply request code_serv_fail)
    (reply_with request (told_to request q response) authentic false))
judged_cases true no_place request q response bogus authentic clear is = bare_clean request code_serv_fail
judged_cases false true request q response bogus authentic clear is = bare_clean request code_serv_fail
judged_cases false false request q response bogus authentic clear is =
    let none : (bogus || (list_any (λ r. is_bogus r.proof) response.answers || list_any
    (λ r. is_bogus r.proof) response.authorities)) ≡ false =
    sym (ap (λ (b : Bool). not b && (bogus || (list_any (λ r. is_bogus r.proof) response.answers
    || list_any (λ r. is_bogus r.proof) response.authorities))) clear) ∙ is in
    told_clean request q response authentic clear (or_parts bogus _ none).1

judged_clean : (request : MessageValue) (q : Question) (response : MessageValue) (bogus authentic : Bool)
    → request.checking_disabled ≡ false → HasNoBogus (judged_reply request q response bogus authentic)
judged_clean request q response bogus authentic clear =
    judged_cases (is_withheld request.checking_disabled bogus response)
    (has_no_place request.edns response.response_code)
    request q response bogus authentic clear refl

looked_up_clean : (request : MessageValue) (q : Question) (o : Outcome) → request.checking_disabled ≡ false
    → HasNoBogus (looked_up_reply request q o)
looked_up_clean request q (outcome.Failed error) clear = bare_clean request code_serv_fail
looked_up_clean request q outcome.None clear = bare_clean request code_serv_fail
looked_up_clean request q (outcome.Denied response proof) clear =
    judged_clean request q response.message (is_bogus proof) false clear
looked_up_clean request q (outcome.Answered response) clear =
    judged_clean request q response.message false (asks_if_authentic request && is_authentic q response) clear

by_clean : (request : MessageValue) (course : Result Question ℕ) (o : Outcome) → request.checking_disabled ≡ false
    → HasNoBogus (reply_by request course o)
by_clean request (Err code) o clear = bare_clean request code
by_clean request (Ok q) o clear = looked_up_clean request q o clear

shortened_clean : (request : MessageValue) (protocol : Protocol) (reply : MessageValue)
    → HasNoBogus (shortened request protocol reply)
shortened_clean request Udp reply = record { answers = tt; authorities = tt; additionals = tt }
shortened_clean request Tcp reply = bare_clean request code_serv_fail

fitted_clean : (fits : Bool) (request : MessageValue) (protocol : Protocol) (reply : MessageValue) → HasNoBogus reply
    → HasNoBogus (cond fits reply (shortened request protocol reply))
fitted_clean true request protocol reply clean = clean
fitted_clean false request protocol reply clean = shortened_clean request protocol reply

-- a client that doesn't check for itself is told nothing Bogus
pub reply_clean : (request : MessageValue) (protocol : Protocol) (o : Outcome) → request.checking_disabled ≡ false
    → HasNoBogus (reply_to request protocol o)
unfolding reply_to
reply_clean request protocol o clear =
    fitted_clean (nat_le (length (written (reply_by request (course_of request) o)))
    (room_of protocol request.edns)) request protocol
    (reply_by request (course_of request) o) (by_clean request (course_of request) o clear)

-- ---- what AD says

cases_authentic : (stopped : Bool) (request : MessageValue) (told : Told) (authentic : Bool)
    → (cond stopped (bare_reply request code_serv_fail) (reply_with request told authentic false)).authentic_data ≡ true
    → authentic ≡ true
cases_authentic true request told authentic h = absurd cc
cases_authentic false request told authentic h = h

judged_authentic : (request : MessageValue) (q : Question) (response : MessageValue) (bogus authentic : Bool)
    → (judged_reply request q response bogus authentic).authentic_data ≡ true → authentic ≡ true
judged_authentic request q response bogus authentic h =
    cases_authentic
    (is_withheld request.checking_disabled bogus response || has_no_place request.edns response.response_code)
    request (told_to request q response) authentic h

no_bit : {X : Type 0} → (let b : Bool = false in b) ≡ true → X
no_bit h = absurd cc

-- what AD says of a request that was read
record IsAuthentic (request : MessageValue) (o : Outcome) : Type 0 where
  query : Question
  response : ResponseValue
  asked : course_of request ≡ Ok query
  wanted : asks_if_authentic request ≡ true
  answered : o ≡ outcome.Answered response
  secure : is_authentic query response ≡ true

by_authentic : (request : MessageValue) (course : Result Question ℕ) (o : Outcome) → course_of request ≡ course
    → (reply_by request course o).authentic_data ≡ true → IsAuthentic request o
by_authentic request (Err code) o is h = no_bit h
by_authentic request (Ok q) (outcome.Failed error) is h = no_bit h
by_authentic request (Ok q) outcome.None is h = no_bit h
by_authentic request (Ok q) (outcome.Denied response proof) is h =
    no_bit (judged_authentic request q response.message (is_bogus proof) false h)
by_authentic request (Ok q) (outcome.Answered response) is h =
    let both = judged_authentic request q response.message false
    (asks_if_authentic request && is_authentic q response) h in
    let parts = and_parts (asks_if_authentic request) (is_authentic q response) both in
    record { query = q; response = response; asked = is; wanted = parts.0; answered = refl; secure = parts.1 }

fitted_authentic : (fits : Bool) (request : MessageValue) (protocol : Protocol) (reply : MessageValue)
    → (cond fits reply (shortened request protocol reply)).authentic_data ≡ true → reply.authentic_data ≡ true
fitted_authentic true request protocol reply h = h
fitted_authentic false request Udp reply h = h
fitted_authentic false request Tcp reply h = no_bit h

reply_authentic : (request : MessageValue) (protocol : Protocol) (o : Outcome)
    → (reply_to request protocol o).authentic_data ≡ true
    → IsAuthentic request o
unfolding reply_to
reply_authentic request protocol o h =
    by_authentic request (course_of request) o refl
    (fitted_authentic (nat_le (length (written (reply_by request (course_of request) o)))
    (room_of protocol request.edns)) request protocol
    (reply_by request (course_of request) o) h)

-- AD among the flags of a header
ad_of : (qr op aa tc rd ra ad cd code : ℕ) → ra ≤ 1 → ad ≤ 1 → cd ≤ 1 → code < 16
    → (qr * 32768 + op * 2048 + aa * 1024 + tc * 512 + rd * 256 + ra * 128 + ad * 32 + cd * 16 + code)
    % 256 / 32 % 2 ≡ ad
ad_of qr op aa tc rd ra ad cd code a b c d = omega arith

ad_written : (m : MessageValue) → has_ad (written m) ≡ m.authentic_data
unfolding written
ad_written m =
    let bit : flags_of m % 256 / 32 % 2 ≡ flag_bit m.authentic_data =
    ad_of (flag_bit m.response) (m.op_code % 16) (flag_bit m.authoritative) (flag_bit m.truncated)
    (flag_bit m.recursion_desired)
    (flag_bit m.recursion_available) (flag_bit m.authentic_data) (flag_bit m.checking_disabled) (m.response_code % 16)
    (number_small m.recursion_available) (number_small m.authentic_data) (number_small m.checking_disabled)
    (omega arith) in
    do_flag m.authentic_data (flags_of m % 256) 5 bit

received_authentic : (bytes : List ℕ) (received : Received) (protocol : Protocol) (o : Outcome)
    → received_of bytes ≡ received
    → IfSome (reply_bytes received protocol o) (λ out. has_ad out ≡ true → SaysAuthentic bytes o)
received_authentic bytes Ignored protocol o is = tt
received_authentic bytes (Unreadable id) protocol o is = λ h. no_bit (sym (ad_written (unreadable_reply id)) ∙ h)
received_authentic bytes (Read request) protocol o is = λ h.
    let one = reply_authentic request protocol o (sym (ad_written (reply_to request protocol o)) ∙ h) in
    record {
      request = request;
      query = one.query;
      response = one.response;
      came = is;
      asked = one.asked;
      wanted = one.wanted;
      answered = one.answered;
      secure = one.secure;
    }

-- AD says so only where it is so
pub forwarded_authentic : (bytes : List ℕ) (protocol : Protocol) (o : Outcome)
    → IfSome (forwarded bytes protocol o) (λ out. has_ad out ≡ true → SaysAuthentic bytes o)
forwarded_authentic bytes protocol o = received_authentic bytes (received_of bytes) protocol o refl

-- Replies are read back, where what they tell was read.
use Rattle.std.proofs.Common.{◌≡◌, ℕ, ◌/◌, ◌%◌, ◌<◌, Bool, true, false, ◌&&◌, ◌||◌, cond, List, [], ◌∷◌, ◌++◌, length, map, Option, None, Some, Result, Ok, Err, refl, sym, ap, ◌∙◌, arith}
use Rattle.std.specs.Prelude.{nat_le, nat_lt, ◌==◌, slice_index, IfSome}
use Rattle.std.specs.List.{flat_map, AllByRecursion}
use Rattle.std.proofs.lemmas.Bool.Decides.{nat_tests}
use Rattle.std.proofs.lemmas.List.{length-map}
use Rattle.std.proofs.lemmas.List.Concat.{flat_map-cons}
use Rattle.dns_model.proofs.EachLemmas.{each_filter, each_map}
use Rattle.dns_model.specs.declared.proof.Proof.TheVariants.{Indeterminate}
use Rattle.dns_model.specs.Bytes.{has_flag, u16_at}
use Rattle.dns_model.specs.Names.{is_name}
use Rattle.dns_model.specs.Types.{type_opt}
use Rattle.dns_model.specs.Paired.{ArePaired}
use Rattle.dns_model.specs.Told.{Told}
use Rattle.dns_model.specs.Records.{Rr, Question, EdnsValue, MessageValue}
use Rattle.dns_message.specs.declared.decode_error.DecodeError.{DecodeError}
use Rattle.dns_message.specs.MessageAt.{message_at}
use Rattle.dns_message.specs.WrittenAs.{written, record_bytes}
use Rattle.dns_message.proofs.MessageWriting.{CodeFits, HasName, IsMessageAgain, message_again, message_good}
use Rattle.dns_message.proofs.RecordWriting.{IsRecordAgain, IsOptAgain}
use Rattle.dns_handle.specs.declared.protocol.Protocol.{Protocol}
use Rattle.dns_handle.specs.declared.protocol.Protocol.TheVariants.{Udp, Tcp}
use Rattle.dns_forwarded.specs.declared.outcome.Outcome.{Outcome}
use Rattle.dns_forwarded.specs.declared.outcome.Outcome.TheVariants as outcome
use Rattle.dns_forwarded.specs.declared.received.Received.{Received}
use Rattle.dns_forwarded.specs.declared.received.Received.TheVariants.{Ignored, Unreadable, Read}
use Rattle.dns_forwarded.specs.Requests.{code_form_err, code_serv_fail, code_not_imp, code_bad_vers, read_with, received_of, is_later_version, is_unasked, course_by, course_of}
use Rattle.dns_forwarded.specs.Replies.{asks_if_authentic, bare_reply, code_alone, forwarded, has_no_place, is_authentic, is_bogus, is_shown, is_shown_beside, is_withheld, judged_reply, replied_edns, replied_questions, reply_by, reply_bytes, reply_to, reply_with, room_of, shortened, told_to, unreadable_reply, wants_dnssec}
use Rattle.dns_forwarded.specs.ReadingBack.{IsRecordOf, WasRead, IsOfRead, IsReadBack}
use Rattle.dns_forwarded.proofs.ReadLemmas.{IsGoodMessage, code_small, request_good}

-- ---- marks aren't written

abbrev unmarked : Rr → Rr
unmarked r = record r { proof = Indeterminate }

abbrev unmarked_message : MessageValue → MessageValue
unmarked_message m = record m {
  answers = map unmarked m.answers;
  authorities = map unmarked m.authorities;
  additionals = map unmarked m.additionals;
}

section_unmarked : (rs : List Rr) → flat_map record_bytes (map unmarked rs) ≡ flat_map record_bytes rs
section_unmarked [] = refl
section_unmarked (r ∷ rs) =
    flat_map-cons record_bytes (unmarked r) (map unmarked rs) ∙ ap (λ (l : List ℕ). record_bytes r ++ l)
    (section_unmarked rs)
    ∙ sym (flat_map-cons record_bytes r rs)

written_unmarked : (m : MessageValue) → written (unmarked_message m) ≡ written m
unfolding written
written_unmarked m = rw (
  section_unmarked m.answers,
  section_unmarked m.authorities,
  section_unmarked m.additionals,
  length-map m.answers unmarked,
  length-map m.authorities unmarked,
  length-map m.additionals unmarked,
) refl

-- ---- what a reply tells

-- a record that is read back, its mark aside
abbrev IsAgain : Rr → Type 0
IsAgain r = IsRecordAgain (unmarked r)

record_of : (told r : Rr) → IsRecordAgain told → IsRecordOf told r → IsAgain r
record_of told r g same = record {
  name = ap is_name same.owner ∙ g.name;
  other = ap (λ (n : ℕ). n == type_opt) same.rtype ∙ g.other;
  mark = refl;
  rdata = rw (same.rtype, same.class, same.rdata) g.rdata;
}

section_of : (told rs : List Rr) → AllByRecursion IsRecordAgain told → ArePaired IsRecordOf told rs
    → AllByRecursion IsAgain rs
section_of [] [] g same = tt
section_of (t ∷ ts) (r ∷ rs) g same = (record_of t r g.0 same.0, section_of ts rs g.1 same.1)
section_of [] (r ∷ rs) g same = absurd same
section_of (t ∷ ts) [] g same = absurd same

-- a response whose records are read back
record IsGoodResponse (response : MessageValue) : Type 0 where
  code : response.response_code < 4096
  answers : AllByRecursion IsAgain response.answers
  authorities : AllByRecursion IsAgain response.authorities
  additionals : AllByRecursion IsAgain response.additionals

response_good : (response : MessageValue) → WasRead response → IsGoodResponse response
response_good response w =
    let g = message_good w.bytes w.message w.are w.read in
    record {
      code = rw w.code (code_small w.message g);
      answers = section_of w.message.answers response.answers g.answers w.answers;
      authorities = section_of w.message.authorities response.authorities g.authorities w.authorities;
      additionals = section_of w.message.additionals response.additionals g.additionals w.additionals;
    }

-- what is told is read back
record IsGoodTold (edns : Option EdnsValue) (told : Told) : Type 0 where
  code : CodeFits (replied_edns edns) told.code
  answers : AllByRecursion IsAgain told.answers
  authorities : AllByRecursion IsAgain told.authorities
  additionals : AllByRecursion IsAgain told.additionals

small_fits : (edns : Option EdnsValue) (code : ℕ) → code < 16 → CodeFits (replied_edns edns) code
small_fits None code small = small
small_fits (Some e) code small = omega (arith, small)

placed_fits : (edns : Option EdnsValue) (code : ℕ) → code < 4096 → has_no_place edns code ≡ false
    → CodeFits (replied_edns edns) code
placed_fits None code small place = grind (arith, nat_tests)
placed_fits (Some e) code small place = small

told_good : (request : MessageValue) (q : Question) (response : MessageValue) → IsGoodResponse response
    → has_no_place request.edns response.response_code ≡ false → IsGoodTold request.edns (told_to request q response)
told_good request q response g place = record {
  code = placed_fits request.edns response.response_code g.code place;
  answers = each_filter IsAgain (is_shown (wants_dnssec request.edns) q.rtype) response.answers g.answers;
  authorities = each_filter IsAgain (is_shown (wants_dnssec request.edns) q.rtype) response.authorities g.authorities;
  additionals = each_filter IsAgain (is_shown_beside request.checking_disabled
      (wants_dnssec request.edns) q.rtype) response.additionals
      g.additionals;
}

alone_good : (edns : Option EdnsValue) (code : ℕ) → CodeFits (replied_edns edns) code
    → IsGoodTold edns (code_alone code)
alone_good edns code fits = record { code = fits; answers = tt; authorities = tt; additionals = tt }

-- ---- the reply

-- a reply with the request's id that is read back
record IsGoodReply (request m : MessageValue) : Type 0 where
  id : m.id ≡ request.id
  response : m.response ≡ true
  again : IsMessageAgain (unmarked_message m)

questions_good : (queries : List Question) → AllByRecursion HasName queries
    → AllByRecursion HasName (replied_questions queries)
questions_good [] g = tt
questions_good (q ∷ []) g = g
questions_good (q ∷ r ∷ more) g = tt

edns_good : (edns : Option EdnsValue) (code : ℕ) → IfSome (replied_edns edns) (λ e. IsOptAgain e (code / 16 % 256))
edns_good None code = tt
edns_good (Some e) code = record { version = omega arith; flags = omega arith; upper = omega arith }

with_good : (bytes : List ℕ) (request : MessageValue) (told : Told) (authentic truncated : Bool)
    → IsGoodMessage bytes request
    → IsGoodTold request.edns told → IsGoodReply request (reply_with request told authentic truncated)
with_good bytes request told authentic truncated m g = record {
  id = refl;
  response = refl;
  again = record {
    op = m.op;
    code = g.code;
    queries = questions_good request.queries m.queries;
    answers = each_map IsRecordAgain unmarked told.answers g.answers;
    authorities = each_map IsRecordAgain unmarked told.authorities g.authorities;
    additionals = each_map IsRecordAgain unmarked told.additionals g.additionals;
    edns = edns_good request.edns told.code;
  };
}

bare_good : (bytes : List ℕ) (request : MessageValue) (code : ℕ) → IsGoodMessage bytes request
    → CodeFits (replied_edns request.edns) code → IsGoodReply request (bare_reply request code)
bare_good bytes request code m fits = with_good bytes request (code_alone code) false false m
    (alone_good request.edns code fits)

failed_good : (bytes : List ℕ) (request : MessageValue) → IsGoodMessage bytes request
    → IsGoodReply request (bare_reply request code_serv_fail)
failed_good bytes request m = bare_good bytes request code_serv_fail m
    (small_fits request.edns code_serv_fail (omega arith))

-- ---- the codes by which requests are refused

unasked_fits : (unasked : Bool) (q : Question) (edns : Option EdnsValue) (code : ℕ)
    → cond {A = Result Question ℕ} unasked (Err code_not_imp) (Ok q) ≡ Err code → CodeFits (replied_edns edns) code
unasked_fits true q edns code h = let e : code_not_imp ≡ code = cc in small_fits edns code (omega (arith, e))
unasked_fits false q edns code h = absurd cc

later_fits : (edns : Option EdnsValue) (code : ℕ) → is_later_version edns ≡ true → code_bad_vers ≡ code
    → CodeFits (replied_edns edns) code
later_fits None code h e = absurd cc
later_fits (Some x) code h e = omega (arith, e)

course_fits : (query : Bool) (queries : List Question) (later : Bool) (edns : Option EdnsValue) (code : ℕ)
    → is_later_version edns ≡ later → course_by query queries later ≡ Err code → CodeFits (replied_edns edns) code
course_fits false queries later edns code is h = let e : code_not_imp ≡ code = cc in small_fits edns code
    (omega (arith, e))
course_fits true [] later edns code is h = let e : code_form_err ≡ code = cc in small_fits edns code (omega (arith, e))
course_fits true (q ∷ r ∷ more) later edns code is h =
    let e : code_form_err ≡ code = cc in small_fits edns code (omega (arith, e))
course_fits true (q ∷ []) true edns code is h = let e : code_bad_vers ≡ code = cc in later_fits edns code is e
course_fits true (q ∷ []) false edns code is h = unasked_fits (is_unasked q) q edns code h

-- ---- by what the lookup came to

judged_cases : (bytes : List ℕ) (withheld no_place : Bool) (request : MessageValue) (q : Question)
    (response : MessageValue)
    (authentic : Bool) → IsGoodMessage bytes request → IsGoodResponse response
    → has_no_place request.edns response.response_code ≡ no_place
    → IsGoodReply request (cond (withheld || no_place) (bare_reply request code_serv_fail)
    (reply_with request (told_to request q response) authentic false))
judged_cases bytes true no_place request q response authentic m g is = failed_good bytes request m
judged_cases bytes false true request q response authentic m g is = failed_good bytes request m
judged_cases bytes false false request q response authentic m g is =
    with_good bytes request (told_to request q response) authentic false m (told_good request q response g is)

judged_good : (bytes : List ℕ) (request : MessageValue) (q : Question) (response : MessageValue)
    (bogus authentic : Bool)
    → IsGoodMessage bytes request → WasRead response
    → IsGoodReply request (judged_reply request q response bogus authentic)
judged_good bytes request q response bogus authentic m w =
    judged_cases bytes (is_withheld request.checking_disabled bogus response)
    (has_no_place request.edns response.response_code)
    request q response authentic m (response_good response w) refl

by_good : (bytes : List ℕ) (request : MessageValue) (course : Result Question ℕ) (o : Outcome)
    → IsGoodMessage bytes request
    → course_of request ≡ course → IsOfRead o → IsGoodReply request (reply_by request course o)
by_good bytes request (Err code) o m is of_read =
    bare_good bytes request code m
    (course_fits (request.op_code == 0) request.queries (is_later_version request.edns) request.edns code refl is)
by_good bytes request (Ok q) (outcome.Failed error) m is of_read = failed_good bytes request m
by_good bytes request (Ok q) outcome.None m is of_read = failed_good bytes request m
by_good bytes request (Ok q) (outcome.Denied response proof) m is of_read =
    judged_good bytes request q response.message (is_bogus proof) false m of_read
by_good bytes request (Ok q) (outcome.Answered response) m is of_read =
    judged_good bytes request q response.message false (asks_if_authentic request && is_authentic q response) m of_read

-- ---- in the room that there is

shortened_good : (bytes : List ℕ) (request : MessageValue) (protocol : Protocol) (m : MessageValue)
    → IsGoodMessage bytes request
    → IsGoodReply request m → IsGoodReply request (shortened request protocol m)
shortened_good bytes request Tcp m good g = failed_good bytes request good
shortened_good bytes request Udp m good g = record {
  id = g.id;
  response = g.response;
  again = record {
    op = g.again.op;
    code = g.again.code;
    queries = g.again.queries;
    answers = tt;
    authorities = tt;
    additionals = tt;
    edns = g.again.edns;
  };
}

fitted_cases : (bytes : List ℕ) (fits : Bool) (request : MessageValue) (protocol : Protocol) (m : MessageValue)
    → IsGoodMessage bytes request → IsGoodReply request m
    → IsGoodReply request (cond fits m (shortened request protocol m))
fitted_cases bytes true request protocol m good g = g
fitted_cases bytes false request protocol m good g = shortened_good bytes request protocol m good g

reply_good : (bytes : List ℕ) (request : MessageValue) (protocol : Protocol) (o : Outcome)
    → IsGoodMessage bytes request → IsOfRead o
    → IsGoodReply request (reply_to request protocol o)
unfolding reply_to
reply_good bytes request protocol o good of_read =
    fitted_cases bytes (nat_le (length (written (reply_by request (course_of request) o)))
    (room_of protocol request.edns))
    request protocol (reply_by request (course_of request) o) good
    (by_good bytes request (course_of request) o good refl of_read)

-- ---- what came

read_is : (ignored : Bool) (id : ℕ) (r : Result MessageValue DecodeError) (request : MessageValue)
    → cond {A = Received} ignored Ignored (read_with id r) ≡ Read request → r ≡ Ok request
read_is true id r request h = absurd cc
read_is false id (Err e) request h = absurd cc
read_is false id (Ok m) request h = let e : m ≡ request = cc in ap (λ (x : MessageValue). Ok x) e

id_is : (ignored : Bool) (id : ℕ) (r : Result MessageValue DecodeError) (n : ℕ)
    → cond {A = Received} ignored Ignored (read_with id r) ≡ Unreadable n → n ≡ id
id_is true id r n h = absurd cc
id_is false id (Ok m) n h = absurd cc
id_is false id (Err e) n h = let same : id ≡ n = cc in sym same

received_read : (bytes : List ℕ) (request : MessageValue) → received_of bytes ≡ Read request
    → message_at bytes ≡ Ok request
unfolding received_of
received_read bytes request h =
    read_is (nat_lt (length bytes) 12 || has_flag (slice_index bytes 2) 0x80) (u16_at bytes 0)
    (message_at bytes) request h

received_id : (bytes : List ℕ) (id : ℕ) → received_of bytes ≡ Unreadable id → id ≡ u16_at bytes 0
unfolding received_of
received_id bytes id h =
    id_is (nat_lt (length bytes) 12 || has_flag (slice_index bytes 2) 0x80) (u16_at bytes 0) (message_at bytes) id h

unreadable_good : (id : ℕ) → IsMessageAgain (unreadable_reply id)
unreadable_good id = record {
  op = omega arith;
  code = omega arith;
  queries = tt;
  answers = tt;
  authorities = tt;
  additionals = tt;
  edns = tt;
}

received_again : (bytes : List ℕ) (received : Received) (protocol : Protocol) (o : Outcome)
    → received_of bytes ≡ received → IsOfRead o
    → IfSome (reply_bytes received protocol o) (IsReadBack bytes)
received_again bytes Ignored protocol o is of_read = tt
received_again bytes (Unreadable id) protocol o is of_read = record {
  message = unreadable_reply id;
  read = message_again (unreadable_reply id) (unreadable_good id);
  response = refl;
  id = received_id bytes id is;
}
received_again bytes (Read request) protocol o is of_read =
    let good = request_good bytes request (received_read bytes request is) in
    let g = reply_good bytes request protocol o good of_read in
    record {
      message = unmarked_message (reply_to request protocol o);
      read = ap message_at (sym (written_unmarked (reply_to request protocol o)))
          ∙ message_again (unmarked_message (reply_to request protocol o)) g.again;
      response = g.response;
      id = g.id ∙ good.id;
    }

-- a reply is read back
pub forwarded_again : (bytes : List ℕ) (protocol : Protocol) (o : Outcome) → IsOfRead o
    → IfSome (forwarded bytes protocol o) (IsReadBack bytes)
forwarded_again bytes protocol o of_read = received_again bytes (received_of bytes) protocol o refl of_read

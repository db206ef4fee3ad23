-- How long replies are, and what stands for one that is too long.
use Rattle.std.proofs.Common.{◌≡◌, ℕ, ◌≤◌, ◌<◌, Bool, true, false, cond, [], ◌++◌, length, map, Option, None, Some, Result, Ok, Err, List, refl, sym, ap, arith, length-append}
use Rattle.std.specs.Prelude.{nat_le}
use Rattle.std.specs.List.{flat_map}
use Rattle.std.proofs.lemmas.Bool.Decides.{nat_tests}
use Rattle.dns_model.specs.Records.{EdnsValue, MessageValue}
use Rattle.dns_model.specs.Told.{Told}
use Rattle.dns_message.specs.WrittenAs.{written, encoded, question_bytes, edns_bytes, header_bytes}
use Rattle.dns_message.proofs.MessageWriting.{encoded_is}
use Rattle.dns_message.specs.declared.encode_error.EncodeError.{EncodeError}
use Rattle.dns_message.specs.declared.encode_error.EncodeError.TheVariants.{TooLong}
use Rattle.dns_handle.specs.declared.protocol.Protocol.{Protocol}
use Rattle.dns_handle.specs.declared.protocol.Protocol.TheVariants.{Udp, Tcp}
use Rattle.dns_forwarded.specs.Laws.{IsSmall}
use Rattle.dns_forwarded.specs.Replies.{replied_questions, replied_edns, reply_with, room_of, fitted, shortened, unreadable_reply}
use Rattle.dns_forwarded.specs.Seen.{message_of, IsBare}
use Rattle.dns_forwarded.specs.declared.reply.Reply.{Reply}
use Rattle.dns_forwarded.specs.declared.received.Received.TheVariants.{Read, Unreadable}

edns_short : (code : ℕ) (edns : Option EdnsValue) → length (edns_bytes code (replied_edns edns)) ≤ 11
edns_short code None = omega arith
edns_short code (Some edns) = omega arith

short_sum : (head questions edns : List ℕ) → length head ≡ 12 → length questions ≤ 259 → length edns ≤ 11
    → length (head ++ questions ++ [] ++ [] ++ [] ++ edns) ≤ 282
short_sum head questions edns twelve short opt =
    let a = length-append head questions in
    let b = length-append (head ++ questions) [] in
    let c = length-append (head ++ questions ++ []) [] in
    let d = length-append (head ++ questions ++ [] ++ []) [] in
    let e = length-append (head ++ questions ++ [] ++ [] ++ []) edns in
    omega (arith, a, b, c, d, e, twelve, short, opt)

-- a reply without records is short, where its question is
pub bare_short : (request : MessageValue) (told : Told) (authentic truncated : Bool) → told.answers ≡ []
    → told.authorities ≡ []
    → told.additionals ≡ [] → length (flat_map question_bytes (replied_questions request.queries)) ≤ 259
    → length (written (reply_with request told authentic truncated)) ≤ 282
unfolding written
bare_short request told authentic truncated answers authorities additionals short =
    rw (answers, authorities, additionals)
    (short_sum (header_bytes (reply_with request told authentic truncated))
    (flat_map question_bytes (replied_questions request.queries))
    (edns_bytes told.code (replied_edns request.edns)) refl short
    (edns_short told.code request.edns))

pub encoded_small : (m : MessageValue) → length (written m) ≤ 65535 → encoded m ≡ Ok (written m)
unfolding encoded
encoded_small m small =
    let yes : nat_le (length (written m)) 65535 ≡ true = grind (arith, nat_tests) in
    rw yes refl

-- a reply without records is encoded
pub bare_small : (request : MessageValue) (r : Reply) → IsBare r
    → length (flat_map question_bytes (replied_questions request.queries)) ≤ 259
    → length (written (message_of request r)) ≤ 282
bare_small request r bare short = bare_short request (record {
  code = r.code.0;
  answers = map (λ x. x.now) r.answers.items;
  authorities = map (λ x. x.now) r.authorities.items;
  additionals = map (λ x. x.now) r.additionals.items;
}) r.authentic r.truncated (ap (map (λ x. x.now)) bare.answers) (ap (map (λ x. x.now)) bare.authorities)
    (ap (map (λ x. x.now)) bare.additionals) short

pub bare_written : (request : MessageValue) (r : Reply) → IsBare r
    → length (flat_map question_bytes (replied_questions request.queries)) ≤ 259
    → encoded (message_of request r) ≡ Ok (written (message_of request r))
bare_written request r bare short =
    let small = bare_small request r bare short in
    encoded_small (message_of request r) (omega (arith, small))

pub unreadable_short : (id : ℕ) → length (written (unreadable_reply id)) ≡ 12
unfolding written
unreadable_short id = refl

pub unreadable_written : (id : ℕ) → encoded (unreadable_reply id) ≡ Ok (written (unreadable_reply id))
unreadable_written id = encoded_small (unreadable_reply id) (omega (arith, unreadable_short id))

-- what is encoded is written
pub encoded_ok : (m : MessageValue) (out : List ℕ) → encoded m ≡ Ok out → out ≡ written m
unfolding encoded
encoded_ok m out h = sym (encoded_is (nat_le (length (written m)) 65535) m out h)

encoded_not : (test : Bool) (m : MessageValue) → nat_le (length (written m)) 65535 ≡ test
    → cond {A = Result (List ℕ) EncodeError} test (Ok (written m)) (Err TooLong) ≡ Err TooLong
    → 65535 < length (written m)
encoded_not true m is h = absurd cc
encoded_not false m is h = grind (arith, nat_tests)

encoded_long : (m : MessageValue) → encoded m ≡ Err TooLong → 65535 < length (written m)
unfolding encoded
encoded_long m h = encoded_not (nat_le (length (written m)) 65535) m refl h

pub room_most : (protocol : Protocol) (edns : Option EdnsValue) → room_of protocol edns ≤ 65535
room_most Tcp edns = omega arith
room_most Udp edns = omega arith

pub room_least : (protocol : Protocol) (edns : Option EdnsValue) → 512 ≤ room_of protocol edns
room_least Tcp edns = omega arith
room_least Udp edns = omega arith

-- over UDP it is small
pub is_small : (protocol : Protocol) (request : MessageValue) (bytes : List ℕ)
    → length bytes ≤ room_of protocol request.edns
    → IsSmall protocol (Read request) bytes
is_small Udp request bytes room = room
is_small Tcp request bytes room = tt

pub is_small_unreadable : (protocol : Protocol) (id : ℕ) (bytes : List ℕ) → length bytes ≡ 12
    → IsSmall protocol (Unreadable id) bytes
is_small_unreadable Udp id bytes twelve = omega (arith, twelve)
is_small_unreadable Tcp id bytes twelve = tt

-- a reply that has room stands
pub fits : (request m : MessageValue) (protocol : Protocol) (out : List ℕ) → encoded m ≡ Ok out
    → length out ≤ room_of protocol request.edns → out ≡ written (fitted request protocol m)
fits request m protocol out is room =
    let same : out ≡ written m = encoded_ok m out is in
    let yes : nat_le (length (written m)) (room_of protocol request.edns) ≡ true = grind
    (arith, nat_tests, same, room) in
    rw yes same

-- one that has none doesn't
pub is_shortened : (request m : MessageValue) (protocol : Protocol) → room_of protocol request.edns < length (written m)
    → fitted request protocol m ≡ shortened request protocol m
is_shortened request m protocol long =
    let no : nat_le (length (written m)) (room_of protocol request.edns) ≡ false = grind (arith, nat_tests, long) in
    rw no refl

pub shortened_here : (request m : MessageValue) (protocol : Protocol) (out : List ℕ) → encoded m ≡ Ok out
    → room_of protocol request.edns < length out → fitted request protocol m ≡ shortened request protocol m
shortened_here request m protocol out is long =
    let same : out ≡ written m = encoded_ok m out is in
    is_shortened request m protocol (omega (arith, ap length same, long))

pub shortened_always : (request m : MessageValue) (protocol : Protocol) → encoded m ≡ Err TooLong
    → fitted request protocol m ≡ shortened request protocol m
shortened_always request m protocol is =
    is_shortened request m protocol (omega (arith, encoded_long m is, room_most protocol request.edns))

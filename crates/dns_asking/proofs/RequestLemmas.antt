-- The first request of a lookup isn't too long to be sent, under whatever id, and asks for no letters in another case.
use Rattle.std.proofs.Common.{ℕ, ◌≡◌, ◌≤◌, ◌+◌, ◌&&◌, not, Bool, true, false, List, [], ◌++◌, length, nat_le, Result, Ok, Err, if◌then◌else◌, arith, length-append}
use Rattle.std.proofs.lemmas.Bool.{le-leb}
use Rattle.std.specs.declared.net.socket_addr.SocketAddr.{SocketAddr}
use Rattle.dns_model.specs.Bytes.{u16_bytes}
use Rattle.dns_model.specs.Names.{wire}
use Rattle.dns_model.specs.Records.{MessageValue, Question}
use Rattle.dns_message.specs.MessageAt.{message_at}
use Rattle.dns_message.specs.WrittenAs.{edns_bytes, encoded, written}
use Rattle.dns_message.specs.declared.decode_error.DecodeError.{DecodeError}
use Rattle.dns_message.specs.declared.encode_error.EncodeError.{EncodeError}
use Rattle.dns_message.specs.declared.encode_error.EncodeError.TheVariants.{TooLong}
use Rattle.dns_handle.specs.Requests.{RequestValue}
use Rattle.dns_validation.specs.Requests.{asking_request}
use Rattle.dns_udp.specs.Acceptance.{accepted, accepted_reading, is_addressed}
use Rattle.dns_udp.specs.Questions.{asks_alike, spells_alike}
use Rattle.dns_udp.specs.declared.acceptance.Accepted.TheVariants.{Ignored, Undecodable, CaseMismatch, Answer}
use Rattle.dns_asking.specs.Lookups.{options_to}

-- the request for a question within a depth
abbrev pub first_request : Question → ℕ → RequestValue
first_request q depth = asking_request q (options_to depth)

abbrev pub first_message : Question → ℕ → ℕ → MessageValue
first_message q depth id = record (first_request q depth).message { id = id }

written_length : (q : Question) (depth id : ℕ) → length (written (first_message q depth id)) ≡ length (wire q.owner)
    + 27
unfolding written
written_length q depth id =
    let named = wire q.owner in
    let typed = named ++ u16_bytes q.rtype in
    let asked = typed ++ u16_bytes q.class in
    let m = first_message q depth id in
    omega (
      arith,
      length-append named (u16_bytes q.rtype),
      length-append typed (u16_bytes q.class),
      length-append asked [],
      length-append (asked ++ []) [],
      length-append (asked ++ [] ++ []) [],
      length-append (asked ++ [] ++ [] ++ []) [],
      length-append (asked ++ [] ++ [] ++ [] ++ []) (edns_bytes m.response_code m.edns),
    )

encoded_is : (test : Bool) (bytes : List ℕ) → test ≡ true → (if test then Ok bytes else Err TooLong) ≡ Err TooLong → ⊥
encoded_is true bytes is h = let no : (let y : Result (List ℕ) EncodeError = Ok bytes in y) ≡ Err TooLong = h in cc
encoded_is false bytes is h = cc

pub never_long : (q : Question) (depth id : ℕ) → length (wire q.owner) ≤ 255
    → encoded (first_message q depth id) ≡ Err TooLong → ⊥
unfolding encoded
never_long q depth id short h =
    encoded_is (nat_le (length (written (first_message q depth id))) 65535) (written (first_message q depth id))
    (le-leb _ _ (omega (arith, short, written_length q depth id))) h

-- ---- datagrams are judged without a look at the case of letters

mismatched : (alike spelled : Bool) (message : MessageValue)
    → (if not alike then Ignored else if false && not spelled then CaseMismatch else Answer message) ≡ CaseMismatch → ⊥
mismatched true spelled message h = cc
mismatched false spelled message h = cc

read_mismatched : (request : MessageValue) (reading : Result MessageValue DecodeError)
    → accepted_reading request false reading ≡ CaseMismatch → ⊥
read_mismatched request (Err error) h = cc
read_mismatched request (Ok message) h =
    mismatched (asks_alike request.queries message.queries) (spells_alike request.queries message.queries) message h

pub never_mismatched : (request : MessageValue) (server from : SocketAddr) (bytes : List ℕ)
    → accepted request server false from bytes ≡ CaseMismatch → ⊥
never_mismatched request server from bytes h =
    by_test (is_addressed request.id server from bytes) h
  where
    by_test : (test : Bool) → (if test then accepted_reading request false (message_at bytes) else Ignored) ≡
        CaseMismatch → ⊥
    by_test true h = read_mismatched request (message_at bytes) h
    by_test false h = cc

read_undecodable : (alike spelled case : Bool) (message : MessageValue) (error : DecodeError)
    → (if not alike then Ignored else if case && not spelled then CaseMismatch else Answer message) ≡ Undecodable
    error → ⊥
read_undecodable true true true message error h = cc
read_undecodable true true false message error h = cc
read_undecodable true false true message error h = cc
read_undecodable true false false message error h = cc
read_undecodable false spelled case message error h = cc

undecodable_reading : (request : MessageValue) (case : Bool) (reading : Result MessageValue DecodeError)
    (error : DecodeError)
    → accepted_reading request case reading ≡ Undecodable error → reading ≡ Err error
undecodable_reading request case (Err other) error h = cc
undecodable_reading request case (Ok message) error h =
    absurd (read_undecodable (asks_alike request.queries message.queries)
    (spells_alike request.queries message.queries) case message error h)

-- a datagram that can't be decoded is no message
pub undecodable_message : (request : MessageValue) (server from : SocketAddr) (case : Bool) (bytes : List ℕ)
    (error : DecodeError)
    → accepted request server case from bytes ≡ Undecodable error → message_at bytes ≡ Err error
undecodable_message request server from case bytes error h =
    by_test (is_addressed request.id server from bytes) h
  where
    by_test : (test : Bool) → (if test then accepted_reading request case (message_at bytes) else Ignored) ≡
        Undecodable error
        → message_at bytes ≡ Err error
    by_test true h = undecodable_reading request case (message_at bytes) error h
    by_test false h = cc

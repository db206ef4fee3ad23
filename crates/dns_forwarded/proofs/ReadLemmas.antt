-- What stands in a message that bytes are.
use Rattle.std.proofs.Common.{◌≡◌, ℕ, ◌<◌, Bool, true, false, cond, List, Option, None, Some, Result, Ok, Err, sym, ap, ◌∙◌, subst, arith}
use Rattle.std.specs.Prelude.{nat_lt, length}
use Rattle.std.specs.List.{AllByRecursion}
use Rattle.dns_model.specs.Bytes.{u16_at}
use Rattle.dns_model.specs.Records.{EdnsValue, MessageValue}
use Rattle.dns_message.specs.declared.decode_error.DecodeError.{DecodeError}
use Rattle.dns_message.specs.declared.decode_error.DecodeKind.TheVariants.{Short}
use Rattle.dns_message.specs.Reading.{fault, u16_field}
use Rattle.dns_message.specs.RecordAt.{section_at}
use Rattle.dns_message.specs.MessageAt.{HeaderValue, header_at, questions_at, message_of, message_at}
use Rattle.dns_message.proofs.MessageWriting.{CodeFits, HasName, IsMessageAgain, no_trailing, questions_good}
use Rattle.dns_message.proofs.NameWriting.{first_of_ok}
use Rattle.dns_message.proofs.RecordReading.{bind_ok}

-- ---- the header

u16_value : (short : Bool) (bytes : List ℕ) (x : ℕ × ℕ)
    → cond {A = Result (ℕ × ℕ) DecodeError} short (Err (fault Short 0)) (Ok (u16_at bytes 0, 2)) ≡ Ok x
    → u16_at bytes 0 ≡ x.0
u16_value true bytes x h = absurd cc
u16_value false bytes x h = first_of_ok h

first_u16 : (bytes : List ℕ) (x : ℕ × ℕ) → u16_field bytes 0 ≡ Ok x → u16_at bytes 0 ≡ x.0
unfolding u16_field
first_u16 bytes x h = u16_value (nat_lt (length bytes) 2) bytes x h

same_header : (a b : HeaderValue) → (let r : Result HeaderValue DecodeError = Ok a in r) ≡ Ok b → a ≡ b
same_header a b h = cc

header_id : (bytes : List ℕ) (x : HeaderValue) → header_at bytes ≡ Ok x → x.id ≡ u16_at bytes 0
unfolding header_at
header_id bytes x h =
    let a = bind_ok (u16_field bytes 0) _ x h in
    let b = bind_ok (u16_field bytes 2) _ x a.2 in
    let c = bind_ok (u16_field bytes 4) _ x b.2 in
    let d = bind_ok (u16_field bytes 6) _ x c.2 in
    let e = bind_ok (u16_field bytes 8) _ x d.2 in
    let f = bind_ok (u16_field bytes 10) _ x e.2 in
    let same = same_header _ x f.2 in
    ap (λ (y : HeaderValue). y.id) (sym same) ∙ sym (first_u16 bytes a.0 a.1)

-- ---- the message

-- what is so of each message that was read
pub record IsGoodMessage (bytes : List ℕ) (m : MessageValue) : Type 0 where
  pub id : m.id ≡ u16_at bytes 0
  pub op : m.op_code < 16
  pub queries : AllByRecursion HasName m.queries

pub request_good : (bytes : List ℕ) (m : MessageValue) → message_at bytes ≡ Ok m → IsGoodMessage bytes m
unfolding message_at
request_good bytes m h =
    let a = bind_ok (header_at bytes) _ m h in
    let b = bind_ok (questions_at a.0.questions bytes 12) _ m a.2 in
    let c = bind_ok (section_at a.0.answers false bytes b.0.1) _ m b.2 in
    let d = bind_ok (section_at a.0.authorities false bytes c.0.2) _ m c.2 in
    let e = bind_ok (section_at a.0.additionals true bytes d.0.2) _ m d.2 in
    let same : message_of a.0 b.0.0 c.0.0 d.0.0 e.0.0 e.0.1 ≡ m =
    no_trailing (nat_lt e.0.2 (length bytes)) e.0.2 (message_of a.0 b.0.0 c.0.0 d.0.0 e.0.0 e.0.1) m e.2 in
    let made : IsGoodMessage bytes (message_of a.0 b.0.0 c.0.0 d.0.0 e.0.0 e.0.1) = record {
      id = header_id bytes a.0 a.1;
      op = omega arith;
      queries = questions_good a.0.questions bytes 12 b.0 b.1;
    } in
    subst (IsGoodMessage bytes) same made

small_code : (edns : Option EdnsValue) (code : ℕ) → CodeFits edns code → code < 4096
small_code None code fits = omega (arith, fits)
small_code (Some e) code fits = fits

pub code_small : (m : MessageValue) → IsMessageAgain m → m.response_code < 4096
code_small m again = small_code m.edns m.response_code again.code

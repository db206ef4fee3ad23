-- A message that was read is read again where it is written.
use Rattle.std.proofs.Common.{◌≡◌, ℕ, zero, suc, ◌+◌, ◌*◌, ◌/◌, ◌%◌, ◌≤◌, ◌<◌, Bool, true, false, cond, List, [], ◌∷◌, ◌++◌, length, Option, None, Some, Result, Ok, Err, refl, sym, ap, ◌∙◌, subst, arith, length-append}
use Rattle.std.specs.Prelude.{nat_le, nat_lt, IfSome, IfOk}
use Rattle.std.specs.List.{flat_map, AllByRecursion}
use Rattle.std.proofs.lemmas.Bool.Decides.{nat_tests}
use Rattle.std.proofs.lemmas.List.Concat.{flat_map-cons}
use Rattle.dns_model.specs.Names.{wire, is_name}
use Rattle.dns_model.specs.Gives.{Gives}
use Rattle.dns_model.specs.Bytes.{u16_bytes, has_flag}
use Rattle.dns_model.specs.Records.{Rr, EdnsValue, Question, MessageValue}
use Rattle.dns_message.specs.declared.decode_error.DecodeError.{DecodeError}
use Rattle.dns_message.specs.declared.decode_error.DecodeKind.TheVariants.{Trailing}
use Rattle.dns_model.specs.ResultSteps.{◌>>=◌}
use Rattle.dns_message.specs.Reading.{fault, u16_field}
use Rattle.dns_message.specs.NameAt.{name_at}
use Rattle.dns_message.specs.RecordAt.{section_at}
use Rattle.dns_message.specs.MessageAt.{HeaderValue, header_at, question_at, questions_at, message_of, message_at}
use Rattle.dns_message.specs.WrittenAs.{AreBytes, IsReadAgain, encoded, flag_bit, question_bytes, record_bytes, edns_bytes, edns_count, flags_of, header_bytes, written}
use Rattle.dns_message.specs.declared.encode_error.EncodeError.{EncodeError}
use Rattle.dns_message.specs.declared.encode_error.EncodeError.TheVariants.{TooLong, NoMemory}
use Rattle.dns_message.proofs.RecordReading.{bind_ok}
use Rattle.dns_message.proofs.NameWriting.{name_good, name_again}
use Rattle.dns_message.proofs.RecordWriting.{IsRecordAgain, IsOptAgain, IsSectionAgain, section_good, section_again, additional_again, opt_with, stands_at, do_flag, number_small}
use Rattle.dns_message.proofs.Standing.{Stands, stands_whole, stands_front, stands_back, stands_u16}
use Rattle.std.specs.Option.{option_map, option_map_or}

-- ---- questions

same_pair : {A : Type 0} (a b : A × ℕ) → (let r : Result (A × ℕ) DecodeError = Ok a in r) ≡ Ok b → a ≡ b
same_pair a b h = cc

pub question_good : (bytes : List ℕ) (pos : ℕ) (x : Question × ℕ) → question_at bytes pos ≡ Ok x → is_name x.0.owner ≡ true
unfolding question_at
question_good bytes pos x h =
    let a = bind_ok (name_at bytes pos) _ x h in
    let b = bind_ok (u16_field bytes a.0.1) _ x a.2 in
    let c = bind_ok (u16_field bytes b.0.1) _ x b.2 in
    let made : Question × ℕ = (record { owner = a.0.0; rtype = b.0.0; class = c.0.0 }, c.0.1) in
    subst (λ (y : Question × ℕ). is_name y.0.owner ≡ true) (same_pair made x c.2) (name_good bytes pos a.0.0 a.0.1 a.1)

abbrev pub HasName : Question → Type 0
HasName q = is_name q.owner ≡ true

pub questions_good : (count : ℕ) (bytes : List ℕ) (pos : ℕ) (x : List Question × ℕ) → questions_at count bytes pos ≡ Ok x
    → AllByRecursion HasName x.0
unfolding questions_at
questions_good zero bytes pos x h = subst (λ (y : List Question × ℕ). AllByRecursion HasName y.0) (same_pair ([], pos) x h) tt
questions_good (suc count) bytes pos x h =
    let a = bind_ok (question_at bytes pos) (λ first. questions_at count bytes first.1 >>= λ others. Ok (first.0 ∷ others.0, others.1))
    x h in
    let b = bind_ok (questions_at count bytes a.0.1) (λ others. Ok (a.0.0 ∷ others.0, others.1)) x a.2 in
    let made : List Question × ℕ = (a.0.0 ∷ b.0.0, b.0.1) in
    subst (λ (y : List Question × ℕ). AllByRecursion HasName y.0) (same_pair made x b.2) (
      question_good bytes pos a.0 a.1,
      questions_good count bytes a.0.1 b.0 b.1,
    )

question_again : (q : Question) (bytes : List ℕ) (pos : ℕ) → HasName q → Stands bytes pos (question_bytes q)
    → question_at bytes pos ≡ Ok (q, pos + length (question_bytes q))
unfolding question_at
question_again q bytes pos good s =
    let s2 = stands_front bytes pos (wire q.owner ++ u16_bytes q.rtype) (u16_bytes q.class) s in
    let l2 : length (wire q.owner ++ u16_bytes q.rtype) ≡ length (wire q.owner) + 2 = length-append (wire q.owner) (u16_bytes q.rtype) in
    let l3 : length (question_bytes q) ≡ length (wire q.owner ++ u16_bytes q.rtype) + 2 =
    length-append (wire q.owner ++ u16_bytes q.rtype) (u16_bytes q.class) in
    let name = name_again q.owner bytes pos (stands_front bytes pos (wire q.owner) (u16_bytes q.rtype) s2) good in
    let rtype = stands_u16 bytes (pos + length (wire q.owner)) q.rtype (stands_back bytes pos (wire q.owner) (u16_bytes q.rtype) s2) in
    let behind : Stands bytes (pos + length (wire q.owner) + 2) (u16_bytes q.class) =
    stands_at bytes _ _ (u16_bytes q.class) (omega (arith, l2))
    (stands_back bytes pos (wire q.owner ++ u16_bytes q.rtype) (u16_bytes q.class) s) in
    let class = stands_u16 bytes (pos + length (wire q.owner) + 2) q.class behind in
    let end : pos + length (wire q.owner) + 2 + 2 ≡ pos + length (question_bytes q) = omega (arith, l2, l3) in
    rw (name, rtype, class, end) refl

questions_again : (qs : List Question) (bytes : List ℕ) (pos : ℕ) → AllByRecursion HasName qs
    → Stands bytes pos (flat_map question_bytes qs)
    → questions_at (length qs) bytes pos ≡ Ok (qs, pos + length (flat_map question_bytes qs))
unfolding questions_at
questions_again [] bytes pos g s = let here : pos ≡ pos + 0 = omega arith in ap (λ (k : ℕ). Ok ([], k)) here
questions_again (q ∷ qs) bytes pos g s =
    let all : Stands bytes pos (question_bytes q ++ flat_map question_bytes qs) =
    subst (λ (x : List ℕ). Stands bytes pos x) (flat_map-cons question_bytes q qs) s in
    let first = question_again q bytes pos g.0 (stands_front bytes pos (question_bytes q) (flat_map question_bytes qs) all) in
    let rest = questions_again qs bytes (pos + length (question_bytes q)) g.1
    (stands_back bytes pos (question_bytes q) (flat_map question_bytes qs) all) in
    let end : pos + length (question_bytes q) + length (flat_map question_bytes qs) ≡ pos + length (flat_map question_bytes (q ∷ qs)) =
    omega (arith, ap length (flat_map-cons question_bytes q qs), length-append (question_bytes q) (flat_map question_bytes qs)) in
    rw (first, rest) (ap (λ (k : ℕ). Ok (q ∷ qs, k)) end)

-- ---- the header

abbrev pub header_of : MessageValue → HeaderValue
header_of m = record {
  id = m.id;
  flags = flags_of m;
  questions = length m.queries;
  answers = length m.answers;
  authorities = length m.authorities;
  additionals = length m.additionals + edns_count m.edns;
}

header_again : (m : MessageValue) (bytes : List ℕ) → Stands bytes 0 (header_bytes m) → header_at bytes ≡ Ok (header_of m)
unfolding header_at
header_again m bytes s =
    let s5 = stands_front bytes 0 (u16_bytes m.id ++ u16_bytes (flags_of m) ++ u16_bytes (length m.queries)
    ++ u16_bytes (length m.answers) ++ u16_bytes (length m.authorities)) (u16_bytes (length m.additionals + edns_count m.edns)) s in
    let s4 = stands_front bytes 0 (u16_bytes m.id ++ u16_bytes (flags_of m) ++ u16_bytes (length m.queries)
    ++ u16_bytes (length m.answers)) (u16_bytes (length m.authorities)) s5 in
    let s3 = stands_front bytes 0 (u16_bytes m.id ++ u16_bytes (flags_of m) ++ u16_bytes (length m.queries))
    (u16_bytes (length m.answers)) s4 in
    let s2 = stands_front bytes 0 (u16_bytes m.id ++ u16_bytes (flags_of m)) (u16_bytes (length m.queries)) s3 in
    let a = stands_u16 bytes 0 m.id (stands_front bytes 0 (u16_bytes m.id) (u16_bytes (flags_of m)) s2) in
    let b = stands_u16 bytes 2 (flags_of m) (stands_back bytes 0 (u16_bytes m.id) (u16_bytes (flags_of m)) s2) in
    let c = stands_u16 bytes 4 (length m.queries)
    (stands_back bytes 0 (u16_bytes m.id ++ u16_bytes (flags_of m)) (u16_bytes (length m.queries)) s3) in
    let d = stands_u16 bytes 6 (length m.answers) (stands_back bytes 0 (u16_bytes m.id ++ u16_bytes (flags_of m)
    ++ u16_bytes (length m.queries)) (u16_bytes (length m.answers)) s4) in
    let e = stands_u16 bytes 8 (length m.authorities) (stands_back bytes 0 (u16_bytes m.id ++ u16_bytes (flags_of m)
    ++ u16_bytes (length m.queries) ++ u16_bytes (length m.answers)) (u16_bytes (length m.authorities)) s5) in
    let f = stands_u16 bytes 10 (length m.additionals + edns_count m.edns)
    (stands_back bytes 0 (u16_bytes m.id ++ u16_bytes (flags_of m) ++ u16_bytes (length m.queries)
    ++ u16_bytes (length m.answers) ++ u16_bytes (length m.authorities)) (u16_bytes (length m.additionals + edns_count m.edns)) s) in
    rw (a, b, c, d, e, f) refl

-- the parts of the second number
record IsFlags (f qr op aa tc rd ra ad cd code : ℕ) : Type 0 where
  qr_is : f / 32768 % 2 ≡ qr
  op_is : f / 2048 % 16 ≡ op
  aa_is : f / 1024 % 2 ≡ aa
  tc_is : f / 512 % 2 ≡ tc
  rd_is : f / 256 % 2 ≡ rd
  ra_is : f / 128 % 2 ≡ ra
  ad_is : f / 32 % 2 ≡ ad
  cd_is : f / 16 % 2 ≡ cd
  code_is : f % 16 ≡ code

flag_parts : (qr op aa tc rd ra ad cd code : ℕ) → qr ≤ 1 → op < 16 → aa ≤ 1 → tc ≤ 1 → rd ≤ 1 → ra ≤ 1 → ad ≤ 1 → cd ≤ 1 → code < 16
    → IsFlags (qr * 32768 + op * 2048 + aa * 1024 + tc * 512 + rd * 256 + ra * 128 + ad * 32 + cd * 16 + code) qr op aa tc rd ra ad cd code
flag_parts qr op aa tc rd ra ad cd code a b c d e f g h i = record {
  qr_is = omega arith;
  op_is = omega arith;
  aa_is = omega arith;
  tc_is = omega arith;
  rd_is = omega arith;
  ra_is = omega arith;
  ad_is = omega arith;
  cd_is = omega arith;
  code_is = omega arith;
}

-- ---- the message

-- a code fits in the header, and in the OPT where there is one
abbrev pub CodeFits : Option EdnsValue → ℕ → Type 0
CodeFits None code = code < 16
CodeFits (Some e) code = code < 4096

-- a message that is read again
pub record IsMessageAgain (m : MessageValue) : Type 0 where
  pub op : m.op_code < 16
  pub code : CodeFits m.edns m.response_code
  pub queries : AllByRecursion HasName m.queries
  pub answers : AllByRecursion IsRecordAgain m.answers
  pub authorities : AllByRecursion IsRecordAgain m.authorities
  pub additionals : AllByRecursion IsRecordAgain m.additionals
  pub edns : IfSome m.edns (λ e. IsOptAgain e (m.response_code / 16 % 256))

abbrev edns_in : Option (EdnsValue × ℕ) → Option EdnsValue
edns_in opt = option_map (λ o. o.0) opt

abbrev upper_code_in : Option (EdnsValue × ℕ) → ℕ
upper_code_in opt = option_map_or (λ o. o.1) opt 0

edns_back : (upper : ℕ) (o : Option EdnsValue) → edns_in (opt_with upper o) ≡ o
edns_back upper None = refl
edns_back upper (Some e) = refl

code_back : (o : Option EdnsValue) (code : ℕ) → CodeFits o code → upper_code_in (opt_with (code / 16 % 256) o) * 16 + code % 16 ≡ code
code_back None code h = omega (arith, h)
code_back (Some e) code h = omega (arith, h)

message_same : (m : MessageValue) → IsMessageAgain m
    → message_of (header_of m) m.queries m.answers m.authorities m.additionals (opt_with (m.response_code / 16 % 256) m.edns) ≡ m
message_same m g =
    let op : m.op_code % 16 ≡ m.op_code = omega (arith, g.op) in
    let p = flag_parts (flag_bit m.response) (m.op_code % 16) (flag_bit m.authoritative) (flag_bit m.truncated)
    (flag_bit m.recursion_desired) (flag_bit m.recursion_available)
    (flag_bit m.authentic_data) (flag_bit m.checking_disabled) (m.response_code % 16) (number_small m.response) (omega arith)
    (number_small m.authoritative) (number_small m.truncated)
    (number_small m.recursion_desired) (number_small m.recursion_available) (number_small m.authentic_data)
    (number_small m.checking_disabled) (omega arith) in
    let f : ℕ = flags_of m in
    let a : has_flag (flags_of m) 0x8000 ≡ m.response = do_flag m.response (flags_of m) 15 p.qr_is in
    let b : flags_of m / 2048 % 16 ≡ m.op_code = p.op_is ∙ op in
    let c : has_flag (flags_of m) 0x0400 ≡ m.authoritative = do_flag m.authoritative (flags_of m) 10 p.aa_is in
    let d : has_flag (flags_of m) 0x0200 ≡ m.truncated = do_flag m.truncated (flags_of m) 9 p.tc_is in
    let e : has_flag (flags_of m) 0x0100 ≡ m.recursion_desired = do_flag m.recursion_desired (flags_of m) 8 p.rd_is in
    let h : has_flag (flags_of m) 0x0080 ≡ m.recursion_available = do_flag m.recursion_available (flags_of m) 7 p.ra_is in
    let j : has_flag (flags_of m) 0x0020 ≡ m.authentic_data = do_flag m.authentic_data (flags_of m) 5 p.ad_is in
    let k : has_flag (flags_of m) 0x0010 ≡ m.checking_disabled = do_flag m.checking_disabled (flags_of m) 4 p.cd_is in
    let l : upper_code_in (opt_with (m.response_code / 16 % 256) m.edns) * 16 + flags_of m % 16 ≡ m.response_code =
    ap (λ (n : ℕ). upper_code_in (opt_with (m.response_code / 16 % 256) m.edns) * 16 + n) p.code_is
    ∙ code_back m.edns m.response_code g.code in
    let n : edns_in (opt_with (m.response_code / 16 % 256) m.edns) ≡ m.edns = edns_back (m.response_code / 16 % 256) m.edns in
    λ i. record {
      id = m.id;
      response = a i;
      op_code = b i;
      authoritative = c i;
      truncated = d i;
      recursion_desired = e i;
      recursion_available = h i;
      authentic_data = j i;
      checking_disabled = k i;
      response_code = l i;
      queries = m.queries;
      answers = m.answers;
      authorities = m.authorities;
      additionals = m.additionals;
      edns = n i;
    }

-- what is written is read
pub message_again : (m : MessageValue) → IsMessageAgain m → message_at (written m) ≡ Ok m
unfolding message_at written
message_again m g =
    let head : List ℕ = header_bytes m in
    let q : List ℕ = flat_map question_bytes m.queries in
    let a : List ℕ = flat_map record_bytes m.answers in
    let n : List ℕ = flat_map record_bytes m.authorities in
    let d : List ℕ = flat_map record_bytes m.additionals in
    let e : List ℕ = edns_bytes m.response_code m.edns in
    let bytes : List ℕ = header_bytes m ++ flat_map question_bytes m.queries ++ flat_map record_bytes m.answers
    ++ flat_map record_bytes m.authorities ++ flat_map record_bytes m.additionals ++ edns_bytes m.response_code m.edns in
    let s = stands_whole bytes in
    let s4 = stands_front bytes 0 (header_bytes m ++ flat_map question_bytes m.queries ++ flat_map record_bytes m.answers
    ++ flat_map record_bytes m.authorities ++ flat_map record_bytes m.additionals) (edns_bytes m.response_code m.edns) s in
    let s3 = stands_front bytes 0 (header_bytes m ++ flat_map question_bytes m.queries ++ flat_map record_bytes m.answers
    ++ flat_map record_bytes m.authorities) (flat_map record_bytes m.additionals) s4 in
    let s2 = stands_front bytes 0 (header_bytes m ++ flat_map question_bytes m.queries ++ flat_map record_bytes m.answers)
    (flat_map record_bytes m.authorities) s3 in
    let s1 = stands_front bytes 0 (header_bytes m ++ flat_map question_bytes m.queries) (flat_map record_bytes m.answers) s2 in
    let s0 = stands_front bytes 0 (header_bytes m) (flat_map question_bytes m.queries) s1 in
    let l1 : length (header_bytes m ++ flat_map question_bytes m.queries) ≡ 12 + length (flat_map question_bytes m.queries) =
    length-append (header_bytes m) (flat_map question_bytes m.queries) in
    let l2 : length (header_bytes m ++ flat_map question_bytes m.queries ++ flat_map record_bytes m.answers)
    ≡ length (header_bytes m ++ flat_map question_bytes m.queries) + length (flat_map record_bytes m.answers) =
    length-append (header_bytes m ++ flat_map question_bytes m.queries) (flat_map record_bytes m.answers) in
    let l3 : length (header_bytes m ++ flat_map question_bytes m.queries ++ flat_map record_bytes m.answers
    ++ flat_map record_bytes m.authorities)
    ≡ length (header_bytes m ++ flat_map question_bytes m.queries ++ flat_map record_bytes m.answers) + length
    (flat_map record_bytes m.authorities) =
    length-append (header_bytes m ++ flat_map question_bytes m.queries ++ flat_map record_bytes m.answers)
    (flat_map record_bytes m.authorities) in
    let l4 : length (header_bytes m ++ flat_map question_bytes m.queries ++ flat_map record_bytes m.answers
    ++ flat_map record_bytes m.authorities ++ flat_map record_bytes m.additionals)
    ≡ length (header_bytes m ++ flat_map question_bytes m.queries ++ flat_map record_bytes m.answers
    ++ flat_map record_bytes m.authorities) + length (flat_map record_bytes m.additionals) =
    length-append (header_bytes m ++ flat_map question_bytes m.queries ++ flat_map record_bytes m.answers
    ++ flat_map record_bytes m.authorities) (flat_map record_bytes m.additionals) in
    let l5 : length bytes ≡ length (header_bytes m ++ flat_map question_bytes m.queries ++ flat_map record_bytes m.answers
    ++ flat_map record_bytes m.authorities ++ flat_map record_bytes m.additionals) + length (edns_bytes m.response_code m.edns) =
    length-append (header_bytes m ++ flat_map question_bytes m.queries ++ flat_map record_bytes m.answers
    ++ flat_map record_bytes m.authorities ++ flat_map record_bytes m.additionals) (edns_bytes m.response_code m.edns) in
    let p1 : ℕ = 12 + length (flat_map question_bytes m.queries) in
    let p2 : ℕ = 12 + length (flat_map question_bytes m.queries) + length (flat_map record_bytes m.answers) in
    let p3 : ℕ = 12 + length (flat_map question_bytes m.queries) + length (flat_map record_bytes m.answers) + length
    (flat_map record_bytes m.authorities) in
    let p4 : ℕ = 12 + length (flat_map question_bytes m.queries) + length (flat_map record_bytes m.answers) + length
    (flat_map record_bytes m.authorities) + length (flat_map record_bytes m.additionals) in
    let read_header = header_again m bytes s0 in
    let read_questions = questions_again m.queries bytes 12 g.queries
    (stands_back bytes 0 (header_bytes m) (flat_map question_bytes m.queries) s1) in
    let read_answers = section_again m.answers false bytes p1 g.answers
    (stands_at bytes _ _ (flat_map record_bytes m.answers) (omega (arith, l1))
    (stands_back bytes 0 (header_bytes m ++ flat_map question_bytes m.queries) (flat_map record_bytes m.answers) s2)) in
    let read_authorities = section_again m.authorities false bytes p2 g.authorities
    (stands_at bytes _ _ (flat_map record_bytes m.authorities) (omega (arith, l1, l2))
    (stands_back bytes 0 (header_bytes m ++ flat_map question_bytes m.queries ++ flat_map record_bytes m.answers)
    (flat_map record_bytes m.authorities) s3)) in
    let read_additionals = additional_again m.response_code m.additionals m.edns bytes p3 g.additionals g.edns
    (stands_at bytes _ _ (flat_map record_bytes m.additionals) (omega (arith, l1, l2, l3))
    (stands_back bytes 0 (header_bytes m ++ flat_map question_bytes m.queries ++ flat_map record_bytes m.answers
    ++ flat_map record_bytes m.authorities) (flat_map record_bytes m.additionals) s4))
    (stands_at bytes _ _ (edns_bytes m.response_code m.edns) (omega (arith, l1, l2, l3, l4))
    (stands_back bytes 0 (header_bytes m ++ flat_map question_bytes m.queries ++ flat_map record_bytes m.answers
    ++ flat_map record_bytes m.authorities ++ flat_map record_bytes m.additionals) (edns_bytes m.response_code m.edns) s)) in
    let last : nat_lt (p4 + length (edns_bytes m.response_code m.edns)) (length bytes) ≡ false =
    grind (arith, nat_tests, l1, l2, l3, l4, l5) in
    rw (
      read_header,
      read_questions,
      read_answers,
      read_authorities,
      read_additionals,
      last,
    ) (ap (λ (x : MessageValue). Ok x) (message_same m g))

good_parts : (h : HeaderValue) (q : List Question) (a n d : List Rr) (o p r : Option (EdnsValue × ℕ)) → AllByRecursion HasName q
    → IsSectionAgain a p → IsSectionAgain n r → IsSectionAgain d o
    → IsMessageAgain (message_of h q a n d o)
good_parts h q a n d None p r gq ga gn gd = record {
  op = omega arith;
  code = omega arith;
  queries = gq;
  answers = ga.each;
  authorities = gn.each;
  additionals = gd.each;
  edns = tt;
}
good_parts h q a n d (Some opt) p r gq ga gn gd =
    let upper : opt.1 < 256 = gd.taken.upper in
    let same : (opt.1 * 16 + h.flags % 16) / 16 % 256 ≡ opt.1 = omega (arith, upper) in
    record {
      op = omega arith;
      code = omega (arith, upper);
      queries = gq;
      answers = ga.each;
      authorities = gn.each;
      additionals = gd.each;
      edns = subst (IsOptAgain opt.0) (sym same) gd.taken;
    }

pub same_message : (a b : MessageValue) → (let r : Result MessageValue DecodeError = Ok a in r) ≡ Ok b → a ≡ b
same_message a b h = cc

pub no_trailing : (test : Bool) (place : ℕ) (a b : MessageValue)
    → cond {A = Result MessageValue DecodeError} test (Err (fault Trailing place)) (Ok a) ≡ Ok b → a ≡ b
no_trailing true place a b h = absurd cc
no_trailing false place a b h = same_message a b h

pub message_good : (bytes : List ℕ) (m : MessageValue) → AreBytes bytes → message_at bytes ≡ Ok m → IsMessageAgain m
unfolding message_at
message_good bytes m fits h =
    let a = bind_ok (header_at bytes) _ m h in
    let b = bind_ok (questions_at a.0.questions bytes 12) _ m a.2 in
    let c = bind_ok (section_at a.0.answers false bytes b.0.1) _ m b.2 in
    let d = bind_ok (section_at a.0.authorities false bytes c.0.2) _ m c.2 in
    let e = bind_ok (section_at a.0.additionals true bytes d.0.2) _ m d.2 in
    let made : MessageValue = message_of a.0 b.0.0 c.0.0 d.0.0 e.0.0 e.0.1 in
    let same : message_of a.0 b.0.0 c.0.0 d.0.0 e.0.0 e.0.1 ≡ m =
    no_trailing (nat_lt e.0.2 (length bytes)) e.0.2 (message_of a.0 b.0.0 c.0.0 d.0.0 e.0.0 e.0.1) m e.2 in
    subst IsMessageAgain same (good_parts a.0 b.0.0 c.0.0 d.0.0 e.0.0 e.0.1 c.0.1 d.0.1 (questions_good a.0.questions bytes 12 b.0 b.1)
    (section_good a.0.answers false bytes b.0.1 c.0.0 c.0.1 c.0.2 fits c.1)
    (section_good a.0.authorities false bytes c.0.2 d.0.0 d.0.1 d.0.2 fits d.1)
    (section_good a.0.additionals true bytes d.0.2 e.0.0 e.0.1 e.0.2 fits e.1))

-- where some bytes are a message, its written form is it too
pub written_again : (m : MessageValue) (bytes : List ℕ) → AreBytes bytes → message_at bytes ≡ Ok m → message_at (written m) ≡ Ok m
written_again m bytes fits h = message_again m (message_good bytes m fits h)

pub encoded_is : (test : Bool) (m : MessageValue) (out : List ℕ)
    → cond {A = Result (List ℕ) EncodeError} test (Ok (written m)) (Err TooLong) ≡ Ok out → written m ≡ out
encoded_is true m out h = cc
encoded_is false m out h = absurd cc

encoded_again : (m : MessageValue) (out : List ℕ) → encoded m ≡ Ok out → IsReadAgain m out
unfolding encoded
encoded_again m out h = λ bytes fits read. subst (λ (o : List ℕ). message_at o ≡ Ok m)
    (encoded_is (nat_le (length (written m)) 65535) m out h) (written_again m bytes fits read)

-- what a writer gave is read again
pub given_again : (m : MessageValue) (r : Result (List ℕ) EncodeError) → Gives (λ o. o) NoMemory r (encoded m)
    → IfOk r (λ o. IsReadAgain m o)
given_again m (Ok out) h = encoded_again m out h
given_again m (Err e) h = tt

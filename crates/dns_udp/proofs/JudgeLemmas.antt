-- What an answer has of its request: the id and the questions.
use Rattle.std.proofs.Common.{◌≡◌, ℕ, ◌==◌, Bool, true, false, List, [], ◌∷◌, length, map, Option, None, Some, Result, Ok, Err, refl, sym, ap, ◌∙◌, subst, inl, inr}
use Rattle.std.specs.Prelude.{◌&&◌, ◌||◌, not, nat_le, if◌then◌else◌}
use Rattle.std.specs.List.{list_all, list_any}
use Rattle.std.specs.declared.net.socket_addr.SocketAddr.{SocketAddr}
use Rattle.std.proofs.lemmas.Bool.{and_parts, and_from, cases_lt}
use Rattle.std.proofs.lemmas.List.{length-map}
use Rattle.dns_model.specs.Bytes.{u16_at}
use Rattle.dns_model.specs.Records.{MessageValue, Question, question_eq}
use Rattle.dns_model.proofs.QuestionLemmas.{question_trans}
use Rattle.dns_model.proofs.SetLemmas.{number_same}
use Rattle.dns_message.specs.declared.decode_error.DecodeError.{DecodeError}
use Rattle.dns_message.specs.MessageAt.{HeaderValue, header_at, message_at, questions_at}
use Rattle.dns_message.specs.RecordAt.{section_at}
use Rattle.dns_message.proofs.HeaderReading.{header_short, header_whole}
use Rattle.dns_message.proofs.RecordReading.{bind_ok}
use Rattle.dns_udp.specs.declared.acceptance.Accepted.TheVariants.{Ignored, CaseMismatch, Answer}
use Rattle.dns_udp.specs.Acceptance.{accepted, accepted_message, accepted_reading}
use Rattle.dns_udp.specs.Addresses.{is_same_peer}
use Rattle.dns_udp.specs.Questions.{asks_alike, spells_alike}
use Rattle.dns_udp.specs.Requests.{put_back, questions_put_back}

-- ---- the id is the first two bytes

ok_same : {X E : Type 0} (a b : X) → (let r : Result X E = Ok a in r) ≡ Ok b → a ≡ b
ok_same a b h = cc

ended_ok : {X E : Type 0} (error : E) (is_fault : Bool) (made read : X)
    → (if is_fault then Err error else Ok made) ≡ Ok read → made ≡ read
ended_ok error true made read h = absurd (cc)
ended_ok error false made read h = ok_same made read h

header_id : (bytes : List ℕ) (header : HeaderValue) → header_at bytes ≡ Ok header → header.id ≡ u16_at bytes 0
header_id bytes header h =
    elim (cases_lt (length bytes) 12) [
      | inl below ↦ let short = header_short bytes below in absurd (cc)
      | inr whole ↦ ap (λ (x : HeaderValue). x.id) (ok_same header _ (sym h ∙ header_whole bytes whole))
    ]

message_id : (bytes : List ℕ) (message : MessageValue) → message_at bytes ≡ Ok message → message.id ≡ u16_at bytes 0
unfolding message_at
message_id bytes message h =
    let a = bind_ok (header_at bytes) _ message h in
    let b = bind_ok (questions_at a.0.questions bytes 12) _ message a.2 in
    let c = bind_ok (section_at a.0.answers false bytes b.0.1) _ message b.2 in
    let d = bind_ok (section_at a.0.authorities false bytes c.0.2) _ message c.2 in
    let e = bind_ok (section_at a.0.additionals true bytes d.0.2) _ message d.2 in
    ap (λ (m : MessageValue). m.id) (sym (ended_ok _ _ _ message e.2)) ∙ header_id bytes a.0 a.1

-- ---- an answer

answer_message : (request : MessageValue) (case : Bool) (message answer : MessageValue)
    → accepted_message request case message ≡ Answer answer
    → (message ≡ answer) × (asks_alike request.queries message.queries ≡ true)
answer_message request case message answer h =
    by_tests (asks_alike request.queries message.queries) case (spells_alike request.queries message.queries) h
  where
    by_tests : (asked on spelled : Bool)
        → (if not asked then Ignored else if on && not spelled then CaseMismatch else Answer message) ≡ Answer answer
        → (message ≡ answer) × (asked ≡ true)
    by_tests false on spelled h = absurd (cc)
    by_tests true true false h = absurd (cc)
    by_tests true true true h = (cc, refl)
    by_tests true false spelled h = (cc, refl)

pub record IsAnswerTo (request answer : MessageValue) : Type 0 where
  pub id : answer.id ≡ request.id
  pub questions : asks_alike request.queries answer.queries ≡ true

answer_reading : (request : MessageValue) (case : Bool) (bytes : List ℕ) (read : Result MessageValue DecodeError)
    (answer : MessageValue)
    → message_at bytes ≡ read → u16_at bytes 0 ≡ request.id → accepted_reading request case read ≡ Answer answer
    → IsAnswerTo request answer
answer_reading request case bytes (Err error) answer h id accept = absurd (cc)
answer_reading request case bytes (Ok message) answer h id accept =
    let parts = answer_message request case message answer accept in
    let first : message.id ≡ u16_at bytes 0 = message_id bytes message h in
    record {
      id = sym (ap (λ (m : MessageValue). m.id) parts.0) ∙ first ∙ id;
      questions = subst (λ (m : MessageValue). asks_alike request.queries m.queries ≡ true) parts.0 parts.1;
    }

pub answer_has : (request : MessageValue) (server : SocketAddr) (case : Bool) (from : SocketAddr) (bytes : List ℕ)
    (answer : MessageValue)
    → accepted request server case from bytes ≡ Answer answer → IsAnswerTo request answer
answer_has request server case from bytes answer h = by_address (is_same_peer server from) (nat_le 2 (length bytes)) h
  where
    by_id : (id : Bool) → ((u16_at bytes 0 == request.id) ≡ id)
        → (if id then accepted_reading request case (message_at bytes) else Ignored) ≡ Answer answer
        → IsAnswerTo request answer
    by_id true same h = answer_reading request case bytes (message_at bytes) answer refl
        (number_same (u16_at bytes 0) request.id same) h
    by_id false same h = absurd (cc)

    by_address : (peer two : Bool)
        → (if peer && (two && (u16_at bytes 0 == request.id)) then accepted_reading request case
        (message_at bytes) else Ignored) ≡ Answer answer
        → IsAnswerTo request answer
    by_address true true h = by_id (u16_at bytes 0 == request.id) refl h
    by_address true false h = absurd (cc)
    by_address false two h = absurd (cc)

-- ---- the original question put back

any_original : (asked : List Question) (original q : Question) → question_eq q original ≡ true
    → list_any (λ a. question_eq a q) asked ≡ true
    → list_any (λ a. question_eq a original) asked ≡ true
any_original [] original q same h = h
any_original (a ∷ asked) original q same h = by_first (question_eq a q) refl h (any_original asked original q same)
  where
    or_later : (b : Bool) {c : Bool} → c ≡ true → (b || c) ≡ true
    or_later true h = refl
    or_later false h = h

    by_first : (first : Bool) → question_eq a q ≡ first → (first || list_any (λ x. question_eq x q) asked) ≡ true
        → (list_any (λ x. question_eq x q) asked ≡ true → list_any (λ x. question_eq x original) asked ≡ true)
        → list_any (λ x. question_eq x original) (a ∷ asked) ≡ true
    by_first true e h rest = let one : question_eq a original ≡ true = question_trans a q original e same in rw one refl
    by_first false e h rest = or_later (question_eq a original) (rest h)

any_put_back : (asked : List Question) (original q : Question) → list_any (λ a. question_eq a q) asked ≡ true
    → list_any (λ a. question_eq a (put_back original q)) asked ≡ true
any_put_back asked original q h = by_same (question_eq q original) refl
  where
    by_same : (same : Bool) → question_eq q original ≡ same
        → list_any (λ a. question_eq a (if same then original else q)) asked ≡ true
    by_same true e = any_original asked original q e h
    by_same false e = h

all_put_back : (asked : List Question) (original : Question) (found : List Question)
    → list_all (λ q. list_any (λ a. question_eq a q) asked) found ≡ true
    → list_all (λ q. list_any (λ a. question_eq a q) asked) (map (put_back original) found) ≡ true
all_put_back asked original [] h = refl
all_put_back asked original (q ∷ found) h =
    let parts = and_parts (list_any (λ a. question_eq a q) asked)
    (list_all (λ x. list_any (λ a. question_eq a x) asked) found) h in
    and_from _ _ (any_put_back asked original q parts.0) (all_put_back asked original found parts.1)

asks_put_back : (asked : List Question) (original : Question) (found : List Question) → asks_alike asked found ≡ true
    → asks_alike asked (map (put_back original) found) ≡ true
asks_put_back asked original found h =
    let parts = and_parts (length asked == length found)
    (list_all (λ q. list_any (λ a. question_eq a q) asked) found) h in
    let same : length (map (put_back original) found) ≡ length found = length-map found (put_back original) in
    and_from (length asked == length (map (put_back original) found)) _ (rw same parts.0)
    (all_put_back asked original found parts.1)

pub asks_restored : (case : Bool) (original : Option Question) (asked found : List Question)
    → asks_alike asked found ≡ true
    → asks_alike asked (questions_put_back case original found) ≡ true
asks_restored false original asked found h = h
asks_restored true None asked found h = h
asks_restored true (Some original) asked found h = asks_put_back asked original found h

-- Answers found by owner and type are those found among the records.
use Rattle.std.proofs.Common.{◌≡◌, ℕ, Bool, true, false, not, cond, ◌&&◌, ◌||◌, ◌==◌, List, [], ◌∷◌, ◌++◌, refl, sym, ap, ◌∙◌, inl, inr, arith}
use Rattle.std.specs.List.{list_any}
use Rattle.std.specs.Ordering.{is_eq}
use Rattle.std.specs.BTreeSet as tree
use Rattle.std.specs.BTreeSet.{BTreeSet}
use Rattle.std.proofs.lemmas.List.Folds.{list_any-append}
use Rattle.std.proofs.lemmas.Bool.{or_cases, or_left, or_right, eqb-true}
use Rattle.dns_model.specs.Names.{Label, Labels, name_eq, at_or_above}
use Rattle.dns_model.specs.Types.{type_soa}
use Rattle.dns_model.specs.Records.{Rr, Question, MessageValue}
use Rattle.dns_model.proofs.AboveLemmas.{above_tail, above_one_more, below_alike, above_itself}
use Rattle.dns_model.proofs.LabelSteps.{at_or_above-longer}
use Rattle.dns_model.proofs.TestLemmas.{same_test, and_true, or_false, or_twice}
use Rattle.dns_model.proofs.EachLemmas.{any_agree}
use Rattle.dns_model.proofs.SetLemmas.{number_back}
use Rattle.dns_handle.specs.declared.query_key.QueryKey.{QueryKey}
use Rattle.dns_handle.specs.QueryKeys.{key_cmp, key_of}
use Rattle.dns_handle.specs.Responses.{type_any, answers_to, takes_any_answer, is_empty, all_records, contains_answer}
use Rattle.dns_handle.specs.AnswerIndex.{asked, has_at, Noted, is_noted, RecordNoted, AllNoted, Indexes, takes_answers, zone_at, answered_by}
use Rattle.dns_handle.proofs.KeyLemmas.{key_ties}

-- ---- truth values

or_assoc : (a b c : Bool) → ((a || b) || c) ≡ (a || (b || c))
or_assoc true b c = refl
or_assoc false b c = refl

and_or : (a b c : Bool) → ((a && b) || (a && c)) ≡ (a && (b || c))
and_or true b c = refl
and_or false b c = refl

and_swap : (a b : Bool) → (a && b) ≡ (b && a)
and_swap true true = refl
and_swap true false = refl
and_swap false true = refl
and_swap false false = refl

-- ---- tests of lists

any_either : {X : Type 0} (p q : X → Bool) (xs : List X) → list_any (λ x. p x || q x) xs ≡ (list_any p xs || list_any q xs)
any_either p q [] = refl
any_either p q (x ∷ xs) = rw (any_either p q xs) (or_twice (p x) (q x) (list_any p xs) (list_any q xs))

or_and : (a b c : Bool) → ((a && c) || (b && c)) ≡ ((a || b) && c)
or_and true true true = refl
or_and true true false = refl
or_and true false true = refl
or_and true false false = refl
or_and false b c = refl

any_both : {X : Type 0} (p : X → Bool) (b : Bool) (xs : List X) → list_any (λ x. p x && b) xs ≡ (list_any p xs && b)
any_both p b [] = refl
any_both p b (x ∷ xs) = rw (any_both p b xs) (or_and (p x) (list_any p xs) b)

-- ---- one more in the index

put_case : (b old : Bool) → cond b true old ≡ (old || b)
put_case true true = refl
put_case true false = refl
put_case false old = sym (or_false old)

-- an owner and a type are put in
pub noted : (old new : BTreeSet QueryKey) (owner : Labels) (rtype : ℕ) (key : QueryKey) → key ≡ key_of (asked owner rtype)
    → tree.Updates key_cmp old new key true → Noted old new owner rtype
noted old new owner rtype key is updates o t =
    let k = key_of (asked o t) in
    let tie : is_eq (key_cmp key k) ≡ (name_eq owner o && (rtype == t)) =
    ap (λ x. is_eq (key_cmp x k)) is ∙ sym (key_ties (asked owner rtype) (asked o t))
    ∙ ap (λ b. name_eq owner o && b) (and_true (rtype == t)) in
    updates.0 k ∙ put_case (is_eq (key_cmp key k)) (has_at old o t) ∙ ap (λ b. has_at old o t || b) tie

-- a record is put in by its type and by ANY
pub record_noted : (old mid new : BTreeSet QueryKey) (r : Rr) → Noted old mid r.owner r.rtype → Noted mid new r.owner type_any
    → RecordNoted old new r
record_noted old mid new r first second o t =
    second o t ∙ ap (λ b. b || (name_eq r.owner o && (type_any == t))) (first o t)
    ∙ or_assoc (has_at old o t) (name_eq r.owner o && (r.rtype == t)) (name_eq r.owner o && (type_any == t))
    ∙ ap (λ b. has_at old o t || b) (and_or (name_eq r.owner o) (r.rtype == t) (type_any == t))

pub none_noted : (index : BTreeSet QueryKey) → AllNoted index index []
none_noted index o t = sym (or_false (has_at index o t))

pub more_noted : (old mid new : BTreeSet QueryKey) (rs : List Rr) (r : Rr) → AllNoted old mid rs → RecordNoted mid new r
    → AllNoted old new (rs ++ r ∷ [])
more_noted old mid new rs r before here o t =
    here o t ∙ ap (λ b. b || is_noted o t r) (before o t) ∙ or_assoc (has_at old o t) (list_any (is_noted o t) rs) (is_noted o t r)
    ∙ ap (λ b. has_at old o t || (list_any (is_noted o t) rs || b)) (sym (or_false (is_noted o t r)))
    ∙ ap (λ b. has_at old o t || b) (sym (list_any-append (is_noted o t) rs (r ∷ [])))

-- three sections are put in
pub indexed : (none one two three : BTreeSet QueryKey) (message : MessageValue) → none.keys ≡ [] → AllNoted none one message.answers
    → AllNoted one two message.authorities → AllNoted two three message.additionals → Indexes three message
indexed none one two three message empty first second third o t =
    let p = is_noted o t in
    let start : has_at none o t ≡ false = ap (λ ks. list_any (λ k. is_eq (key_cmp (key_of (asked o t)) k)) ks) empty in
    third o t ∙ ap (λ b. b || list_any p message.additionals) (second o t)
    ∙ ap (λ b. (b || list_any p message.authorities) || list_any p message.additionals) (first o t)
    ∙ ap (λ b. ((b || list_any p message.answers) || list_any p message.authorities) || list_any p message.additionals) start
    ∙ or_assoc (list_any p message.answers) (list_any p message.authorities) (list_any p message.additionals)
    ∙ ap (λ b. list_any p message.answers || b) (sym (list_any-append p message.authorities message.additionals))
    ∙ sym (list_any-append p message.answers (message.authorities ++ message.additionals))

-- ---- what the index answers

-- an equal name is at or above
equal_above : (zone name : Labels) → name_eq zone name ≡ true → at_or_above zone name ≡ true
equal_above zone name same = below_alike zone zone name same (above_itself zone)

-- a name in a zone is the zone's own or below one more label
above_step : (zone : Labels) (label : Label) (name : Labels)
    → (name_eq zone (label ∷ name) || at_or_above zone name) ≡ at_or_above zone (label ∷ name)
above_step zone label name =
    same_test _ _
    (λ h. elim (or_cases (name_eq zone (label ∷ name)) (at_or_above zone name) h) as (λ _. at_or_above zone (label ∷ name) ≡ true) [
      | inl same ↦ equal_above zone (label ∷ name) same
      | inr above ↦ above_one_more zone label name above
    ])
    (λ h. elim (above_tail zone label name h) as (λ _. (name_eq zone (label ∷ name) || at_or_above zone name) ≡ true) [
      | inl same ↦ or_left _ _ same
      | inr above ↦ or_right _ _ above
    ])

abbrev is_soa_above : Labels → Rr → Bool
is_soa_above name r = (r.rtype == type_soa) && at_or_above r.owner name

noted_soa : (name : Labels) (r : Rr) → is_noted name type_soa r ≡ ((r.rtype == type_soa) && name_eq r.owner name)
noted_soa name r = ap (λ b. name_eq r.owner name && b) (or_false (r.rtype == type_soa))
    ∙ and_swap (name_eq r.owner name) (r.rtype == type_soa)

root_above-eq : (zone : Labels) → name_eq zone [] ≡ at_or_above zone []
root_above-eq [] = refl
root_above-eq (label ∷ zone) = at_or_above-longer (label ∷ zone) [] (omega arith)

-- the index has an SOA at the name or above it exactly where some record is one
zone_found : (has : Labels → ℕ → Bool) (rs : List Rr) → ((o : Labels) (t : ℕ) → has o t ≡ list_any (is_noted o t) rs)
    → (name : Labels) → zone_at has name ≡ list_any (is_soa_above name) rs
zone_found has rs are [] =
    are [] type_soa ∙ any_agree (is_noted [] type_soa) (is_soa_above [])
    (λ r. noted_soa [] r ∙ ap (λ b. (r.rtype == type_soa) && b) (root_above-eq r.owner)) rs
zone_found has rs are (label ∷ name) =
    ap (λ b. b || zone_at has name) (are (label ∷ name) type_soa)
    ∙ ap (λ b. list_any (is_noted (label ∷ name) type_soa) rs || b) (zone_found has rs are name)
    ∙ sym (any_either (is_noted (label ∷ name) type_soa) (is_soa_above name) rs)
    ∙ any_agree (λ r. is_noted (label ∷ name) type_soa r || is_soa_above name r) (is_soa_above (label ∷ name))
    (λ r. ap (λ b. b || is_soa_above name r) (noted_soa (label ∷ name) r)
    ∙ and_or (r.rtype == type_soa) (name_eq r.owner (label ∷ name)) (at_or_above r.owner name)
    ∙ ap (λ b. (r.rtype == type_soa) && b) (above_step r.owner label name)) rs

-- the name itself has an SOA
pub zone_here : (has : Labels → ℕ → Bool) (name : Labels) → has name type_soa ≡ true → true ≡ zone_at has name
zone_here has [] here = sym here
zone_here has (label ∷ name) here = sym (or_left (has (label ∷ name) type_soa) (zone_at has name) here)

soa_answers : (q : Question) (r : Rr) → (q.rtype == type_soa) ≡ true → is_soa_above q.owner r ≡ answers_to q r
soa_answers q r soa =
    let e : q.rtype ≡ type_soa = eqb-true q.rtype type_soa soa in
    let other : (q.rtype == type_any) ≡ false = ap (λ t. t == type_any) e in
    rw (other, soa) refl

noted_answers : (q : Question) (r : Rr) (any : Bool) → (q.rtype == type_any) ≡ any → (q.rtype == type_soa) ≡ false
    → is_noted q.owner q.rtype r ≡ answers_to q r
noted_answers q r true any soa =
    let e : (type_any == q.rtype) ≡ true = number_back type_any q.rtype ∙ any in
    let each : answers_to q r ≡ name_eq r.owner q.owner = rw any refl in
    ap (λ b. name_eq r.owner q.owner && b) (or_right (r.rtype == q.rtype) (type_any == q.rtype) e)
    ∙ and_true (name_eq r.owner q.owner) ∙ sym each
noted_answers q r false any soa =
    let e : (type_any == q.rtype) ≡ false = number_back type_any q.rtype ∙ any in
    let each : answers_to q r ≡ ((r.rtype == q.rtype) && name_eq r.owner q.owner) = rw (any, soa) refl in
    ap (λ b. name_eq r.owner q.owner && ((r.rtype == q.rtype) || b)) e
    ∙ ap (λ b. name_eq r.owner q.owner && b) (or_false (r.rtype == q.rtype))
    ∙ and_swap (name_eq r.owner q.owner) (r.rtype == q.rtype) ∙ sym each

found_case : (has : Labels → ℕ → Bool) (rs : List Rr) → ((o : Labels) (t : ℕ) → has o t ≡ list_any (is_noted o t) rs)
    → (q : Question) (soa : Bool)
    → (q.rtype == type_soa) ≡ soa → cond soa (zone_at has q.owner) (has q.owner q.rtype) ≡ list_any (answers_to q) rs
found_case has rs are q true soa = zone_found has rs are q.owner
    ∙ any_agree (is_soa_above q.owner) (answers_to q) (λ r. soa_answers q r soa) rs
found_case has rs are q false soa =
    are q.owner q.rtype ∙ any_agree (is_noted q.owner q.rtype) (answers_to q) (λ r. noted_answers q r (q.rtype == type_any) refl soa) rs

-- the index answers a question exactly where a record does
pub found : (has : Labels → ℕ → Bool) (rs : List Rr) → ((o : Labels) (t : ℕ) → has o t ≡ list_any (is_noted o t) rs) → (q : Question)
    → answered_by has q ≡ list_any (answers_to q) rs
found has rs are q = found_case has rs are q (q.rtype == type_soa) refl

-- a message answers a question of it where its answer section has a record and some question takes any, or where the index answers one
pub contains_found : (index : BTreeSet QueryKey) (message : MessageValue) → Indexes index message
    → contains_answer message ≡ (takes_answers message || list_any (answered_by (has_at index)) message.queries)
contains_found index message are =
    let rs = all_records message in
    let taken = not (is_empty message.answers) in
    any_either (λ q. takes_any_answer q.rtype && taken) (λ q. list_any (answers_to q) rs) message.queries
    ∙ ap (λ b. b || list_any (λ q. list_any (answers_to q) rs) message.queries)
    (any_both (λ q. takes_any_answer q.rtype) taken message.queries)
    ∙ ap (λ b. takes_answers message || b)
    (sym (any_agree (answered_by (has_at index)) (λ q. list_any (answers_to q) rs) (λ q. found (has_at index) rs are q) message.queries))

-- without the index, where some question takes any answer
pub contains_any : (message : MessageValue) → takes_answers message ≡ true → contains_answer message ≡ true
contains_any message any =
    let rs = all_records message in
    let taken = not (is_empty message.answers) in
    any_either (λ q. takes_any_answer q.rtype && taken) (λ q. list_any (answers_to q) rs) message.queries
    ∙ ap (λ b. b || list_any (λ q. list_any (answers_to q) rs) message.queries)
    (any_both (λ q. takes_any_answer q.rtype) taken message.queries ∙ any)

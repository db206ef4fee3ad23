-- The entries of a step stay when steps are appended; and how an entry is made.
use Rattle.std.proofs.Common.{◌≡◌, ℕ, suc, ◌+◌, Bool, true, false, ◌==◌, ◌&&◌, List, [], ◌∷◌, ◌++◌, length, take, Option, None, Some, slice_get, if◌then◌else◌, refl, sym, ap, ◌∙◌, arith}
use Rattle.std.specs.Option.{option_map_or}
use Rattle.std.proofs.lemmas.Bool.{and_parts, and_from}
use Rattle.dns_model.specs.declared.proof.Proof.{Proof}
use Rattle.dns_model.specs.declared.proof.Proof.TheVariants.{Secure, Insecure, Bogus, Indeterminate}
use Rattle.dns_model.specs.declared.trail.AskRef.{AskRef}
use Rattle.dns_model.specs.declared.trail.MarkOrigin.{MarkOrigin}
use Rattle.dns_model.specs.declared.trail.MarkOrigin.TheVariants.{Table, Repeat, Cache}
use Rattle.dns_model.specs.Names.{name_eq}
use Rattle.dns_model.specs.Types.{type_dnskey}
use Rattle.dns_model.specs.Trails.{AskedValue, JudgedSetValue}
use Rattle.dns_model.specs.SoundAnswers.{PlacedSet, section_eq}
use Rattle.dns_model.proofs.SetLemmas.{name_refl, number_refl, number_same, section_refl}
use Rattle.dns_rules.specs.MarkedSets.{MarkedSet}
use Rattle.dns_rules.specs.Marks.{Verdict, judged_by, most_signatures}
use Rattle.dns_rules.specs.Delegations.{ZoneVerdict, ds_question, zone_verdict}
use Rattle.dns_rules.specs.Unsigned.{set_start, needs_zone, unsigned_by}
use Rattle.dns_rules.specs.KeySets.{needs_ds, judged_keys}
use Rattle.dns_rules.specs.Derivation.{StepContext, with_entries, finished_answer, is_ask, verdicts_by, proof_eq, has_mark_of, is_empty, zone_asked, search_from, keys_hold, unsigned_holds, is_by_origin, entry_holds, entries_hold}
use Rattle.dns_rules.specs.DerivationParts.{with_entry, place_eq, is_by_verdicts, is_by_search, repeats_step}
use Rattle.dns_rules.proofs.StayLemmas.{slice_get-stays, later_step_context, verdicts_stay}
use Rattle.dns_rules.proofs.SearchLemmas.{zone_from, zone_stays, search_stays}

-- ---- the entry of a key set

-- the entry has the mark by a DS verdict, where there is one
abbrev pub is_by_zone : StepContext → PlacedSet → JudgedSetValue → Option ZoneVerdict → Bool
is_by_zone g placed entry zone = option_map_or (λ z. has_mark_of (judged_keys g.judge placed (Some z)) entry) zone false

keys_step_stays : (g : StepContext) (needs x : Bool) (placed : PlacedSet) (entry : JudgedSetValue) (o p : Option ZoneVerdict)
    → (if needs then is_by_zone g placed entry o else x) ≡ true → ((zone : ZoneVerdict) → o ≡ Some zone → p ≡ Some zone)
    → (if needs then is_by_zone g placed entry p else x) ≡ true
keys_step_stays g false x placed entry o p h stays = h
keys_step_stays g true x placed entry None p h stays = cc
keys_step_stays g true x placed entry (Some zone) p h stays = ap (is_by_zone g placed entry) (stays zone refl) ∙ h

-- a key set's entry, with its ask, stays when steps are appended
pub keys_stay : (g : StepContext) (more : List AskedValue) (placed : PlacedSet) (entry : JudgedSetValue) → keys_hold g placed entry ≡ true
    → keys_hold (later_step_context g more) placed entry ≡ true
keys_stay g more placed entry h =
    let class = placed.set.class in
    let owner = placed.set.owner in
    keys_step_stays g (needs_ds g.judge placed.set) (is_empty entry.asked && has_mark_of (judged_keys g.judge placed None) entry)
    placed entry
    (zone_asked g class owner entry.asked) (zone_asked (later_step_context g more) class owner entry.asked) h
    (zone_stays g more class owner entry.asked)

-- ---- the entry of an unsigned set

searched_stays : (placed : PlacedSet) (entry : JudgedSetValue) (o p : Option ZoneVerdict) → is_by_search placed entry o ≡ true
    → ((zone : ZoneVerdict) → o ≡ Some zone → p ≡ Some zone) → is_by_search placed entry p ≡ true
searched_stays placed entry None p h stays = cc
searched_stays placed entry (Some zone) p h stays = ap (is_by_search placed entry) (stays zone refl) ∙ h

-- an unsigned set's entry, with the asks of its search, stays when steps are appended
pub unsigned_stays : (g : StepContext) (more : List AskedValue) (placed : PlacedSet) (entry : JudgedSetValue)
    → unsigned_holds g placed entry ≡ true
    → unsigned_holds (later_step_context g more) placed entry ≡ true
unsigned_stays g more placed entry h =
    let class = placed.set.class in
    let start = set_start placed.set in
    searched_stays placed entry (search_from g class start entry.asked) (search_from (later_step_context g more) class start entry.asked) h
    (search_stays g more class start start entry.asked)

-- ---- the entries of a step

rules_stay : (keys searched x x' y y' : Bool) (placed : PlacedSet) (entry : JudgedSetValue) (o p : Option (List Verdict))
    → (if keys then x else if searched then y else is_by_verdicts placed entry o) ≡ true → (x ≡ true → x' ≡ true) → (y ≡ true → y' ≡ true)
    → ((vs : List Verdict) → o ≡ Some vs → p ≡ Some vs)
    → (if keys then x' else if searched then y' else is_by_verdicts placed entry p) ≡ true
rules_stay true searched x x' y y' placed entry o p h of_keys of_search stays = of_keys h
rules_stay false true x x' y y' placed entry o p h of_keys of_search stays = of_search h
rules_stay false false x x' y y' placed entry None p h of_keys of_search stays = cc
rules_stay false false x x' y y' placed entry (Some vs) p h of_keys of_search stays = ap (is_by_verdicts placed entry) (stays vs refl) ∙ h

repeat_stays : (g : StepContext) (more : List AskedValue) (placed : PlacedSet) (entry : JudgedSetValue) (n : ℕ) (o : Option AskedValue)
    → slice_get g.earlier n ≡ o → repeats_step g placed entry o ≡ true
    → repeats_step (later_step_context g more) placed entry (slice_get (g.earlier ++ more) n) ≡ true
repeat_stays g more placed entry n None is h = cc
repeat_stays g more placed entry n (Some step) is h =
    ap (repeats_step (later_step_context g more) placed entry) (slice_get-stays g.earlier more n step is) ∙ h

origin_stays : (g : StepContext) (more : List AskedValue) (placed : PlacedSet) (entry : JudgedSetValue) (origin : MarkOrigin)
    → is_by_origin g placed entry origin ≡ true → is_by_origin (later_step_context g more) placed entry origin ≡ true
origin_stays g more placed entry Table h =
    let signatures = take most_signatures placed.set.signatures in
    rules_stay (placed.set.rtype == type_dnskey) (needs_zone placed.set) (keys_hold g placed entry)
    (keys_hold (later_step_context g more) placed entry)
    (unsigned_holds g placed entry) (unsigned_holds (later_step_context g more) placed entry) placed entry
    (verdicts_by g placed.set signatures entry.asked) (verdicts_by (later_step_context g more) placed.set signatures entry.asked) h
    (keys_stay g more placed entry) (unsigned_stays g more placed entry) (verdicts_stay g more placed.set signatures entry.asked)
origin_stays g more placed entry (Repeat n) h =
    let parts = and_parts (is_empty entry.asked) (repeats_step g placed entry (slice_get g.earlier n)) h in
    and_from (is_empty entry.asked) (repeats_step (later_step_context g more) placed entry (slice_get (g.earlier ++ more) n)) parts.0
    (repeat_stays g more placed entry n (slice_get g.earlier n) refl parts.1)
origin_stays g more placed entry Cache h = h

-- an entry stays when steps are appended
pub entry_stays : (g : StepContext) (more : List AskedValue) (placed : PlacedSet) (entry : JudgedSetValue)
    → entry_holds g placed entry ≡ true
    → entry_holds (later_step_context g more) placed entry ≡ true
unfolding entry_holds
entry_stays g more placed entry h =
    let section = section_eq placed.section entry.section in
    let owner = name_eq placed.set.owner entry.owner in
    let rtype = placed.set.rtype == entry.rtype in
    let one = and_parts section (owner && (rtype && is_by_origin g placed entry entry.origin)) h in
    let two = and_parts owner (rtype && is_by_origin g placed entry entry.origin) one.1 in
    let three = and_parts rtype (is_by_origin g placed entry entry.origin) two.1 in
    let by_origin = is_by_origin (later_step_context g more) placed entry entry.origin in
    and_from section (owner && (rtype && by_origin)) one.0
    (and_from owner (rtype && by_origin) two.0 (and_from rtype by_origin three.0 (origin_stays g more placed entry entry.origin three.1)))

-- and so do the entries of a step
pub entries_stay : (g : StepContext) (more : List AskedValue) (ps : List PlacedSet) (es : List JudgedSetValue) → entries_hold g ps es ≡ true
    → entries_hold (later_step_context g more) ps es ≡ true
unfolding entries_hold
entries_stay g more [] [] h = refl
entries_stay g more [] (e ∷ es) h = cc
entries_stay g more (p ∷ ps) [] h = cc
entries_stay g more (p ∷ ps) (e ∷ es) h =
    let parts = and_parts (entry_holds g p e) (entries_hold g ps es) h in
    and_from (entry_holds (later_step_context g more) p e) (entries_hold (later_step_context g more) ps es) (entry_stays g more p e parts.0)
    (entries_stay g more ps es parts.1)

-- ---- one more entry

pub entries_none : (g : StepContext) → entries_hold g [] [] ≡ true
unfolding entries_hold
entries_none g = refl

pub entries_append : (g : StepContext) (ps qs : List PlacedSet) (es fs : List JudgedSetValue) → entries_hold g ps es ≡ true
    → entries_hold g qs fs ≡ true
    → entries_hold g (ps ++ qs) (es ++ fs) ≡ true
unfolding entries_hold
entries_append g [] qs [] fs h k = k
entries_append g [] qs (e ∷ es) fs h k = cc
entries_append g (p ∷ ps) qs [] fs h k = cc
entries_append g (p ∷ ps) qs (e ∷ es) fs h k =
    let parts = and_parts (entry_holds g p e) (entries_hold g ps es) h in
    and_from (entry_holds g p e) (entries_hold g (ps ++ qs) (es ++ fs)) parts.0 (entries_append g ps qs es fs parts.1 k)

pub entries_more : (g : StepContext) (ps : List PlacedSet) (p : PlacedSet) (es : List JudgedSetValue) (e : JudgedSetValue)
    → entries_hold g ps es ≡ true
    → entry_holds g p e ≡ true → entries_hold g (ps ++ p ∷ []) (es ++ e ∷ []) ≡ true
unfolding entries_hold
entries_more g ps p es e h k = entries_append g ps (p ∷ []) es (e ∷ []) h (and_from (entry_holds g p e) true k refl)

-- there is an entry for each set
pub entries_as_many : (g : StepContext) (ps : List PlacedSet) (es : List JudgedSetValue) → entries_hold g ps es ≡ true
    → length ps ≡ length es
unfolding entries_hold
entries_as_many g [] [] h = refl
entries_as_many g [] (e ∷ es) h = cc
entries_as_many g (p ∷ ps) [] h = cc
entries_as_many g (p ∷ ps) (e ∷ es) h =
    ap suc (entries_as_many g ps es ((and_parts (entry_holds g p e) (entries_hold g ps es) h).1))

pub without_entries : (ps : List PlacedSet) → with_entries ps [] ≡ []
without_entries [] = refl
without_entries (p ∷ ps) = refl

-- as many sets as entries, and then others
pub with_entries-append : (ps qs : List PlacedSet) (es fs : List JudgedSetValue) → length ps ≡ length es
    → with_entries (ps ++ qs) (es ++ fs) ≡ with_entries ps es ++ with_entries qs fs
with_entries-append [] qs [] fs same = refl
with_entries-append [] qs (e ∷ es) fs same = absurd (omega arith)
with_entries-append (p ∷ ps) qs [] fs same = absurd (omega arith)
with_entries-append (p ∷ ps) qs (e ∷ es) fs same = ap (λ js. with_entry (p, e) ∷ js) (with_entries-append ps qs es fs (omega arith))

-- ---- what an entry is made of

pub proof_refl : (p : Proof) → proof_eq p p ≡ true
proof_refl Secure = refl
proof_refl Insecure = refl
proof_refl Bogus = refl
proof_refl Indeterminate = refl

pub proof_same : (p q : Proof) → proof_eq p q ≡ true → p ≡ q
proof_same Secure Secure h = refl
proof_same Secure Insecure h = cc
proof_same Secure Bogus h = cc
proof_same Secure Indeterminate h = cc
proof_same Insecure Secure h = cc
proof_same Insecure Insecure h = refl
proof_same Insecure Bogus h = cc
proof_same Insecure Indeterminate h = cc
proof_same Bogus Secure h = cc
proof_same Bogus Insecure h = cc
proof_same Bogus Bogus h = refl
proof_same Bogus Indeterminate h = cc
proof_same Indeterminate Secure h = cc
proof_same Indeterminate Insecure h = cc
proof_same Indeterminate Bogus h = cc
proof_same Indeterminate Indeterminate h = refl

pub place_refl : (o : Option ℕ) → place_eq o o ≡ true
place_refl None = refl
place_refl (Some n) = number_refl n

pub place_same : (a b : Option ℕ) → place_eq a b ≡ true → a ≡ b
place_same None None h = refl
place_same None (Some m) h = cc
place_same (Some n) None h = cc
place_same (Some n) (Some m) h = ap Some (number_same n m h)

-- an entry with the mark and the signature of a judged set
pub has_mark_from : (judged : MarkedSet) (entry : JudgedSetValue) → judged.mark ≡ entry.mark → judged.sig ≡ entry.sig
    → has_mark_of judged entry ≡ true
has_mark_from judged entry mark sig =
    and_from (proof_eq judged.mark entry.mark) (place_eq judged.sig entry.sig)
    (ap (proof_eq judged.mark) (sym mark) ∙ proof_refl judged.mark) (ap (place_eq judged.sig) (sym sig) ∙ place_refl judged.sig)

-- an entry that is of a set
pub record IsEntryOf (placed : PlacedSet) (entry : JudgedSetValue) : Type 0 where
  pub section : placed.section ≡ entry.section
  pub owner : placed.set.owner ≡ entry.owner
  pub rtype : placed.set.rtype ≡ entry.rtype

entry_from : (g : StepContext) (placed : PlacedSet) (entry : JudgedSetValue) → IsEntryOf placed entry
    → is_by_origin g placed entry entry.origin ≡ true
    → entry_holds g placed entry ≡ true
unfolding entry_holds
entry_from g placed entry is h =
    let section = section_eq placed.section entry.section in
    let owner = name_eq placed.set.owner entry.owner in
    let rtype = placed.set.rtype == entry.rtype in
    let by_origin = is_by_origin g placed entry entry.origin in
    and_from section (owner && (rtype && by_origin)) (ap (section_eq placed.section) (sym is.section) ∙ section_refl placed.section)
    (and_from owner (rtype && by_origin) (ap (name_eq placed.set.owner) (sym is.owner) ∙ name_refl placed.set.owner)
    (and_from rtype by_origin (ap (λ n. placed.set.rtype == n) (sym is.rtype) ∙ number_refl placed.set.rtype) h))

-- the entry of a set that is judged by the rules, by the rule that is for it
entry_of_table : (g : StepContext) (placed : PlacedSet) (entry : JudgedSetValue) (keys searched : Bool) → IsEntryOf placed entry
    → entry.origin ≡ Table
    → (placed.set.rtype == type_dnskey) ≡ keys → needs_zone placed.set ≡ searched
    → (if keys then keys_hold g placed entry
    else if searched then unsigned_holds g placed entry
    else is_by_verdicts placed entry (verdicts_by g placed.set (take most_signatures placed.set.signatures) entry.asked)) ≡ true
    → entry_holds g placed entry ≡ true
entry_of_table g placed entry keys searched is origin is_keys is_unsigned holds =
    let by_verdicts = is_by_verdicts placed entry (verdicts_by g placed.set (take most_signatures placed.set.signatures) entry.asked) in
    let unsigned = unsigned_holds g placed entry in
    entry_from g placed entry is
    (ap (is_by_origin g placed entry) origin
    ∙ ap (λ b. if b then keys_hold g placed entry else if needs_zone placed.set then unsigned else by_verdicts) is_keys
    ∙ ap (λ b. if keys then keys_hold g placed entry else if b then unsigned else by_verdicts) is_unsigned ∙ holds)

-- the entry of a key set that needs no DS verdict, and asks nothing
pub entry_of_keys : (g : StepContext) (placed : PlacedSet) (entry : JudgedSetValue) → IsEntryOf placed entry
    → (placed.set.rtype == type_dnskey) ≡ true
    → needs_ds g.judge placed.set ≡ false → entry.asked ≡ [] → entry.origin ≡ Table
    → has_mark_of (judged_keys g.judge placed None) entry ≡ true → entry_holds g placed entry ≡ true
entry_of_keys g placed entry is keys needs asked origin mark =
    let by_zone = is_by_zone g placed entry (zone_asked g placed.set.class placed.set.owner entry.asked) in
    let has = has_mark_of (judged_keys g.judge placed None) entry in
    entry_of_table g placed entry true (needs_zone placed.set) is origin keys refl
    (ap (λ b. if b then by_zone else is_empty entry.asked && has) needs ∙ ap (λ asks. is_empty asks && has) asked ∙ mark)

-- the entry of a key set that asks for the DS set of its owner
pub entry_by_ds : (g : StepContext) (placed : PlacedSet) (entry : JudgedSetValue) (ask : AskRef) (zone : ZoneVerdict)
    → IsEntryOf placed entry
    → (placed.set.rtype == type_dnskey) ≡ true → needs_ds g.judge placed.set ≡ true → entry.asked ≡ ask ∷ [] → entry.origin ≡ Table
    → is_ask g.limits.depth g.earlier (g.depth + 1) (ds_question placed.set.class placed.set.owner) ask ≡ true
    → zone ≡ zone_verdict g.judge.answers placed.set.class placed.set.owner (finished_answer g.earlier ask)
    → has_mark_of (judged_keys g.judge placed (Some zone)) entry ≡ true → entry_holds g placed entry ≡ true
entry_by_ds g placed entry ask zone is keys needs asked origin asks by mark =
    let none = is_empty entry.asked && has_mark_of (judged_keys g.judge placed None) entry in
    let by_asks = λ (refs : List AskRef). is_by_zone g placed entry (zone_asked g placed.set.class placed.set.owner refs) in
    entry_of_table g placed entry true (needs_zone placed.set) is origin keys refl
    (ap (λ b. if b then by_asks entry.asked else none) needs ∙ ap by_asks asked
    ∙ ap (is_by_zone g placed entry) (zone_from g placed.set.class placed.set.owner ask asks)
    ∙ ap (λ z. has_mark_of (judged_keys g.judge placed (Some z)) entry) (sym by) ∙ mark)

-- the entry of an unsigned set, by what the search for its zone came to
pub entry_of_search : (g : StepContext) (placed : PlacedSet) (entry : JudgedSetValue) (zone : ZoneVerdict) → IsEntryOf placed entry
    → (placed.set.rtype == type_dnskey) ≡ false → needs_zone placed.set ≡ true → entry.origin ≡ Table
    → search_from g placed.set.class (set_start placed.set) entry.asked ≡ Some zone → has_mark_of (unsigned_by placed zone) entry ≡ true
    → entry_holds g placed entry ≡ true
entry_of_search g placed entry zone is other unsigned origin found mark =
    entry_of_table g placed entry false true is origin other unsigned (ap (is_by_search placed entry) found ∙ mark)

-- the entry of another set, by the verdicts of its first signatures
pub entry_of_verdicts : (g : StepContext) (placed : PlacedSet) (entry : JudgedSetValue) (vs : List Verdict) → IsEntryOf placed entry
    → (placed.set.rtype == type_dnskey) ≡ false → needs_zone placed.set ≡ false → entry.origin ≡ Table
    → verdicts_by g placed.set (take most_signatures placed.set.signatures) entry.asked ≡ Some vs
    → has_mark_of (judged_by placed vs) entry ≡ true
    → entry_holds g placed entry ≡ true
entry_of_verdicts g placed entry vs is other signed origin verdicts mark =
    entry_of_table g placed entry false false is origin other signed (ap (is_by_verdicts placed entry) verdicts ∙ mark)

-- the entry of a set that an earlier step found out about
pub entry_of_repeat : (g : StepContext) (placed : PlacedSet) (entry : JudgedSetValue) (n : ℕ) → IsEntryOf placed entry
    → entry.origin ≡ Repeat n
    → entry.asked ≡ [] → repeats_step g placed entry (slice_get g.earlier n) ≡ true → entry_holds g placed entry ≡ true
entry_of_repeat g placed entry n is origin asked repeats =
    let by_step = repeats_step g placed entry (slice_get g.earlier n) in
    entry_from g placed entry is (ap (is_by_origin g placed entry) origin ∙ ap (λ asks. is_empty asks && by_step) asked ∙ repeats)

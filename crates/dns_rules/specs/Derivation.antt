-- When a trail is a derivation: each mark and each ending follows from what was told and from the steps before
-- (RFC 4035, 4.3, 5.2 and 5.3), or from what was kept before it (RFC 4035, 4.5). No chain of the trail's own occurs in it, so that it can be
-- checked with the trail and the entries alone.
use Rattle.std.specs.Prelude.{ℕ, ◌+◌, ◌-◌, zero, suc, Bool, true, false, not, ◌==◌, ◌&&◌, nat_eq, nat_lt, nat_le, List, [], ◌∷◌, ◌++◌, map, length, take, Option, None, Some, unwrap_or, slice_get, if◌then◌else◌}
use Rattle.std.specs.Option.{option_map, option_map_or, option_and_then, option_eq}
use Rattle.std.specs.List.{filter_map, flat_map, list_any, list_all, zip, count_by, range_with_len}
use lib.Pointwise.{pointwise}
use Rattle.dns_model.specs.declared.proof.Proof.{Proof}
use Rattle.dns_model.specs.declared.proof.Proof.TheVariants.{Secure, Insecure, Bogus, Indeterminate}
use Rattle.dns_model.specs.declared.denial.Denial.{Denial}
use Rattle.dns_model.specs.declared.denial.Denial.TheVariants as denial
use Rattle.dns_model.specs.declared.trail.AskRef.{AskRef}
use Rattle.dns_model.specs.declared.trail.AskRef.TheVariants.{Step, TooDeep, TooMany}
use Rattle.dns_model.specs.declared.trail.MarkOrigin.{MarkOrigin}
use Rattle.dns_model.specs.declared.trail.MarkOrigin.TheVariants.{Table, Repeat, Cache}
use Rattle.dns_model.specs.Names.{Labels, name_eq}
use Rattle.dns_model.specs.Types.{type_dnskey}
use Rattle.dns_model.specs.Records.{Rr, RrSet, Question, question_eq}
pub use Rattle.dns_model.specs.Sections.{is_empty}
use Rattle.dns_model.specs.Chains.{Judge}
use Rattle.dns_model.specs.Trails.{AskedValue, JudgedSetValue, HeardValue, Records, Fault, EndingValue, Answered, Denied, Foreign, Failed, Seen}
use Rattle.dns_model.specs.SoundAnswers.{Told, PlacedSet, section_eq}
use Rattle.dns_rules.specs.MarkedSets.{MarkedSet}
use Rattle.dns_rules.specs.CacheKeys.{same_bytes}
use Rattle.dns_rules.specs.CacheEntries.{EntryValue}
use Rattle.dns_rules.specs.Serving.{judged_as, may_serve}
use Rattle.dns_rules.specs.Marks.{Verdict, is_proved, is_skipped, verdict_of, judged_by, most_signatures}
use Rattle.dns_rules.specs.Marks as marks
use Rattle.dns_rules.specs.ProofErrors.{Net, DsRecordShouldExist}
use Rattle.dns_rules.specs.Delegations.{ZoneVerdict, Bogus as Unshown, ds_question, zone_verdict}
use Rattle.dns_rules.specs.Unsigned.{ns_question, has_ns, set_start, question_start, needs_zone, unsigned_by}
use Rattle.dns_rules.specs.KeySets.{needs_ds, judged_keys}
use Rattle.dns_rules.specs.Outcome.{Outcome, outcome_of, outcome_by_zone, foreign_record}
use Rattle.dns_rules.specs.Outcome as outcome
use Rattle.dns_rules.specs.Asking.{Limits, most_sends, effective, judged_part, ask_of}
use Rattle.dns_rules.specs.Probes.{NsProbe}
use Rattle.dns_rules.specs.Probes as probes

-- ---- what the steps before came to

-- the records that a step heard; none for a fault
abbrev pub told_in : HeardValue → Option Told
told_in (Records told empty) = Some told
told_in Fault = None

-- sets, with the marks that entries give them
abbrev pub with_entries : List PlacedSet → List JudgedSetValue → List MarkedSet
with_entries placed entries =
    map (λ p. record { section = p.0.section; set = p.0.set; mark = p.1.mark; sig = p.1.sig }) (zip placed entries)

-- the judged sets of a step
abbrev pub judged_sets : AskedValue → List MarkedSet
judged_sets step = option_map_or (λ told. with_entries (judged_part step.depth told) step.sets) (told_in step.reply) []

-- the sets, where the step ends with an answer
abbrev pub if_answered : EndingValue → List MarkedSet → Option (List MarkedSet)
if_answered (Answered d) sets = Some sets
if_answered _ sets = None

-- the answer that an ask got: none where it was refused, or where its step ends otherwise
abbrev pub finished_answer : List AskedValue → AskRef → Option (List MarkedSet)
finished_answer earlier (Step n) = option_and_then (λ step. if_answered step.ending (judged_sets step)) (slice_get earlier n)
finished_answer earlier _ = None

-- ---- asks

-- by what the sets of a step are judged: the judge, how far the lookup goes, what was kept before it, the steps before this one, its
-- question and its depth
pub record StepContext : Type 0 where
  pub judge : Judge
  pub limits : Limits
  pub cached : List EntryValue
  pub earlier : List AskedValue
  pub query : Question
  pub depth : ℕ

-- what stands for a judged ask at a depth: an earlier step with this question and depth, or that it would be too deep, exactly
-- where it would; where it is refused as one too many is said by the order of the sends
abbrev pub is_ask : ℕ → List AskedValue → ℕ → Question → AskRef → Bool
is_ask limit earlier depth q (Step n) =
    nat_le depth limit
    && option_map_or (λ step. step.judged && ((step.depth == depth) && question_eq q step.query)) (slice_get earlier n) false
is_ask limit earlier depth q TooDeep = nat_lt limit depth
is_ask limit earlier depth q TooMany = nat_le depth limit

-- the verdict of a signature whose ask came first, and those of the rest; nothing more is asked where it proves the set
abbrev pub verdicts_after : Verdict → List AskRef → (List AskRef → Option (List Verdict)) → Option (List Verdict)
verdicts_after v asks rest =
    if is_proved v then (if is_empty asks then Some (v ∷ []) else None) else option_map (λ vs. v ∷ vs) (rest asks)

-- the verdicts of signatures of which the first asks, one deeper than its step, and the rest may
abbrev pub verdicts_asked : StepContext → RrSet → Rr → List AskRef → (List AskRef → Option (List Verdict)) → Option (List Verdict)
verdicts_asked g set r [] rest = None
verdicts_asked g set r (ask ∷ asks) rest =
    if option_map_or (λ q. is_ask g.limits.depth g.earlier (g.depth + 1) q ask) (ask_of set r) false
    then verdicts_after (verdict_of g.judge set r (finished_answer g.earlier ask)) asks rest
    else None

-- the verdicts of a set's signatures by the answers to their asks, up to the first that proves the set; none where these
-- aren't the asks that the signatures make
unfoldable pub verdicts_by : StepContext → RrSet → List Rr → List AskRef → Option (List Verdict)
verdicts_by g set [] asks = if is_empty asks then Some [] else None
verdicts_by g set (r ∷ rs) asks =
    if is_skipped g.query set r
    then option_map (λ vs. marks.Failed ∷ vs) (verdicts_by g set rs asks)
    else verdicts_asked g set r asks (verdicts_by g set rs)

-- ---- the search for a zone

-- what stands for a plain ask at a depth: an earlier step with this question and depth that isn't judged; where it is refused as
-- one too many is said by the order of the sends, and it never is too deep, being as deep as its step
abbrev pub is_plain_ask : List AskedValue → ℕ → Question → AskRef → Bool
is_plain_ask earlier depth q (Step n) =
    option_map_or (λ step. not step.judged && ((step.depth == depth) && question_eq q step.query)) (slice_get earlier n) false
is_plain_ask earlier depth q TooDeep = false
is_plain_ask earlier depth q TooMany = true

-- a reply that says that there are no records leads on, whatever records come with it
abbrev pub probe_of : Labels → HeardValue → NsProbe
probe_of name (Records told empty) = if not empty && has_ns name told then probes.Found else probes.Absent
probe_of name Fault = probes.Failed

abbrev pub probe_by : List AskedValue → Labels → AskRef → NsProbe
probe_by earlier name (Step n) = option_map_or (λ step. probe_of name step.reply) (slice_get earlier n) probes.Failed
probe_by earlier name TooDeep = probes.Failed
probe_by earlier name TooMany = probes.Failed

-- the DS verdict to which asks lead: one ask for the DS set of a zone, one deeper than its step; none where these aren't the asks
-- that it takes
abbrev pub zone_asked : StepContext → ℕ → Labels → List AskRef → Option ZoneVerdict
zone_asked g class zone [] = None
zone_asked g class zone (ask ∷ asks) =
    if is_empty asks && is_ask g.limits.depth g.earlier (g.depth + 1) (ds_question class zone) ask
    then Some (zone_verdict g.judge.answers class zone (finished_answer g.earlier ask))
    else None

-- a search goes on by what the plain ask for a name came to
abbrev pub search_after : StepContext → ℕ → Labels → List AskRef → NsProbe → Option ZoneVerdict → Option ZoneVerdict
search_after g class name asks probes.Found above = zone_asked g class name asks
search_after g class name asks probes.Absent above = above
search_after g class name asks probes.Failed above = if is_empty asks then Some (Unshown (Net (ns_question class name))) else None

-- the verdict of the search that began at `start` and has come to a name: NS records are asked for, from name to parent, and where
-- they are the DS verdict decides (RFC 4035, 4.3 and 5.2); none where these aren't the asks that it makes
unfoldable pub search_by : StepContext → ℕ → Labels → Labels → List AskRef → Option ZoneVerdict
search_by g class start [] asks = if is_empty asks then Some (Unshown (DsRecordShouldExist start)) else None
search_by g class start (label ∷ name) [] = None
search_by g class start (label ∷ name) (ask ∷ asks) =
    if is_plain_ask g.earlier g.depth (ns_question class (label ∷ name)) ask
    then search_after g class (label ∷ name) asks (probe_by g.earlier (label ∷ name) ask) (search_by g class start name asks)
    else None

-- the search from a name on
abbrev pub search_from : StepContext → ℕ → Labels → List AskRef → Option ZoneVerdict
search_from g class start asks = search_by g class start start asks

-- ---- the marks of a step

abbrev pub proof_eq : Proof → Proof → Bool
proof_eq Secure Secure = true
proof_eq Insecure Insecure = true
proof_eq Bogus Bogus = true
proof_eq Indeterminate Indeterminate = true
proof_eq _ _ = false

-- the entry has the mark of the judged set, and the signature that decided
abbrev pub has_mark_of : MarkedSet → JudgedSetValue → Bool
has_mark_of judged entry = proof_eq judged.mark entry.mark && option_eq nat_eq judged.sig entry.sig

-- the entry of a key set: it asks for the DS set of its owner exactly where it needs its verdict
abbrev pub keys_hold : StepContext → PlacedSet → JudgedSetValue → Bool
keys_hold g placed entry =
    if needs_ds g.judge placed.set
    then option_map_or (λ zone. has_mark_of (judged_keys g.judge placed (Some zone)) entry) (zone_asked g placed.set.class placed.set.owner entry.asked) false
    else is_empty entry.asked && has_mark_of (judged_keys g.judge placed None) entry

-- the entry of an unsigned set: it asks as the search for its zone does
abbrev pub unsigned_holds : StepContext → PlacedSet → JudgedSetValue → Bool
unsigned_holds g placed entry =
    option_map_or (λ zone. has_mark_of (unsigned_by placed zone) entry) (search_from g placed.set.class (set_start placed.set) entry.asked) false

-- the entry of a set that is judged by the rules: a key set may ask for a DS set, an unsigned set searches its zone, and another
-- asks for the keys of its first signatures
abbrev pub is_by_rules : StepContext → PlacedSet → JudgedSetValue → Bool
is_by_rules g placed entry =
    if placed.set.rtype == type_dnskey then keys_hold g placed entry
    else if needs_zone placed.set then unsigned_holds g placed entry
    else option_map_or (λ verdicts. has_mark_of (judged_by placed verdicts) entry)
    (verdicts_by g placed.set (take most_signatures placed.set.signatures) entry.asked) false

-- the entry says of its set what was found of the same one, byte for byte, but for ttls and marks
abbrev pub is_repeat : PlacedSet → JudgedSetValue → MarkedSet → Bool
is_repeat placed entry judged =
    pointwise same_bytes placed.set.records judged.set.records
    && (pointwise same_bytes placed.set.signatures judged.set.signatures && has_mark_of judged entry)

-- a step with this question found this of the same set
abbrev pub is_repeat_of : Question → PlacedSet → JudgedSetValue → AskedValue → Bool
is_repeat_of q placed entry step = question_eq q step.query && list_any (is_repeat placed entry) (judged_sets step)

-- the entry says of its set what a kept one does that may serve it
abbrev pub is_served_by : Judge → Question → PlacedSet → JudgedSetValue → EntryValue → Bool
is_served_by j q placed entry kept = may_serve j q placed kept && has_mark_of (judged_as placed kept.found) entry

-- by the rules; as an earlier step with the same question found; or as was kept from earlier lookups. Only the rules ask
abbrev pub is_by_origin : StepContext → PlacedSet → JudgedSetValue → MarkOrigin → Bool
is_by_origin g placed entry Table = is_by_rules g placed entry
is_by_origin g placed entry (Repeat n) =
    is_empty entry.asked && option_map_or (is_repeat_of g.query placed entry) (slice_get g.earlier n) false
is_by_origin g placed entry Cache = is_empty entry.asked && list_any (is_served_by g.judge g.query placed entry) g.cached

-- the entry is that of a set, and its mark follows
unfoldable pub entry_holds : StepContext → PlacedSet → JudgedSetValue → Bool
entry_holds g placed entry =
    section_eq placed.section entry.section
    && (name_eq placed.set.owner entry.owner
    && ((placed.set.rtype == entry.rtype) && is_by_origin g placed entry entry.origin))

-- the entries of a step are those of its sets, in order
unfoldable pub entries_hold : StepContext → List PlacedSet → List JudgedSetValue → Bool
entries_hold g [] [] = true
entries_hold g (placed ∷ rest) (entry ∷ entries) = entry_holds g placed entry && entries_hold g rest entries
entries_hold g _ _ = false

-- ---- the ending of a step

abbrev pub denial_eq : Denial → Denial → Bool
denial_eq denial.None denial.None = true
denial_eq (denial.Absent a) (denial.Absent b) = proof_eq a b
denial_eq (denial.Expanded a) (denial.Expanded b) = proof_eq a b
denial_eq _ _ = false

abbrev pub ending_eq : EndingValue → EndingValue → Bool
ending_eq (Answered d) (Answered e) = denial_eq d e
ending_eq (Denied p) (Denied proof) = proof_eq p proof
ending_eq (Foreign owner class rtype) (Foreign o c t) = name_eq owner o && ((class == c) && (rtype == t))
ending_eq Failed Failed = true
ending_eq Seen Seen = true
ending_eq _ _ = false

-- the ending of an outcome; a search has the outcome that it leads to
abbrev pub ending_by : Outcome → EndingValue
ending_by outcome.NeedsZone = Failed
ending_by (outcome.Given d) = Answered d
ending_by (outcome.Denied proof) = Denied proof

-- ---- a step

-- nothing of the step is judged, and it ends so
abbrev pub ends_bare : EndingValue → AskedValue → Bool
ends_bare ending step = ending_eq ending step.ending && (is_empty step.sets && is_empty step.excuse)

-- the ending follows from the outcome, and names the asks on which it stands: those of the search for the query's zone, where that
-- decides
abbrev pub ending_holds : StepContext → AskedValue → Told → Outcome → Bool
ending_holds g step told (outcome.Given d) = ending_eq (Answered d) step.ending && is_empty step.excuse
ending_holds g step told (outcome.Denied proof) = ending_eq (Denied proof) step.ending && is_empty step.excuse
ending_holds g step told outcome.NeedsZone =
    option_map_or (λ zone. ending_eq (ending_by (outcome_by_zone step.query told zone)) step.ending)
    (search_from g step.query.class (question_start step.query) step.excuse) false

-- a step that heard these records: a judged one ends with the first record of another class, or has its sets judged and the ending
-- that they make
abbrev pub heard_holds : StepContext → AskedValue → Told → Bool
heard_holds g step told =
    if step.judged
    then option_map_or (λ r. ends_bare (Foreign r.owner r.class r.rtype) step) (foreign_record step.query told)
    (entries_hold g (judged_part step.depth told) step.sets
    && ending_holds g step told (outcome_of g.limits step.query told (with_entries (judged_part step.depth told) step.sets)))
    else ends_bare Seen step

-- by what the sets of this step are judged
abbrev pub step_context_of : Judge → Limits → List EntryValue → List AskedValue → AskedValue → StepContext
step_context_of j limits cached earlier step = record {
  judge = j;
  limits = limits;
  cached = cached;
  earlier = earlier;
  query = step.query;
  depth = step.depth;
}

-- the lines of a step follow from what it heard, which may be a fault, from what was kept, and from the steps before it
unfoldable pub step_holds : Judge → Limits → List EntryValue → List AskedValue → AskedValue → Bool
step_holds j limits cached earlier step =
    option_map_or (heard_holds (step_context_of j limits cached earlier step) step) (told_in step.reply) (ends_bare Failed step)

-- and those of each step
unfoldable pub steps_hold : Judge → Limits → List EntryValue → List AskedValue → List AskedValue → Bool
steps_hold j limits cached earlier [] = true
steps_hold j limits cached earlier (step ∷ steps) =
    step_holds j limits cached earlier step && steps_hold j limits cached (earlier ++ step ∷ []) steps

-- ---- the order of the sends: a step comes before what it asks, and what it asks in the order of its sets and of its excuse

-- the asks of a step, in order
abbrev pub asks_of : AskedValue → List AskRef
asks_of step = flat_map (λ set. set.asked) step.sets ++ step.excuse

-- the asks of step n are met, behind the steps that were met before: a step is one before n and is met while there are fewer
-- than may be; an ask is one too many exactly where as many as may be were met. `visit` meets a step
unfoldable pub order_asks : (ℕ → List ℕ → Option (List ℕ)) → ℕ → List AskRef → List ℕ → Option (List ℕ)
order_asks visit n [] met = Some met
order_asks visit n (TooDeep ∷ asks) met = order_asks visit n asks met
order_asks visit n (TooMany ∷ asks) met = if nat_le most_sends (length met) then order_asks visit n asks met else None
order_asks visit n (Step m ∷ asks) met =
    if nat_lt m n && nat_lt (length met) most_sends then option_and_then (order_asks visit n asks) (visit m met) else None

-- a step is met, and then its asks. The first number is more than the step's, which falls from asker to ask
unfoldable pub order_step : ℕ → List AskedValue → ℕ → List ℕ → Option (List ℕ)
order_step zero trail n met = None
order_step (suc above) trail n met =
    option_and_then (λ step. order_asks (order_step above trail) n (asks_of step) (met ++ n ∷ [])) (slice_get trail n)

-- the numbers of the steps in the order in which they were sent, from the last step on
abbrev pub send_order : List AskedValue → Option (List ℕ)
send_order trail = order_step (length trail) trail (length trail - 1) []

-- the steps in the order in which they were sent
abbrev pub in_send_order : List AskedValue → List AskedValue
in_send_order trail = filter_map (slice_get trail) (unwrap_or (send_order trail) [])

-- ---- the order of the ends: a step ends after its asks, and has the next number

-- asks end one after another, behind so many steps that have ended. `visit` ends a step
unfoldable pub end_asks : (ℕ → ℕ → Option ℕ) → List AskRef → ℕ → Option ℕ
end_asks visit [] ended = Some ended
end_asks visit (TooDeep ∷ asks) ended = end_asks visit asks ended
end_asks visit (TooMany ∷ asks) ended = end_asks visit asks ended
end_asks visit (Step m ∷ asks) ended = option_and_then (end_asks visit asks) (visit m ended)

-- the first number is more than the step's, which falls from asker to ask
unfoldable pub end_step : ℕ → List AskedValue → ℕ → ℕ → Option ℕ
end_step zero trail n ended = None
end_step (suc above) trail n ended =
    option_and_then (λ step. option_and_then (λ k. if k == n then Some (n + 1) else None) (end_asks (end_step above trail) (asks_of step) ended))
    (slice_get trail n)

-- ---- the whole

-- the last step of a trail
abbrev pub top_step : List AskedValue → Option AskedValue
top_step trail = slice_get trail (length trail - 1)

-- a trail in order, whatever its steps heard: they are sent in one order from the last one on, which is judged at depth 0, and end in
-- the order of their numbers. In the order of sends each step has one place: one ask names it, and none the last step
unfoldable pub has_order : List AskedValue → Bool
has_order trail =
    nat_le (length trail) most_sends
    && (option_map_or (λ top. top.judged && (top.depth == 0)) (top_step trail) false
    && (option_map_or (λ order. list_all (λ k. count_by (λ m. k == m) order == 1) (range_with_len 0 (length trail))) (send_order trail) false
    && option_eq nat_eq (end_step (length trail) trail (length trail - 1) 0) (Some (length trail))))

-- a trail in order whose every step follows; of what was kept before it, the entries whose time isn't up are given
unfoldable pub derivation : Judge → Limits → List EntryValue → List AskedValue → Bool
derivation j limits cached trail = has_order trail && steps_hold j (effective limits) cached [] trail

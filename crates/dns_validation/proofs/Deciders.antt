-- A judged set has the signature of which it names the place.
use Rattle.std.proofs.Common.{ℕ, ◌≡◌, ◌<◌, ◌≤◌, ◌+◌, ◌==◌, zero, suc, Bool, true, false, List, [], ◌∷◌, length, take, Option, None, Some, is_some, slice_get, if◌then◌else◌, refl, sym, ap, ◌∙◌, subst, arith}
use Rattle.std.specs.Option.{option_map, option_map_or, option_and_then}
use Rattle.std.specs.List.{cons_option, enumerate_from, filter, filter_map, list_all, position}
use Rattle.std.proofs.lemmas.List.Quantifiers.{position-Some}
use Rattle.std.proofs.lemmas.Option.{slice_get-get_or}
use Rattle.dns_model.specs.declared.trail.AskRef.{AskRef}
use Rattle.dns_model.specs.Chains.{Judge}
use Rattle.dns_model.specs.Records.{Rr, RrSet}
use Rattle.dns_model.specs.SoundAnswers.{PlacedSet, Told}
use Rattle.dns_model.specs.Types.{type_dnskey}
use Rattle.dns_model.proofs.TestLemmas.{if_some}
use Rattle.dns_rules.specs.Asking.{ask_of}
use Rattle.dns_rules.specs.ChainedSets.{ChainedSet}
use Rattle.dns_rules.specs.Delegations.{ZoneVerdict, Signed, Insecure, Bogus, is_supported_ds}
use Rattle.dns_rules.specs.Derivation.{StepContext, finished_answer, is_ask, is_empty, search_from, verdicts_after, verdicts_asked, verdicts_by, zone_asked}
use Rattle.dns_rules.specs.KeySets.{KeysOutcome, SignedKeys, SignedByAnchored, WhollyAnchored, SignedByMatched, WhollyTrusted, Refused, first_signed, is_anchored_key, is_matched_key, is_root, is_trusted_key, judged_keys, keys_outcome, needs_ds, outcome_by_ds, outcome_by_verdict, outcome_mark, signed_by, signer_among}
use Rattle.dns_rules.specs.Marks.{Verdict, is_proved, is_skipped, judged_by, mark_at, most_signatures, set_mark, shows_insecure, verdict_of}
use Rattle.dns_rules.specs.Marks as marks
use Rattle.dns_rules.specs.ProofErrors.{DnskeyNotFound, DsRecordsButNoDnskey}
use Rattle.dns_model.specs.declared.proof.Proof.TheVariants as proof
use Rattle.dns_rules.specs.Serving.{has_place}
use Rattle.dns_rules.specs.Unsigned.{needs_zone, set_start}
use Rattle.dns_flow.specs.declared.phases.Seeker.TheVariants.{Set}
use Rattle.dns_flow.specs.Leads.{bare_need, bare_phase, end_of}
use Rattle.dns_flow.specs.Phases.{NeedValue, PhaseValue, SetEnds, StepEnds, Asks, first_signatures, start_set, turn}
use Rattle.dns_flow.proofs.Bare.{turn_bare}
use Rattle.dns_flow.proofs.Ends.{led, last_if}
use Rattle.dns_flow.proofs.Led.{Led, ends_as}
use Rattle.dns_flow.proofs.Rows.{keys_end, set_led, set_row}
use Rattle.dns_flow.proofs.Searches.{zone_end}
use Rattle.dns_flow.proofs.Tries.{tried_end}

-- a place, if there is one, is below this
abbrev Below : ℕ → Option ℕ → Type 0
Below n None = Unit {0}
Below n (Some i) = i < n

below_more : (n m : ℕ) (o : Option ℕ) → n ≤ m → Below n o → Below m o
below_more n m None le h = tt
below_more n m (Some i) le h = omega (arith, le, h)

is_there : (xs : List Rr) (i : ℕ) → i < length xs → is_some (slice_get xs i) ≡ true
is_there [] i h = absurd (omega (arith, h))
is_there (x ∷ xs) i h = ap is_some (slice_get-get_or (x ∷ xs) i x h)

has_below : (set : RrSet) (o : Option ℕ) → Below (length set.signatures) o → has_place set o ≡ true
has_below set None h = refl
has_below set (Some i) h = is_there set.signatures i h

-- ---- verdicts

more_verdicts : (v : Verdict) (o : Option (List Verdict)) (vs : List Verdict) (n : ℕ)
    → ((ws : List Verdict) → o ≡ Some ws → length ws ≤ n)
    → option_map (λ ws. v ∷ ws) o ≡ Some vs → length vs ≤ suc n
more_verdicts v None vs n each h = cc
more_verdicts v (Some ws) vs n each h =
    let same : v ∷ ws ≡ vs = cc in
    let le = each ws refl in
    let more : suc (length ws) ≤ suc n = omega (arith, le) in
    subst (λ (x : List Verdict). length x ≤ suc n) same more

after_if : (b : Bool) (v : Verdict) (asks : List AskRef) (o : Option (List Verdict)) (vs : List Verdict) (n : ℕ)
    → ((ws : List Verdict) → o ≡ Some ws → length ws ≤ n)
    → (if b then (if is_empty asks then Some (v ∷ []) else None) else option_map (λ ws. v ∷ ws) o) ≡ Some vs
    → length vs ≤ suc n
after_if true v asks o vs n each h =
    let one = (if_some (is_empty asks) (Some (v ∷ [])) vs h).1 in
    let same : v ∷ [] ≡ vs = cc in
    let few : 1 ≤ suc n = omega arith in
    subst (λ (x : List Verdict). length x ≤ suc n) same few
after_if false v asks o vs n each h = more_verdicts v o vs n each h

asked_within : (g : StepContext) (set : RrSet) (r : Rr) (asks : List AskRef)
    (rest : List AskRef → Option (List Verdict)) (vs : List Verdict) (n : ℕ)
    → ((left : List AskRef) (ws : List Verdict) → rest left ≡ Some ws → length ws ≤ n)
    → verdicts_asked g set r asks rest ≡ Some vs → length vs ≤ suc n
asked_within g set r [] rest vs n each h = cc
asked_within g set r (ask ∷ asks) rest vs n each h =
    let v = verdict_of g.judge set r (finished_answer g.earlier ask) in
    after_if (is_proved v) v asks (rest asks) vs n (each asks)
    (if_some (option_map_or (λ q. is_ask g.limits.depth g.earlier (g.depth + 1) q ask) (ask_of set r) false)
    (verdicts_after v asks rest) vs h).1

skip_within : (g : StepContext) (set : RrSet) (r : Rr) (rs : List Rr) (asks : List AskRef) (vs : List Verdict)
    (skipped : Bool)
    → ((left : List AskRef) (ws : List Verdict) → verdicts_by g set rs left ≡ Some ws → length ws ≤ length rs)
    → (if skipped then option_map (λ ws. marks.Failed ∷ ws) (verdicts_by g set rs asks) else verdicts_asked g set r asks
    (verdicts_by g set rs)) ≡ Some vs
    → length vs ≤ suc (length rs)
skip_within g set r rs asks vs true each h =
    more_verdicts marks.Failed (verdicts_by g set rs asks) vs (length rs) (each asks) h
skip_within g set r rs asks vs false each h = asked_within g set r asks (verdicts_by g set rs) vs (length rs) each h

-- there are at most as many as signatures
verdicts_within : (g : StepContext) (set : RrSet) (rs : List Rr) (asks : List AskRef) (vs : List Verdict)
    → verdicts_by g set rs asks ≡ Some vs
    → length vs ≤ length rs
unfolding verdicts_by
verdicts_within g set [] asks vs h =
    let one = (if_some (is_empty asks) (Some []) vs h).1 in
    let same : [] ≡ vs = cc in
    let none : 0 ≤ 0 = omega arith in
    subst (λ (x : List Verdict). length x ≤ 0) same none
verdicts_within g set (r ∷ rs) asks vs h =
    skip_within g set r rs asks vs (is_skipped g.query set r) (λ left ws is. verdicts_within g set rs left ws is) h

position_by : (p : Verdict → Bool) (vs : List Verdict) (o : Option ℕ) → position p vs ≡ o → Below (length vs) o
position_by p vs None is = tt
position_by p vs (Some i) is = (position-Some p vs i marks.Failed is).0

mark_below : (n : ℕ) (o p : Option ℕ) → Below n o → Below n p → Below n (mark_at o p).sig
mark_below n (Some i) p first second = first
mark_below n None (Some i) first second = second
mark_below n None None first second = tt

-- the signature that decides is one of those with a verdict
verdict_below : (vs : List Verdict) → Below (length vs) (set_mark vs).sig
verdict_below [] = tt
verdict_below (v ∷ vs) =
    mark_below (length (v ∷ vs)) (position is_proved (v ∷ vs)) (position shows_insecure (v ∷ vs))
    (position_by is_proved (v ∷ vs) _ refl)
    (position_by shows_insecure (v ∷ vs) _ refl)

-- ---- key sets

abbrev keys_at : (Rr → Option Rr) → ℕ × Rr → Option SignedKeys
keys_at signer p =
    option_map (λ (key : Rr). (let k : SignedKeys = record { place = p.0; signature = p.1; key = key } in k))
    (signer p.1)

first_at : (o : Option Rr) (i n : ℕ) (x : Rr) (rest : List SignedKeys) (s : SignedKeys)
    → (slice_get rest 0 ≡ Some s → s.place < i + 1 + n)
    → slice_get
    (cons_option
    (option_map (λ (key : Rr). (let k : SignedKeys = record { place = i; signature = x; key = key } in k)) o)
    rest) 0 ≡ Some s
    → s.place < i + suc n
first_at None i n x rest s go h = let lt = go h in omega (arith, lt)
first_at (Some key) i n x rest s go h =
    let k : SignedKeys = record { place = i; signature = x; key = key } in
    let same : k ≡ s = cc in
    let lt : i < i + suc n = omega arith in
    subst (λ (y : SignedKeys). y.place < i + suc n) same lt

signed_at : (signer : Rr → Option Rr) (i : ℕ) (xs : List Rr) (s : SignedKeys)
    → slice_get (filter_map (keys_at signer) (enumerate_from i xs)) 0 ≡ Some s
    → s.place < i + length xs
signed_at signer i [] s h = cc
signed_at signer i (x ∷ xs) s h =
    first_at (signer x) i (length xs) x (filter_map (keys_at signer) (enumerate_from (i + 1) xs)) s
    (λ is. signed_at signer (i + 1) xs s is) h

-- the key set was signed by one of these signatures
signed_below : (may_sign : Rr → Bool) (j : Judge) (set : RrSet) (rs : List Rr) (s : SignedKeys)
    → first_signed may_sign j set rs ≡ Some s → s.place < length rs
unfolding first_signed
signed_below may_sign j set rs s h = let lt = signed_at (signer_among may_sign j set) 0 rs s h in omega (arith, lt)

if_below : (n : ℕ) (b : Bool) (x y : KeysOutcome) → Below n (outcome_mark x).sig → Below n (outcome_mark y).sig
    → Below n (outcome_mark (if b then x else y)).sig
if_below n true x y first second = first
if_below n false x y first second = second

or_below : (n : ℕ) (end : SignedKeys → KeysOutcome) (o : Option SignedKeys) (other : KeysOutcome)
    → ((s : SignedKeys) → o ≡ Some s → Below n (outcome_mark (end s)).sig)
    → Below n (outcome_mark other).sig → Below n (outcome_mark (option_map_or end o other)).sig
or_below n end None other some none = none
or_below n end (Some s) other some none = some s refl

ds_below : (j : Judge) (set : RrSet) (ds : List Rr)
    → Below (length (take most_signatures set.signatures)) (outcome_mark (outcome_by_ds j set ds)).sig
ds_below j set ds =
    let n = length (take most_signatures set.signatures) in
    let may = is_matched_key j set ds in
    or_below n (SignedByMatched ds) (signed_by may j set)
    (if list_all (is_trusted_key j set ds) set.records then WhollyTrusted ds else Refused proof.Bogus
    (DsRecordsButNoDnskey set.owner))
    (λ s is. signed_below may j set (take most_signatures set.signatures) s is)
    (if_below n (list_all (is_trusted_key j set ds) set.records) (WhollyTrusted ds)
    (Refused proof.Bogus (DsRecordsButNoDnskey set.owner)) tt tt)

verdict_keys_below : (j : Judge) (set : RrSet) (zone : Option ZoneVerdict)
    → Below (length (take most_signatures set.signatures)) (outcome_mark (outcome_by_verdict j set zone)).sig
verdict_keys_below j set None = tt
verdict_keys_below j set (Some (Signed ds)) = ds_below j set (filter (is_supported_ds j.answers) ds)
verdict_keys_below j set (Some (Insecure kind)) = tt
verdict_keys_below j set (Some (Bogus kind)) = tt

keys_below : (j : Judge) (set : RrSet) (zone : Option ZoneVerdict)
    → Below (length (take most_signatures set.signatures)) (outcome_mark (keys_outcome j set zone)).sig
unfolding keys_outcome
keys_below j set zone =
    let n = length (take most_signatures set.signatures) in
    let may = is_anchored_key j set in
    let root = Refused proof.Bogus (DnskeyNotFound set.owner) in
    let by = outcome_by_verdict j set zone in
    or_below n SignedByAnchored (signed_by may j set)
    (if list_all may set.records then WhollyAnchored else if is_root set.owner then root else by)
    (λ s is. signed_below may j set (take most_signatures set.signatures) s is)
    (if_below n (list_all may set.records) WhollyAnchored (if is_root set.owner then root else by) tt
    (if_below n (is_root set.owner) root by tt (verdict_keys_below j set zone)))

-- ---- a set

abbrev HasDecider : PlacedSet → NeedValue → Type 0
HasDecider placed (SetEnds c) = Below (length placed.set.signatures) c.judged.sig
HasDecider placed (StepEnds o) = Unit {0}
HasDecider placed (Asks ask) = Unit {0}

few_taken : (n : ℕ) (xs : List Rr) → length (take n xs) ≤ length xs
few_taken zero xs = omega arith
few_taken (suc n) [] = omega arith
few_taken (suc n) (x ∷ xs) = let le = few_taken n xs in omega (arith, le)

first_below : (set : RrSet) (o : Option ℕ) → Below (length (take most_signatures set.signatures)) o
    → Below (length set.signatures) o
first_below set o h =
    below_more (length (take most_signatures set.signatures)) (length set.signatures) o
    (few_taken most_signatures set.signatures) h

ends_map : {X : Type 0} (P : NeedValue → Type 0) (end : X → NeedValue) (o : Option X) (n : NeedValue)
    → ((x : X) → o ≡ Some x → P (end x))
    → option_map end o ≡ Some n → P n
ends_map P end None n each h = cc
ends_map P end (Some x) n each h = let same : end x ≡ n = cc in subst P same (each x refl)

ends_last : (P : NeedValue → Type 0) (asks : List AskRef) (m n : NeedValue) → P m → last_if asks m ≡ Some n → P n
ends_last P [] m n one h = let same : m ≡ n = cc in subst P same one
ends_last P (made ∷ asks) m n one h = cc

ends_if : (P : NeedValue → Type 0) (b : Bool) (x y : Option NeedValue) (n : NeedValue) → (x ≡ Some n → P n)
    → (y ≡ Some n → P n)
    → (if b then x else y) ≡ Some n → P n
ends_if P true x y n first second h = first h
ends_if P false x y n first second h = second h

keys_decider : (g : StepContext) (placed : PlacedSet) (zone : Option ZoneVerdict)
    → HasDecider placed (keys_end g placed zone)
unfolding judged_keys
keys_decider g placed zone =
    first_below placed.set (outcome_mark (keys_outcome g.judge placed.set zone)).sig
    (keys_below g.judge placed.set zone)

tried_decider : (placed : PlacedSet) (vs : List Verdict) → length vs ≤ length (first_signatures placed.set)
    → HasDecider placed (tried_end placed vs)
unfolding judged_by
tried_decider placed vs few =
    first_below placed.set (set_mark vs).sig
    (below_more (length vs) (length (first_signatures placed.set)) (set_mark vs).sig few (verdict_below vs))

row_decider : (g : StepContext) (told : Told) (placed : PlacedSet) (asks : List AskRef) (n : NeedValue)
    → set_row g told placed asks ≡ Some n
    → HasDecider placed n
row_decider g told placed asks n =
    let P = HasDecider placed in
    let zone = zone_asked g placed.set.class placed.set.owner asks in
    let by_ds = option_map (λ z. keys_end g placed (Some z)) zone in
    let settled = last_if asks (keys_end g placed None) in
    let found = search_from g placed.set.class (set_start placed.set) asks in
    let by_zone = option_map (zone_end g.query told (Set placed)) found in
    let verdicts = verdicts_by g placed.set (first_signatures placed.set) asks in
    let tried = option_map (tried_end placed) verdicts in
    ends_if P (placed.set.rtype == type_dnskey) (if needs_ds g.judge placed.set then by_ds else settled)
    (if needs_zone placed.set then by_zone else tried) n
    (ends_if P (needs_ds g.judge placed.set) by_ds settled n
    (ends_map P (λ z. keys_end g placed (Some z)) zone n (λ z is. keys_decider g placed (Some z)))
    (ends_last P asks (keys_end g placed None) n (keys_decider g placed None)))
    (ends_if P (needs_zone placed.set) by_zone tried n
    (ends_map P (zone_end g.query told (Set placed)) found n (λ z is. tt))
    (ends_map P (tried_end placed) verdicts n
    (λ vs is. tried_decider placed vs (verdicts_within g placed.set (first_signatures placed.set) asks vs is))))

-- a set that asks led to its end
pub set_decider : (g : StepContext) (told : Told) (placed : PlacedSet) (asks : List AskRef) (phase : PhaseValue)
    (c : ChainedSet)
    → Led g told (start_set g.judge g.query told placed) asks phase → turn phase ≡ SetEnds c
    → has_place placed.set c.judged.sig ≡ true
set_decider g told placed asks phase c way is =
    let begin = start_set g.judge g.query told placed in
    let end = ends_as (turn (bare_phase phase)) c (turn_bare phase ∙ ap bare_need is) in
    let to : led g told asks (bare_phase begin) ≡ Some (SetEnds end.set) =
    ap (option_and_then (λ x. end_of (turn x))) way.path ∙ ap end_of end.is in
    ap (λ m. has_place placed.set m.sig) (sym end.same)
    ∙ has_below placed.set end.set.judged.sig
    (row_decider g told placed asks (SetEnds end.set) (sym (set_led g told placed asks) ∙ to))

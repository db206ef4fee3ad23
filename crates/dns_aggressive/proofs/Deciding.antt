-- The first group that shows a code decides.
use Rattle.std.proofs.Common.{◌≡◌, ℕ, ◌+◌, ◌<◌, ◌≤◌, Bool, true, false, cond, List, [], ◌∷◌, length, drop, get_or, map, Option, None, Some, is_some, refl, sym, ap, ◌∙◌}
use Rattle.std.specs.Option.{option_and_then, option_map}
use Rattle.std.specs.Borrow.{Bor}
use Rattle.std.specs.List.{filter, find}
use Rattle.std.proofs.lemmas.List.{drop_all, drop_more}
use Rattle.dns_model.specs.declared.answered.Answered.TheVariants.{No}
use Rattle.dns_model.specs.Owned.{OwnedNsec, OwnedNsec3}
use Rattle.dns_rules.specs.NsecVerdict.{nsec_verdict}
use Rattle.dns_model.specs.Names.{Labels}
use Rattle.dns_model.specs.Records.{Question}
use Rattle.dns_rules.specs.Nsec3Verdict.{Parameters, nsec3_verdict, parameters_in}
use Rattle.dns_aggressive.specs.Records.{KeptValue, StoreValue}
use Rattle.dns_aggressive.specs.Denials.{Decision, code_by, decided_among, decided_by, decided_in, group, is_live_in, made, may_deny, names_up, nsecs_in, seconds_left, shown_code, synthesized, zone_for}
use Rattle.dns_aggressive.specs.Answers.{code_and_ttl, hashed_answer}
use Rattle.dns_aggressive.specs.Groups.{lent, of_way}
use Rattle.dns_aggressive.proofs.LiveRecords.{live, nsec3s_of_group, nsecs_of_group}

abbrev shows : List KeptValue → Question → ℕ → Labels → Option Parameters → Bool
shows kept query now zone way = is_some (shown_code kept query now zone way)

passed : (b : Bool) (f : Option Parameters → Option Decision) (way : Option Parameters)
    (rest : Option (Option Parameters)) → b ≡ false
    → option_and_then f (cond b (Some way) rest) ≡ option_and_then f rest
passed true f way rest h = cc
passed false f way rest h = refl

chosen : (b : Bool) (f : Option Parameters → Option Decision) (way : Option Parameters)
    (rest : Option (Option Parameters)) → b ≡ true
    → option_and_then f (cond b (Some way) rest) ≡ f way
chosen true f way rest h = refl
chosen false f way rest h = cc

-- a group that shows none is passed over
pub decided_later : (kept : List KeptValue) (query : Question) (now : ℕ) (zone : Labels) (way : Option Parameters)
    (ways : List (Option Parameters))
    → shown_code kept query now zone way ≡ None
    → decided_among kept query now zone (way ∷ ways) ≡ decided_among kept query now zone ways
decided_later kept query now zone way ways none =
    passed (shows kept query now zone way) (decided_by kept query now zone) way
    (find (shows kept query now zone) ways) (ap is_some none)

-- the first that shows one decides
pub decided_first : (kept : List KeptValue) (query : Question) (now : ℕ) (zone : Labels) (way : Option Parameters)
    (ways : List (Option Parameters))
    (code : ℕ) → shown_code kept query now zone way ≡ Some code
    → decided_among kept query now zone (way ∷ ways) ≡ Some (record { zone = zone; way = way; code = code })
decided_first kept query now zone way ways code is =
    chosen (shows kept query now zone way) (decided_by kept query now zone) way
    (find (shows kept query now zone) ways) (ap is_some is)
    ∙ ap (option_map (λ c. record { zone = zone; way = way; code = c })) is

pair_by : (kept : List KeptValue) (query : Question) (now : ℕ) (zone : Labels) (way : Option Parameters)
    (code : Option ℕ)
    → option_map (λ (p : ℕ × ℕ). record { code = p.0; zone = zone; ttl = p.1 })
    (option_map (code_and_ttl kept now) (option_map (λ c. record { zone = zone; way = way; code = c }) code))
    ≡ option_map (synthesized kept now) (option_map (λ c. record { zone = zone; way = way; code = c }) code)
pair_by kept query now zone way None = refl
pair_by kept query now zone way (Some code) = refl

pair_found : (kept : List KeptValue) (query : Question) (now : ℕ) (zone : Labels) (found : Option (Option Parameters))
    → option_map (λ (p : ℕ × ℕ). record { code = p.0; zone = zone; ttl = p.1 })
    (option_map (code_and_ttl kept now) (option_and_then (decided_by kept query now zone) found))
    ≡ option_map (synthesized kept now) (option_and_then (decided_by kept query now zone) found)
pair_found kept query now zone None = refl
pair_found kept query now zone (Some way) = pair_by kept query now zone way (shown_code kept query now zone way)

-- a code and a ttl say the denial, since the zone is known
pub hashed_made : (kept : List KeptValue) (query : Question) (now : ℕ) (zone : Labels) (ways : List Parameters)
    → option_map (λ (p : ℕ × ℕ). record { code = p.0; zone = zone; ttl = p.1 }) (hashed_answer kept query now zone ways)
    ≡ option_map (synthesized kept now) (decided_among kept query now zone (map Some ways))
hashed_made kept query now zone ways = pair_found kept query now zone (find (shows kept query now zone) (map Some ways))

-- a zone that has a live record is the longest of its name and those above it
pub zone_here : (p : Labels → Bool) (name : Labels) → p name ≡ true → find p (names_up name) ≡ Some name
unfolding names_up
zone_here p [] h = ap (λ b. cond b (Some []) None) h
zone_here p (label ∷ above) h = ap (λ b. cond b (Some (label ∷ above)) (find p (names_up above))) h

made_step : (store : StoreValue) (query : Question) (now : ℕ) (b : Bool) (found : Option Labels) (zone : Labels)
    → b ≡ true → found ≡ Some zone
    → option_map (synthesized store.kept now) (decided_in store query now zone)
    ≡ option_map (synthesized store.kept now) (cond b (option_and_then (decided_in store query now) found) None)
made_step store query now true None zone h is = cc
made_step store query now true (Some other) zone h is =
    sym (ap (λ o. option_map (synthesized store.kept now) (option_and_then (decided_in store query now) o)) is)
made_step store query now false found zone h is = cc

-- what is made where the zone is known
pub made_by_zone : (store : StoreValue) (query : Question) (now : ℕ) (zone : Labels) → may_deny query ≡ true
    → zone_for store.kept query now ≡ Some zone
    → option_map (synthesized store.kept now) (decided_in store query now zone) ≡ made store query now
made_by_zone store query now zone may is = made_step store query now (may_deny query)
    (zone_for store.kept query now) zone may is

-- the code that NSEC3 records of a way show, which are those of its group
pub shown_by_copies : (kept : List KeptValue) (query : Question) (now : ℕ) (zone : Labels) (way : Parameters)
    (copies : List OwnedNsec3)
    (code : Option ℕ) → copies ≡ of_way way (live now zone kept)
    → code ≡ code_by (λ c. nsec3_verdict query zone c No copies 100 500)
    → shown_code kept query now zone (Some way) ≡ code
shown_by_copies kept query now zone way copies code are is =
    sym (is ∙ ap (λ ns. code_by (λ c. nsec3_verdict query zone c No ns 100 500))
    (are ∙ nsec3s_of_group now zone way kept))

-- the code that the NSEC records of a zone show
pub shown_by_nsecs : (kept : List KeptValue) (query : Question) (now : ℕ) (zone : Labels) (nsecs : List OwnedNsec)
    (code : Option ℕ)
    → nsecs ≡ nsecs_in (filter (is_live_in now zone) kept)
    → code ≡ code_by (λ c. nsec_verdict query zone c No nsecs)
    → shown_code kept query now zone None ≡ code
shown_by_nsecs kept query now zone nsecs code are is =
    sym (is ∙ ap (λ ns. code_by (λ c. nsec_verdict query zone c No ns)) (are ∙ nsecs_of_group now zone kept))

left_of : (firsts : List (Bor OwnedNsec3)) (i : ℕ) (x : Bor OwnedNsec3) → i < length firsts → x ≡ get_or firsts i x
    → drop i firsts ≡ x ∷ drop (i + 1) firsts
left_of firsts i x within read = drop_more firsts i x within ∙ ap (λ y. y ∷ drop (i + 1) firsts) (sym read)

-- of the groups that are left the first shows no code
pub answer_later : (kept : List KeptValue) (query : Question) (now : ℕ) (zone : Labels)
    (firsts : List (Bor OwnedNsec3)) (i : ℕ)
    (x : Bor OwnedNsec3) → i < length firsts → x ≡ get_or firsts i x
    → shown_code kept query now zone (Some (parameters_in x.now)) ≡ None
    → hashed_answer kept query now zone (map parameters_in (lent (drop (i + 1) firsts)))
    ≡ hashed_answer kept query now zone (map parameters_in (lent (drop i firsts)))
answer_later kept query now zone firsts i x within read none =
    sym (ap (λ l. hashed_answer kept query now zone (map parameters_in (lent l))) (left_of firsts i x within read)
    ∙ ap (option_map (code_and_ttl kept now))
    (decided_later kept query now zone (Some (parameters_in x.now))
    (map Some (map parameters_in (lent (drop (i + 1) firsts)))) none))

-- it shows one
pub answer_first : (kept : List KeptValue) (query : Question) (now : ℕ) (zone : Labels)
    (firsts : List (Bor OwnedNsec3)) (i : ℕ)
    (x : Bor OwnedNsec3) (code : ℕ) → i < length firsts → x ≡ get_or firsts i x
    → shown_code kept query now zone (Some (parameters_in x.now)) ≡ Some code
    → Some (code, seconds_left now (group now zone kept (Some (parameters_in x.now))))
    ≡ hashed_answer kept query now zone (map parameters_in (lent (drop i firsts)))
answer_first kept query now zone firsts i x code within read is =
    sym (ap (λ l. hashed_answer kept query now zone (map parameters_in (lent l))) (left_of firsts i x within read)
    ∙ ap (option_map (code_and_ttl kept now))
    (decided_first kept query now zone (Some (parameters_in x.now))
    (map Some (map parameters_in (lent (drop (i + 1) firsts)))) code is))

-- none is left
pub answer_none : (kept : List KeptValue) (query : Question) (now : ℕ) (zone : Labels)
    (firsts : List (Bor OwnedNsec3)) (i : ℕ)
    → length firsts ≤ i → None ≡ hashed_answer kept query now zone (map parameters_in (lent (drop i firsts)))
answer_none kept query now zone firsts i end =
    sym (ap (λ l. hashed_answer kept query now zone (map parameters_in (lent l))) (drop_all i firsts end))

-- NSEC decides
pub made_first : (kept : List KeptValue) (query : Question) (now : ℕ) (zone : Labels)
    (ways : List (Option Parameters)) (code : ℕ)
    → shown_code kept query now zone None ≡ Some code
    → Some (record { code = code; zone = zone; ttl = seconds_left now (group now zone kept None) })
    ≡ option_map (synthesized kept now) (decided_among kept query now zone (None ∷ ways))
made_first kept query now zone ways code is =
    sym (ap (option_map (synthesized kept now)) (decided_first kept query now zone None ways code is))

-- NSEC doesn't, and NSEC3 does or doesn't
pub made_later : (kept : List KeptValue) (query : Question) (now : ℕ) (zone : Labels) (ways : List Parameters)
    (found : Option (ℕ × ℕ))
    → shown_code kept query now zone None ≡ None → found ≡ hashed_answer kept query now zone ways
    → option_map (λ (p : ℕ × ℕ). record { code = p.0; zone = zone; ttl = p.1 }) found
    ≡ option_map (synthesized kept now) (decided_among kept query now zone (None ∷ map Some ways))
made_later kept query now zone ways found none is =
    ap (option_map (λ (p : ℕ × ℕ). record { code = p.0; zone = zone; ttl = p.1 })) is
    ∙ hashed_made kept query now zone ways
    ∙ sym (ap (option_map (synthesized kept now)) (decided_later kept query now zone None (map Some ways) none))

-- A denial by kept records holds in each zone in which the records of its group are true.
use Rattle.std.proofs.Common.{◌≡◌, ◌⊎◌, inl, inr, ℕ, Bool, true, false, cond, ◌&&◌, ◌||◌, ◌==◌, List, [], ◌∷◌, Option, None, Some, IfSome, is_some, refl, ap, ◌∙◌, subst}
use Rattle.std.specs.Option.{option_and_then, option_map}
use Rattle.std.specs.List.{filter, find, list_all}
use Rattle.std.proofs.lemmas.Bool.{eqb-true}
use Rattle.dns_model.specs.declared.proof.Proof.{Proof}
use Rattle.dns_model.specs.declared.proof.Proof.TheVariants.{Secure, Insecure, Bogus, Indeterminate}
use Rattle.dns_model.specs.Bytes.{has_flag}
use Rattle.dns_model.specs.Names.{Labels}
use Rattle.dns_model.specs.Records.{Question}
use Rattle.dns_model.specs.Owned.{OwnedNsec3}
use Rattle.dns_model.specs.Types.{type_ds, code_no_error, code_nx_domain}
use Rattle.dns_model.specs.SoundAnswers.{is_secure}
use Rattle.dns_rules.specs.Zones.{Zone, lookup, NoData, NxDomain}
use Rattle.dns_rules.specs.DenialInZones.{HasNone, is_data_type}
use Rattle.dns_rules.specs.Nsec3Covering.{counts_for, is_opt_out, nsec3_covering, nsec3_spans}
use Rattle.dns_rules.specs.Nsec3Verdict.{Parameters, is_covered_opt_out, may_be_unsigned, next_closer, hashed, parameters_of, provable_encloser}
use Rattle.dns_rules.proofs.Promises as names
use Rattle.dns_hashed_denial.specs.HashedDenial.{HasNoneByHashes, IsUnanswered, WithoutType, WithoutName, ToUnsigned, hash_of, is_by_opt_out, is_by_opt_out_with, is_opted_out}
use Rattle.dns_hashed_denial.proofs.HashedPromises as hashes
use Rattle.dns_aggressive.specs.declared.kept.KeptRecord.{KeptRecord}
use Rattle.dns_aggressive.specs.declared.kept.KeptRecord.TheVariants.{Nsec, Nsec3}
use Rattle.dns_aggressive.specs.Records.{KeptValue, StoreValue}
use Rattle.dns_aggressive.specs.Flags.{are_plain, is_plain}
use Rattle.dns_aggressive.specs.Denials.{code_by, decided_by, decided_in, decision, group, is_in_group, may_deny, nsec3s_in, nsecs_in, shown_code, verdict, ways_tried, zone_for}
use Rattle.dns_aggressive.specs.Promises.{IsDenial, IsZoneOf}

-- ---- no record is opt-out

abbrev without_flags : List OwnedNsec3 → Bool
without_flags nsec3s = list_all (λ n. n.fields.flags == 0) nsec3s

left_true : (a b : Bool) → (a && b) ≡ true → a ≡ true
left_true true b h = refl
left_true false b h = cc

right_true : (a b : Bool) → (a && b) ≡ true → b ≡ true
right_true true b h = h
right_true false b h = cc

both_true : (a b : Bool) → a ≡ true → b ≡ true → (a && b) ≡ true
both_true true b h k = k
both_true false b h k = cc

plain_step : (b : Bool) (item : KeptRecord) (z : Labels) (e : ℕ) (xs : List KeptValue) → is_plain item ≡ true
    → without_flags (nsec3s_in xs) ≡ true
    → without_flags (nsec3s_in (cond b (record { zone = z; item = item; expires = e } ∷ xs) xs)) ≡ true
plain_step true (Nsec n) z e xs plain h = h
plain_step true (Nsec3 n) z e xs plain h = both_true _ _ (right_true _ _ plain) h
plain_step false item z e xs plain h = h

group_plain : (q : KeptValue → Bool) (kept : List KeptValue) → are_plain kept ≡ true
    → without_flags (nsec3s_in (filter q kept)) ≡ true
group_plain q [] h = refl
group_plain q (k ∷ kept) h =
    plain_step (q k) k.item k.zone k.expires (filter q kept) (left_true _ _ h) (group_plain q kept (right_true _ _ h))

no_flag : (flags : ℕ) → (flags == 0) ≡ true → has_flag flags 1 ≡ false
no_flag flags h = ap (λ f. has_flag f 1) (eqb-true flags 0 h)

not_opted : (nsec3s : List OwnedNsec3) (name : Labels) → without_flags nsec3s ≡ true → is_opted_out nsec3s name ≡ false
not_opted [] name h = refl
not_opted (n ∷ nsec3s) name h =
    ap (λ b. (b && nsec3_spans (hash_of n name) n) || is_opted_out nsec3s name)
    (no_flag n.fields.flags (left_true _ _ h))
    ∙ not_opted nsec3s name (right_true _ _ h)

found_step : (b : Bool) (n : OwnedNsec3) (o : Option OwnedNsec3) → is_opt_out n ≡ false → is_covered_opt_out o ≡ false
    → is_covered_opt_out (cond b (Some n) o) ≡ false
found_step true n o h k = h
found_step false n o h k = k

found_plain : (q : OwnedNsec3 → Bool) (nsec3s : List OwnedNsec3) → without_flags nsec3s ≡ true
    → is_covered_opt_out (find q nsec3s) ≡ false
found_plain q [] h = refl
found_plain q (n ∷ nsec3s) h =
    found_step (q n) n (find q nsec3s) (no_flag n.fields.flags (left_true _ _ h))
    (found_plain q nsec3s (right_true _ _ h))

covered_plain : (hash : List ℕ) (nsec3s : List OwnedNsec3) → without_flags nsec3s ≡ true
    → is_covered_opt_out (nsec3_covering hash nsec3s) ≡ false
unfolding nsec3_covering
covered_plain hash nsec3s h = found_plain (counts_for hash nsec3s) nsec3s h

unsigned_plain : (by : Parameters) (nsec3s : List OwnedNsec3) (child : Labels) (encloser : Option Labels)
    → without_flags nsec3s ≡ true
    → may_be_unsigned by nsec3s child encloser ≡ false
unsigned_plain by nsec3s child None h = refl
unsigned_plain by nsec3s child (Some encloser) h = covered_plain (hashed by (next_closer encloser child)) nsec3s h

and_false : (a b : Bool) → b ≡ false → (a && b) ≡ false
and_false true b h = h
and_false false b h = refl

by_opt_out_with : (query : Question) (apex : Labels) (nsec3s : List OwnedNsec3) (by : Option Parameters)
    → without_flags nsec3s ≡ true
    → is_by_opt_out_with query apex nsec3s by ≡ false
by_opt_out_with query apex nsec3s None h = refl
by_opt_out_with query apex nsec3s (Some by) h =
    and_false _ _ (unsigned_plain by nsec3s query.owner (provable_encloser by apex nsec3s query.owner) h)

by_opt_out : (query : Question) (apex : Labels) (nsec3s : List OwnedNsec3) → without_flags nsec3s ≡ true
    → is_by_opt_out query apex nsec3s ≡ false
by_opt_out query apex nsec3s h = and_false (query.rtype == type_ds) _
    (by_opt_out_with query apex nsec3s (parameters_of nsec3s) h)

no_opt_out : {A : Type 0} (b : Bool) → b ≡ false → b ≡ true → A
no_opt_out true h k = cc
no_opt_out false h k = cc

answered : (query : Question) (code : ℕ) (nsec3s : List OwnedNsec3) (zone : Zone) → without_flags nsec3s ≡ true
    → IsUnanswered query code nsec3s zone
    → (lookup zone query.owner query.rtype ≡ NoData) ⊎ (lookup zone query.owner query.rtype ≡ NxDomain)
answered query code nsec3s zone plain (WithoutType h) = inl h
answered query code nsec3s zone plain (WithoutName h) = inr h
answered query code nsec3s zone plain (ToUnsigned cut leads is below no_error) =
    no_opt_out (is_opted_out nsec3s below.covered) (not_opted nsec3s below.covered plain) below.opted_out

-- without opt-out nothing but the denial is left
none_by_hashes : (query : Question) (apex : Labels) (code : ℕ) (nsec3s : List OwnedNsec3) (zone : Zone)
    → without_flags nsec3s ≡ true
    → HasNoneByHashes query apex code nsec3s zone → HasNone query code zone
none_by_hashes query apex code nsec3s zone plain h = record {
  holds = h.holds;
  answer = answered query code nsec3s zone plain (h.answer (by_opt_out query apex nsec3s plain));
  name = h.name;
}

-- ---- a code that a group shows

secure_is : (p : Proof) → is_secure p ≡ true → p ≡ Secure
secure_is Secure h = refl
secure_is Insecure h = cc
secure_is Bogus h = cc
secure_is Indeterminate h = cc

shown_step : (proved : ℕ → Proof) (a b : Bool) (code : ℕ) → is_secure (proved code_nx_domain) ≡ a
    → is_secure (proved code_no_error) ≡ b
    → cond a (Some code_nx_domain) (cond b (Some code_no_error) None) ≡ Some code → proved code ≡ Secure
shown_step proved true b code x y h =
    let e : code_nx_domain ≡ code = cc in
    subst (λ c. proved c ≡ Secure) e (secure_is (proved code_nx_domain) x)
shown_step proved false true code x y h =
    let e : code_no_error ≡ code = cc in
    subst (λ c. proved c ≡ Secure) e (secure_is (proved code_no_error) y)
shown_step proved false false code x y h = cc

-- each code that is shown has a Secure verdict
shown_secure : (proved : ℕ → Proof) (code : ℕ) → code_by proved ≡ Some code → proved code ≡ Secure
shown_secure proved code h = shown_step proved _ _ code refl refl h

holds_in : (way : Option Parameters) (records : List KeptValue) (query : Question) (apex : Labels) (code : ℕ)
    → is_data_type query.rtype ≡ true → without_flags (nsec3s_in records) ≡ true
    → verdict query apex records way code ≡ Secure
    → (zone : Zone) → IsZoneOf records way apex query.owner zone → HasNone query code zone
holds_in None records query apex code data_ plain secure zone shown = names.denial_holds query apex code
    (nsecs_in records) secure data_ zone shown
holds_in (Some way) records query apex code data_ plain secure zone shown =
    none_by_hashes query apex code (nsec3s_in records) zone plain
    (hashes.denial_holds query apex code (nsec3s_in records) 100 500 secure data_ zone shown)

by_way : (store : StoreValue) (query : Question) (now : ℕ) (zone : Labels) (way : Option Parameters) (o : Option ℕ)
    → is_data_type query.rtype ≡ true → are_plain store.kept ≡ true → shown_code store.kept query now zone way ≡ o
    → IfSome (option_map (λ code. record { zone = zone; way = way; code = code }) o) (IsDenial store query now)
by_way store query now zone way None data_ plain is = tt
by_way store query now zone way (Some code) data_ plain is =
    holds_in way (group now zone store.kept way) query zone code data_
    (group_plain (is_in_group now zone way) store.kept plain)
    (shown_secure (verdict query zone (group now zone store.kept way) way) code is)

by_found : (store : StoreValue) (query : Question) (now : ℕ) (zone : Labels) (found : Option (Option Parameters))
    → is_data_type query.rtype ≡ true → are_plain store.kept ≡ true
    → IfSome (option_and_then (decided_by store.kept query now zone) found) (IsDenial store query now)
by_found store query now zone None data_ plain = tt
by_found store query now zone (Some way) data_ plain = by_way store query now zone way
    (shown_code store.kept query now zone way) data_ plain refl

by_zone : (store : StoreValue) (query : Question) (now : ℕ) (zone : Option Labels) → is_data_type query.rtype ≡ true
    → are_plain store.kept ≡ true
    → IfSome (option_and_then (decided_in store query now) zone) (IsDenial store query now)
by_zone store query now None data_ plain = tt
by_zone store query now (Some zone) data_ plain =
    by_found store query now zone (find (λ way. is_some (shown_code store.kept query now zone way))
    (ways_tried store.most store.kept now zone))
    data_ plain

by_query : (store : StoreValue) (query : Question) (now : ℕ) (b : Bool) → may_deny query ≡ b
    → are_plain store.kept ≡ true
    → IfSome (cond b (option_and_then (decided_in store query now) (zone_for store.kept query now)) None)
    (IsDenial store query now)
by_query store query now true may plain = by_zone store query now (zone_for store.kept query now)
    (right_true _ _ may) plain
by_query store query now false may plain = tt

pub denial_holds : (store : StoreValue) (query : Question) (now : ℕ) → are_plain store.kept ≡ true
    → IfSome (decision store query now) (IsDenial store query now)
denial_holds store query now plain = by_query store query now (may_deny query) refl plain

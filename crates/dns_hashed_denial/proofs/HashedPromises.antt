-- A Secure denial by NSEC3 records holds in each zone in which they are true (RFC 5155, 6 and 8.4 to 8.7; RFC 4592).
use Rattle.std.proofs.Common.{◌≡◌, ℕ, Bool, true, false, cond, not, ◌==◌, ◌&&◌, ◌||◌, List, ◌∷◌, Option, None, Some, refl, sym, ap, ◌∙◌, true≢false, ◌⊎◌, inl, inr, arith}
use Rattle.std.specs.Option.{is_none}
use Rattle.std.specs.List.{find}
use Rattle.std.proofs.lemmas.Bool.{and_parts, and_from, or_parts, or_cases, false_from_ne_true, not-true}
use Rattle.std.proofs.lemmas.Bool.Decides.{nat_tests}
use Rattle.dns_model.specs.Names.{Labels, name_eq, at_or_above, asterisk, star}
use Rattle.dns_model.specs.Types.{type_ns, type_cname, type_ds, type_dname, code_no_error, code_nx_domain, can_deny}
use Rattle.dns_model.specs.Records.{Question}
use Rattle.dns_model.specs.Owned.{OwnedNsec3}
use Rattle.dns_model.specs.declared.proof.Proof.{Proof}
use Rattle.dns_model.specs.declared.proof.Proof.TheVariants.{Secure, Insecure}
use Rattle.dns_model.specs.declared.answered.Answered.{Answered}
use Rattle.dns_model.specs.declared.answered.Answered.TheVariants.{No}
use Rattle.dns_model.proofs.AboveLemmas.{above_itself, above_trans, above_one_more}
use Rattle.dns_rules.specs.ListedTypes.{has_type, lacks_data, is_right_side, denies_at_owner, wildcard_lacks}
use Rattle.dns_rules.specs.NsecVerdict.{holds_query, secure_if}
use Rattle.dns_rules.specs.Nsec3Covering.{is_considered, is_opt_out, nsec3_matches}
use Rattle.dns_rules.specs.Nsec3Verdict.{Parameters, parameters_of, hashed, provable_encloser, next_closer, covering_name, both_covered, name_error, wildcard_denies, no_data_below, no_data, verdict_at_name, nsec3_verdict, is_covered_opt_out, may_be_unsigned}
use Rattle.dns_rules.specs.Zones.{Zone, has_set, exists_in, is_zone, has_data, from_wildcard, NoData, NxDomain}
use Rattle.dns_rules.proofs.Members.{picked_known}
use Rattle.dns_rules.proofs.ReachLemmas.{no_set, no_delegation}
use Rattle.dns_hashed_denial.specs.HashedZones.{is_concerned}
use Rattle.dns_hashed_denial.specs.HashedDenial.{IsTrueFor, is_opted_out, IsMissing, Absent, Light, IsUnanswered, WithoutType, WithoutName, ToUnsigned, is_by_opt_out_with, is_by_opt_out, HasNoneByHashes, IsDeniedByHashes}
use Rattle.dns_hashed_denial.proofs.ExistingNames.{exists_over, ownerless, light_below, light_has_no_ds}
use Rattle.dns_hashed_denial.proofs.TrueRecords.{IsListed, lacking_listed, listed_reach}
use Rattle.dns_hashed_denial.proofs.BelowEnclosers.{IsEnclosed, closer_above, closer_inside, name_inside, there_without, mute_answer, absent_answer, name_missing, wildcard_answers, IsLightAnswer, NoType, NoName, Leads, light_answers}
use Rattle.dns_hashed_denial.proofs.HashedVerdicts.{IsHashedBy, hashed_by, apex_is, matched, first_matched, IsCoveredIn, covered, IsProvedEncloser, toward_concerned, star_concerned, proved_encloser, holds_in, held_inside, judged}

-- ---- codes and marks

pub secured : (b : Bool) → secure_if b ≡ Secure → b ≡ true
secured true h = refl
secured false h = cc

no_name_error : (code : ℕ) → (code == code_no_error) ≡ true → code ≡ code_nx_domain → ⊥
no_name_error code h e = true≢false (sym h ∙ ap (λ c. c == code_no_error) e)

no_error : (code : ℕ) → can_deny code ≡ true → (code == code_nx_domain) ≡ false → code ≡ code_no_error
no_error code deny other = by (or_cases (code == code_no_error) (code == code_nx_domain) deny)
  where
    by : ((code == code_no_error) ≡ true) ⊎ ((code == code_nx_domain) ≡ true) → code ≡ code_no_error
    by (inl is) = grind (arith, nat_tests, is)
    by (inr is) = absurd (true≢false (sym is ∙ other))

-- a name without data has no DS, where that is the type
no_ds : (zone : Zone) (name : Labels) (rtype : ℕ) → has_data zone name rtype ≡ false → rtype ≡ type_ds
    → has_set zone name type_ds ≡ false
no_ds zone name rtype none is =
    ap (has_set zone name) (sym is) ∙ (or_parts (has_set zone name rtype) (has_set zone name type_cname) none).0

-- ---- names that a record covers

missing_if_plain : (nsec3s : List OwnedNsec3) (zone : Zone) (name : Labels) (nsec3 : OwnedNsec3)
    → IsCoveredIn nsec3s zone name nsec3
    → is_opt_out nsec3 ≡ false → exists_in zone name ≡ false
missing_if_plain nsec3s zone name nsec3 c plain =
    false_from_ne_true (exists_in zone name) (λ there. true≢false (sym (c.light there).0 ∙ plain))

-- a name at or below a covered one is missing, or light and opted out
pub covered_missing : (nsec3s : List OwnedNsec3) (zone : Zone) (above name : Labels) (nsec3 : OwnedNsec3)
    → at_or_above zone.apex above ≡ true
    → IsCoveredIn nsec3s zone above nsec3 → at_or_above above name ≡ true → IsMissing nsec3s zone name
covered_missing nsec3s zone above name nsec3 inside c below = by (exists_in zone name) refl
  where
    by : (b : Bool) → exists_in zone name ≡ b → IsMissing nsec3s zone name
    by false gone = Absent gone
    by true there =
        let l = c.light (exists_over zone above name inside below there) in
        Light (light_below zone above name l.1 below there)
        (record { covered = above; inside = inside; below = below; opted_out = c.opted_out l.0 })

pub missing_has_no_ds : (nsec3s : List OwnedNsec3) (zone : Zone) (name : Labels) → at_or_above zone.apex name ≡ true
    → IsMissing nsec3s zone name
    → has_set zone name type_ds ≡ false
missing_has_no_ds nsec3s zone name inside (Absent gone) = no_set zone name type_ds (ownerless zone name inside gone)
missing_has_no_ds nsec3s zone name inside (Light light opted) = light_has_no_ds zone name name light (above_itself name)

-- ---- a record at the name

denied_at : (query : Question) (apex : Labels) (code : ℕ) (nsec3s : List OwnedNsec3) (zone : Zone) (types : List ℕ)
    → is_zone zone ≡ true
    → holds_query zone.apex query ≡ true → IsListed zone query.owner types
    → ((code == code_no_error) && denies_at_owner query.rtype types) ≡ true
    → HasNoneByHashes query apex code nsec3s zone
denied_at query apex code nsec3s zone types formed holds l h =
    let parts = and_parts (code == code_no_error) (denies_at_owner query.rtype types) h in
    let denies = and_parts (lacks_data query.rtype types) (is_right_side query.rtype types) parts.1 in
    let none = lacking_listed zone query.owner types query.rtype l denies.0 in
    let reach = listed_reach zone query.owner query.rtype types formed l denies.1 in
    record {
      holds = holds;
      answer = λ row. WithoutType (there_without zone query.owner query.rtype reach l.there none);
      ds = λ is. no_ds zone query.owner query.rtype none is;
      name = λ is. absurd (no_name_error code parts.0 is);
    }

-- ---- a name error

record AreBothPlain (closer wildcard : Option OwnedNsec3) : Type 0 where
  pub first : OwnedNsec3
  pub closer_is : closer ≡ Some first
  pub closer_plain : is_opt_out first ≡ false
  pub second : OwnedNsec3
  pub wildcard_is : wildcard ≡ Some second
  pub wildcard_plain : is_opt_out second ≡ false

not_insecure : (b : Bool) → cond b Insecure Secure ≡ Secure → b ≡ false
not_insecure true h = cc
not_insecure false h = refl

both_plain : (closer wildcard : Option OwnedNsec3) → both_covered closer wildcard ≡ Secure
    → AreBothPlain closer wildcard
both_plain None wildcard h = cc
both_plain (Some first) None h = cc
both_plain (Some first) (Some second) h =
    let parts = or_parts (is_opt_out first) (is_opt_out second)
    (not_insecure (is_opt_out first || is_opt_out second) h) in
    record {
      first = first;
      closer_is = refl;
      closer_plain = parts.0;
      second = second;
      wildcard_is = refl;
      wildcard_plain = parts.1;
    }

absent_name : (by : Parameters) (query : Question) (apex : Labels) (code : ℕ) (nsec3s : List OwnedNsec3)
    (zone : Zone) (encloser : Labels)
    → IsHashedBy nsec3s query.owner zone by → holds_query zone.apex query ≡ true
    → IsProvedEncloser by zone nsec3s query.owner encloser
    → both_covered (covering_name by nsec3s (next_closer encloser query.owner))
    (covering_name by nsec3s (star encloser)) ≡ Secure
    → HasNoneByHashes query apex code nsec3s zone
absent_name by query apex code nsec3s zone encloser s holds p h =
    let both = both_plain (covering_name by nsec3s (next_closer encloser query.owner))
    (covering_name by nsec3s (star encloser)) h in
    let e = p.enclosed in
    let closer = covered nsec3s query.owner (p.label ∷ encloser) zone by both.first s
    (ap (covering_name by nsec3s) (sym p.closer) ∙ both.closer_is) in
    let wildcard = covered nsec3s query.owner (star encloser) zone by both.second s both.wildcard_is in
    let no_closer = missing_if_plain nsec3s zone (p.label ∷ encloser) both.first closer both.closer_plain in
    let no_star = missing_if_plain nsec3s zone (star encloser) both.second wildcard both.wildcard_plain in
    let gone = name_missing zone query.owner encloser p.label e no_closer in
    let inside = name_inside zone query.owner encloser p.label e in
    record {
      holds = holds;
      answer = λ row. WithoutName (wildcard_answers zone query.owner encloser p.label query.rtype s.formed e no_closer
          ∙ absent_answer zone (star encloser) query.rtype
          (above_one_more zone.apex asterisk encloser e.inside) no_star);
      ds = λ is. no_set zone query.owner type_ds (ownerless zone query.owner inside gone);
      name = λ is. gone;
    }

name_error_holds : (by : Parameters) (query : Question) (apex : Labels) (code : ℕ) (nsec3s : List OwnedNsec3)
    (zone : Zone) (o : Option Labels)
    → IsHashedBy nsec3s query.owner zone by → name_eq zone.apex apex ≡ true → holds_query zone.apex query ≡ true
    → provable_encloser by apex nsec3s query.owner ≡ o → name_error by nsec3s query.owner o ≡ Secure
    → HasNoneByHashes query apex code nsec3s zone
name_error_holds by query apex code nsec3s zone None s same holds e h = cc
name_error_holds by query apex code nsec3s zone (Some encloser) s same holds e h =
    absent_name by query apex code nsec3s zone encloser s holds
    (proved_encloser by apex zone nsec3s query.owner encloser s same e) h

-- ---- no data at a name without a record of its own

-- a wildcard of which some record shows that it answers nothing
listed_wildcard : (nsec3s : List OwnedNsec3) (about wildcard : Labels) (zone : Zone) (by : Parameters) (rtype : ℕ)
    → IsHashedBy nsec3s about zone by
    → is_concerned zone about wildcard ≡ true → wildcard_denies by rtype nsec3s wildcard ≡ true
    → from_wildcard zone wildcard rtype ≡ NoData
listed_wildcard nsec3s about wildcard zone by rtype s concerned h =
    let k = picked_known (λ r. nsec3_matches (hashed by wildcard) r && wildcard_lacks rtype r.fields.types)
    (λ r. is_considered r ≡ true → IsTrueFor zone about by r) nsec3s s.each h in
    let parts = and_parts (nsec3_matches (hashed by wildcard) k.it) (wildcard_lacks rtype k.it.fields.types) k.passes in
    let counts = (and_parts (is_considered k.it) _ parts.0).0 in
    let l = matched nsec3s about wildcard zone by k.it s concerned (k.known counts) parts.0 in
    let types = k.it.fields.types in
    let lacks = and_parts (lacks_data rtype types)
    (not (has_type type_ns types || has_type type_dname types)) parts.1 in
    let ends = or_parts (has_type type_ns types) (has_type type_dname types)
    (not-true (has_type type_ns types || has_type type_dname types) lacks.1) in
    mute_answer zone wildcard rtype (no_delegation zone wildcard (l.listed type_ns ∙ ends.0))
    (lacking_listed zone wildcard types rtype l lacks.0)
    (l.listed type_dname ∙ ends.1)
    ∙ ap (λ b. cond b NoData NxDomain) l.there

light_unanswered : (query : Question) (code : ℕ) (nsec3s : List OwnedNsec3) (zone : Zone) (closer : Labels)
    → code ≡ code_no_error → at_or_above zone.apex closer ≡ true
    → is_opted_out nsec3s closer ≡ true → IsLightAnswer zone query.owner closer query.rtype
    → IsUnanswered query code nsec3s zone
light_unanswered query code nsec3s zone closer plain inside opted (NoType is) = WithoutType is
light_unanswered query code nsec3s zone closer plain inside opted (NoName is) = WithoutName is
light_unanswered query code nsec3s zone closer plain inside opted (Leads cut is unsigned below) =
    ToUnsigned cut is unsigned (record { covered = closer; inside = inside; below = below; opted_out = opted }) plain

-- the wildcard is there, without the type
by_wildcard : (by : Parameters) (query : Question) (apex : Labels) (code : ℕ) (nsec3s : List OwnedNsec3)
    (zone : Zone) (encloser : Labels) (nsec3 : OwnedNsec3)
    → IsHashedBy nsec3s query.owner zone by → holds_query zone.apex query ≡ true
    → (p : IsProvedEncloser by zone nsec3s query.owner encloser)
    → IsCoveredIn nsec3s zone (p.label ∷ encloser) nsec3 → code ≡ code_no_error
    → ((query.rtype == type_ds) && is_opt_out nsec3) ≡ false
    → wildcard_denies by query.rtype nsec3s (star encloser) ≡ true → HasNoneByHashes query apex code nsec3s zone
by_wildcard by query apex code nsec3s zone encloser nsec3 s holds p c plain row h =
    to (exists_in zone (p.label ∷ encloser)) refl
  where
    e : IsEnclosed zone query.owner encloser p.label
    e = p.enclosed

    named : code ≡ code_nx_domain → ⊥
    named is = no_name_error code (ap (λ n. n == code_no_error) plain) is

    higher : at_or_above encloser query.owner ≡ true
    higher =
        above_trans encloser (p.label ∷ encloser) query.owner
        (above_one_more encloser p.label encloser (above_itself encloser))
        (closer_above zone query.owner encloser p.label e)

    wildcard : from_wildcard zone (star encloser) query.rtype ≡ NoData
    wildcard = listed_wildcard nsec3s query.owner (star encloser) zone by query.rtype s
        (star_concerned zone query.owner encloser e.inside higher) h

    to : (b : Bool) → exists_in zone (p.label ∷ encloser) ≡ b → HasNoneByHashes query apex code nsec3s zone
    to false gone = record {
      holds = holds;
      answer = λ other. WithoutType (wildcard_answers zone query.owner encloser p.label query.rtype s.formed e gone
          ∙ wildcard);
      ds = λ is. no_set zone query.owner type_ds
          (ownerless zone query.owner (name_inside zone query.owner encloser p.label e)
          (name_missing zone query.owner encloser p.label e gone));
      name = λ is. absurd (named is);
    }
    to true there =
        let l = c.light there in
        let other : (query.rtype == type_ds) ≡ false =
        false_from_ne_true (query.rtype == type_ds)
        (λ is. true≢false (sym (and_from (query.rtype == type_ds) (is_opt_out nsec3) is l.0) ∙ row)) in
        record {
          holds = holds;
          answer = λ outside. light_unanswered query code nsec3s zone (p.label ∷ encloser) plain
              (closer_inside zone query.owner encloser p.label e) (c.opted_out l.0)
              (light_answers zone query.owner encloser p.label query.rtype s.formed e l.1 (ap not other));
          ds = λ is. absurd (true≢false (ap (λ t. t == type_ds) (sym is) ∙ other));
          name = λ is. absurd (named is);
        }

-- a DS where names are opted out
by_opt_out : (by : Parameters) (query : Question) (apex : Labels) (code : ℕ) (nsec3s : List OwnedNsec3) (zone : Zone)
    (encloser : Labels) (nsec3 : OwnedNsec3)
    → holds_query zone.apex query ≡ true → (p : IsProvedEncloser by zone nsec3s query.owner encloser)
    → IsCoveredIn nsec3s zone (p.label ∷ encloser) nsec3 → code ≡ code_no_error → is_by_opt_out query apex nsec3s ≡ true
    → HasNoneByHashes query apex code nsec3s zone
by_opt_out by query apex code nsec3s zone encloser nsec3 holds p c plain row = record {
  holds = holds;
  answer = λ other. absurd (true≢false (sym row ∙ other));
  ds = λ is. missing_has_no_ds nsec3s zone query.owner (name_inside zone query.owner encloser p.label p.enclosed)
      (covered_missing nsec3s zone (p.label ∷ encloser) query.owner nsec3
      (closer_inside zone query.owner encloser p.label p.enclosed) c
      (closer_above zone query.owner encloser p.label p.enclosed));
  name = λ is. absurd (no_name_error code (ap (λ n. n == code_no_error) plain) is);
}

no_data_by : (by : Parameters) (query : Question) (apex : Labels) (code : ℕ) (nsec3s : List OwnedNsec3) (zone : Zone)
    (encloser : Labels) (o : Option OwnedNsec3)
    → IsHashedBy nsec3s query.owner zone by → holds_query zone.apex query ≡ true
    → IsProvedEncloser by zone nsec3s query.owner encloser
    → parameters_of nsec3s ≡ Some by → find (nsec3_matches (hashed by query.owner)) nsec3s ≡ None
    → provable_encloser by apex nsec3s query.owner ≡ Some encloser
    → code ≡ code_no_error → covering_name by nsec3s (next_closer encloser query.owner) ≡ o
    → no_data_below by query.rtype nsec3s encloser o ≡ true → HasNoneByHashes query apex code nsec3s zone
no_data_by by query apex code nsec3s zone encloser None s holds p parameters none found plain e h =
    absurd (true≢false (sym h))
no_data_by by query apex code nsec3s zone encloser (Some nsec3) s holds p parameters none found plain e h =
    to ((query.rtype == type_ds) && is_opt_out nsec3) refl h
  where
    c : IsCoveredIn nsec3s zone (p.label ∷ encloser) nsec3
    c = covered nsec3s query.owner (p.label ∷ encloser) zone by nsec3 s (ap (covering_name by nsec3s) (sym p.closer)
        ∙ e)

    is_row : is_opt_out nsec3 ≡ true → is_by_opt_out_with query apex nsec3s (parameters_of nsec3s) ≡ true
    is_row flag =
        ap (is_by_opt_out_with query apex nsec3s) parameters
        ∙ ap (λ (f : Option OwnedNsec3). is_none f && may_be_unsigned by nsec3s query.owner
        (provable_encloser by apex nsec3s query.owner)) none
        ∙ ap (may_be_unsigned by nsec3s query.owner) found ∙ ap is_covered_opt_out e ∙ flag

    to : (b : Bool) → ((query.rtype == type_ds) && is_opt_out nsec3) ≡ b
        → cond b true (wildcard_denies by query.rtype nsec3s (star encloser)) ≡ true
        → HasNoneByHashes query apex code nsec3s zone
    to true row rest =
        let parts = and_parts (query.rtype == type_ds) (is_opt_out nsec3) row in
        by_opt_out by query apex code nsec3s zone encloser nsec3 holds p c plain
        (and_from (query.rtype == type_ds) (is_by_opt_out_with query apex nsec3s (parameters_of nsec3s)) parts.0
        (is_row parts.1))
    to false row rest = by_wildcard by query apex code nsec3s zone encloser nsec3 s holds p c plain row rest

no_data_holds : (by : Parameters) (query : Question) (apex : Labels) (code : ℕ) (nsec3s : List OwnedNsec3)
    (zone : Zone) (o : Option Labels)
    → IsHashedBy nsec3s query.owner zone by → name_eq zone.apex apex ≡ true → holds_query zone.apex query ≡ true
    → parameters_of nsec3s ≡ Some by → find (nsec3_matches (hashed by query.owner)) nsec3s ≡ None → code ≡ code_no_error
    → provable_encloser by apex nsec3s query.owner ≡ o → no_data by query nsec3s o ≡ true
    → HasNoneByHashes query apex code nsec3s zone
no_data_holds by query apex code nsec3s zone None s same holds parameters none plain e h = absurd (true≢false (sym h))
no_data_holds by query apex code nsec3s zone (Some encloser) s same holds parameters none plain e h =
    no_data_by by query apex code nsec3s zone encloser
    (covering_name by nsec3s (next_closer encloser query.owner)) s holds
    (proved_encloser by apex zone nsec3s query.owner encloser s same e) parameters none e plain refl h

-- ---- denials

unmatched_holds : (by : Parameters) (query : Question) (apex : Labels) (code : ℕ) (nsec3s : List OwnedNsec3)
    (zone : Zone) (b : Bool)
    → IsHashedBy nsec3s query.owner zone by → name_eq zone.apex apex ≡ true → holds_query zone.apex query ≡ true
    → parameters_of nsec3s ≡ Some by → find (nsec3_matches (hashed by query.owner)) nsec3s ≡ None → can_deny code ≡ true
    → (code == code_nx_domain) ≡ b
    → cond b (name_error by nsec3s query.owner (provable_encloser by apex nsec3s query.owner))
    (secure_if (no_data by query nsec3s (provable_encloser by apex nsec3s query.owner))) ≡ Secure
    → HasNoneByHashes query apex code nsec3s zone
unmatched_holds by query apex code nsec3s zone true s same holds parameters none deny e h =
    name_error_holds by query apex code nsec3s zone (provable_encloser by apex nsec3s query.owner) s same holds refl h
unmatched_holds by query apex code nsec3s zone false s same holds parameters none deny e h =
    no_data_holds by query apex code nsec3s zone
    (provable_encloser by apex nsec3s query.owner) s same holds parameters none (no_error code deny e) refl
    (secured (no_data by query nsec3s (provable_encloser by apex nsec3s query.owner)) h)

denied_by : (by : Parameters) (query : Question) (apex : Labels) (code : ℕ) (nsec3s : List OwnedNsec3) (zone : Zone)
    (o : Option OwnedNsec3)
    → IsHashedBy nsec3s query.owner zone by → name_eq zone.apex apex ≡ true → holds_query zone.apex query ≡ true
    → parameters_of nsec3s ≡ Some by → can_deny code ≡ true → find (nsec3_matches (hashed by query.owner)) nsec3s ≡ o
    → verdict_at_name by query apex code No nsec3s o ≡ Secure → HasNoneByHashes query apex code nsec3s zone
denied_by by query apex code nsec3s zone None s same holds parameters deny e h =
    unmatched_holds by query apex code nsec3s zone (code == code_nx_domain) s same holds parameters e deny refl h
denied_by by query apex code nsec3s zone (Some nsec3) s same holds parameters deny e h =
    let concerned = toward_concerned zone query.owner query.owner (held_inside zone.apex query holds)
    (above_itself query.owner) in
    denied_at query apex code nsec3s zone nsec3.fields.types s.formed holds
    (first_matched nsec3s query.owner query.owner zone by nsec3 s concerned e)
    (secured ((code == code_no_error) && denies_at_owner query.rtype nsec3.fields.types) h)

-- a Secure verdict on an answer without the name and type holds in each zone
pub denial_holds : (query : Question) (apex : Labels) (code : ℕ) (nsec3s : List OwnedNsec3) (soft hard : ℕ)
    → nsec3_verdict query apex code No nsec3s soft hard ≡ Secure → IsDeniedByHashes query apex code nsec3s
denial_holds query apex code nsec3s soft hard h =
    let j = judged query apex code No nsec3s soft hard h in
    λ plain zone shown.
    let same = apex_is nsec3s query.owner apex zone j.by shown j.parameters j.of_zone in
    denied_by j.by query apex code nsec3s zone (find (nsec3_matches (hashed j.by query.owner)) nsec3s)
    (hashed_by nsec3s query.owner zone j.by shown j.parameters)
    same (holds_in zone apex query same j.holds) j.parameters j.deny refl j.secure

-- ---- the same of what a function answers

pub denial_of : (query : Question) (apex : Labels) (code : ℕ) (answered : Answered) (nsec3s : List OwnedNsec3)
    (soft hard : ℕ) (proof : Proof)
    → proof ≡ nsec3_verdict query apex code answered nsec3s soft hard → proof ≡ Secure → answered ≡ No
    → IsDeniedByHashes query apex code nsec3s
denial_of query apex code answered nsec3s soft hard proof is secure unanswered =
    denial_holds query apex code nsec3s soft hard
    (ap (λ a. nsec3_verdict query apex code a nsec3s soft hard) (sym unanswered) ∙ sym is ∙ secure)

-- A Secure verdict holds in each zone in which the records are true.
use Rattle.std.proofs.Common.{◌≡◌, ℕ, ◌≤◌, Bool, true, false, cond, not, ◌==◌, ◌&&◌, ◌||◌, List, length, Option, None, Some, is_some, refl, sym, ap, ◌∙◌, arith, true≢false, ◌⊎◌, inl, inr}
use Rattle.std.specs.List.{find, position, AllByRecursion}
use Rattle.std.proofs.lemmas.Bool.{and_parts, or_parts, not-true, false_from_ne_true}
use Rattle.std.proofs.lemmas.Bool.Decides.{nat_tests}
use Rattle.dns_model.specs.Names.{Labels, name_eq, at_or_above, strictly_above, star}
use Rattle.dns_model.specs.Types.{type_ns, type_ds, type_dname}
use Rattle.dns_model.specs.Records.{Question}
use Rattle.dns_model.specs.Owned.{OwnedNsec}
use Rattle.dns_model.specs.declared.proof.Proof.{Proof}
use Rattle.dns_model.specs.declared.proof.Proof.TheVariants.{Secure, Bogus}
use Rattle.dns_model.proofs.EachLemmas.{find_known}
use Rattle.dns_model.proofs.NameLemmas.{name_equiv}
use Rattle.dns_model.proofs.AboveLemmas.{above_alike, above_itself, above_is_shorter, above_nested, strictly_made, strictly_parts}
use Rattle.dns_model.specs.declared.answered.Answered.{Answered}
use Rattle.dns_model.specs.declared.answered.Answered.TheVariants.{No, Expanded}
use Rattle.dns_rules.specs.ListedTypes.{has_type, lacks_data, is_right_side, denies_at_owner, wildcard_lacks}
use Rattle.dns_rules.specs.Covering.{counts_for, nsec_covering, number_if_covered, covering_number}
use Rattle.dns_rules.specs.NsecVerdict.{can_deny, holds_query, code_nx_domain, code_no_error, is_plain, is_owned_by, closest_encloser, wildcard_denies, missing_name, proved_by_covering, proved_at_name, nsec_verdict}
use Rattle.dns_rules.specs.Zones.{Zone, has_set, is_delegation, exists_in, is_zone, encloser, has_data, from_wildcard, lookup, Referral, Data, NoData, NxDomain, IsTrueNsec}
use Rattle.dns_rules.specs.DenialInZones.{HasNone, IsAbsent, HasNoneCloser, IsDeniedIn, IsExpandedIn, IsOwnerless}
use Rattle.dns_rules.proofs.Members.{picked_known}
use Rattle.dns_rules.proofs.ZoneLemmas.{has_set_alike, is_owner_alike, spans_no_owner, next_is_owner}
use Rattle.dns_rules.proofs.EncloserLemmas.{exists_above, spanned_is_missing, no_wildcard, existing_encloses, encloser_inside, same_encloser}
use Rattle.dns_rules.proofs.ReachLemmas.{IsCovering, covered, IsReached, reached, covered_reach, owner_reach, no_data, no_set, no_delegation, lacking}

-- ---- the parts of a verdict

record IsProved (a b c d : Bool) : Type 0 where
  deny : a ≡ true
  holds : b ≡ true
  plain : c ≡ false
  proved : d ≡ true

abbrev mark_of : Bool → Bool → Bool → Bool → Proof
mark_of a b c d = cond (not a) Bogus (cond (not b) Bogus (cond c Bogus (cond d Secure Bogus)))

secure_parts : (a b c d : Bool) → mark_of a b c d ≡ Secure → IsProved a b c d
secure_parts true true false true h = record { deny = refl; holds = refl; plain = refl; proved = refl }
secure_parts true true false false h = cc
secure_parts true true true d h = cc
secure_parts true false c d h = cc
secure_parts false b c d h = cc

-- ---- the zone holds the query

held_by : (b : Bool) (one two name : Labels) → name_eq one two ≡ true → cond b (strictly_above two name) (at_or_above two name) ≡ true
    → cond b (strictly_above one name) (at_or_above one name) ≡ true
held_by false one two name same h = above_alike two one name (name_equiv.symm two one ∙ same) h
held_by true one two name same h =
    let parts = strictly_parts two name h in
    strictly_made one name (above_alike two one name (name_equiv.symm two one ∙ same) parts.0) (name_equiv.congr one two name same
    ∙ parts.1)

held : (zone : Zone) (apex : Labels) (query : Question) → name_eq zone.apex apex ≡ true → holds_query apex query ≡ true
    → holds_query zone.apex query ≡ true
held zone apex query same h = held_by (query.rtype == type_ds) zone.apex apex query.owner same h

inside_by : (b : Bool) (apex name : Labels) → cond b (strictly_above apex name) (at_or_above apex name) ≡ true
    → at_or_above apex name ≡ true
inside_by false apex name h = h
inside_by true apex name h = (strictly_parts apex name h).0

inside : (apex : Labels) (query : Question) → holds_query apex query ≡ true → at_or_above apex query.owner ≡ true
inside apex query h = inside_by (query.rtype == type_ds) apex query.owner h

-- ---- what the zone answers

there_without : (zone : Zone) (name : Labels) (rtype : ℕ) → IsReached zone name rtype → exists_in zone name ≡ true
    → has_data zone name rtype ≡ false
    → lookup zone name rtype ≡ NoData
there_without zone name rtype r there none =
    reached zone name rtype r
    ∙ ap (λ b. cond b (cond (has_data zone name rtype) Data NoData) (from_wildcard zone (star (encloser zone name)) rtype)) there
    ∙ ap (λ b. cond b Data NoData) none

-- a wildcard that answers nothing
record IsMute (zone : Zone) (wildcard : Labels) (rtype : ℕ) : Type 0 where
  delegation : is_delegation zone wildcard ≡ false
  data_none : has_data zone wildcard rtype ≡ false
  dname : has_set zone wildcard type_dname ≡ false

mute_either : (b : Bool) → (cond b NoData NxDomain ≡ NoData) ⊎ (cond b NoData NxDomain ≡ NxDomain)
mute_either true = inl refl
mute_either false = inr refl

mute_answer : (zone : Zone) (wildcard : Labels) (rtype : ℕ) → IsMute zone wildcard rtype
    → from_wildcard zone wildcard rtype ≡ cond (exists_in zone wildcard) NoData NxDomain
unfolding from_wildcard
mute_answer zone wildcard rtype m =
    let rest = cond (exists_in zone wildcard) NoData NxDomain in
    ap (λ b. cond b (Referral wildcard) (cond (has_data zone wildcard rtype || has_set zone wildcard type_dname) Data rest)) m.delegation
    ∙ ap (λ b. cond (b || has_set zone wildcard type_dname) Data rest) m.data_none
    ∙ ap (λ b. cond b Data rest) m.dname

missing_without : (zone : Zone) (name : Labels) (rtype : ℕ) (encloser_is : Labels) → IsReached zone name rtype → exists_in zone name ≡ false
    → encloser zone name ≡ encloser_is → IsMute zone (star encloser_is) rtype
    → (lookup zone name rtype ≡ NoData) ⊎ (lookup zone name rtype ≡ NxDomain)
missing_without zone name rtype e r gone same m =
    let is : lookup zone name rtype ≡ cond (exists_in zone (star e)) NoData NxDomain =
    reached zone name rtype r
    ∙ ap (λ b. cond b (cond (has_data zone name rtype) Data NoData) (from_wildcard zone (star (encloser zone name)) rtype)) gone
    ∙ ap (λ (n : Labels). from_wildcard zone (star n) rtype) same ∙ mute_answer zone (star e) rtype m in
    by (exists_in zone (star e)) is
  where
    by : (b : Bool) → lookup zone name rtype ≡ cond b NoData NxDomain
        → (lookup zone name rtype ≡ NoData) ⊎ (lookup zone name rtype ≡ NxDomain)
    by true is = inl is
    by false is = inr is

-- a wildcard that a record covers
mute_covered : (zone : Zone) (nsecs : List OwnedNsec) (wildcard : Labels) (rtype : ℕ) (found : Option OwnedNsec)
    → AllByRecursion (IsTrueNsec zone) nsecs
    → nsec_covering wildcard nsecs ≡ found → is_some found ≡ true → IsMute zone wildcard rtype
mute_covered zone nsecs wildcard rtype None each e h = absurd (true≢false (sym h))
mute_covered zone nsecs wildcard rtype (Some nsec) each e h =
    let c = covered zone wildcard nsecs nsec each e in
    let none = spans_no_owner zone nsec wildcard c.is_true c.spanned in
    record {
      delegation = no_delegation zone wildcard (no_set zone wildcard type_ns none);
      data_none = no_data zone wildcard rtype none;
      dname = no_set zone wildcard type_dname none;
    }

-- a wildcard whose record shows that it has nothing to answer with
mute_listed : (zone : Zone) (nsecs : List OwnedNsec) (wildcard : Labels) (rtype : ℕ) → AllByRecursion (IsTrueNsec zone) nsecs
    → wildcard_denies rtype wildcard nsecs ≡ true → IsMute zone wildcard rtype
mute_listed zone nsecs wildcard rtype each h =
    let k = picked_known (λ nsec. is_owned_by wildcard nsec && wildcard_lacks rtype nsec.fields.types) (IsTrueNsec zone) nsecs each h in
    by k.it k.known (and_parts (is_owned_by wildcard k.it) (wildcard_lacks rtype k.it.fields.types) k.passes)
  where
    by : (nsec : OwnedNsec) → IsTrueNsec zone nsec → (is_owned_by wildcard nsec ≡ true) × (wildcard_lacks rtype nsec.fields.types ≡ true)
        → IsMute zone wildcard rtype
    by nsec t parts =
        let lacks = and_parts (lacks_data rtype nsec.fields.types)
        (not (has_type type_ns nsec.fields.types || has_type type_dname nsec.fields.types)) parts.1 in
        let ends = or_parts (has_type type_ns nsec.fields.types) (has_type type_dname nsec.fields.types)
        (not-true (has_type type_ns nsec.fields.types || has_type type_dname nsec.fields.types) lacks.1) in
        let ns : has_set zone wildcard type_ns ≡ false = sym (has_set_alike zone nsec.owner wildcard type_ns parts.0)
        ∙ t.types type_ns ∙ ends.0 in
        record {
          delegation = no_delegation zone wildcard ns;
          data_none = lacking zone nsec wildcard rtype t parts.0 lacks.0;
          dname = sym (has_set_alike zone nsec.owner wildcard type_dname parts.0) ∙ t.types type_dname ∙ ends.1;
        }

-- ---- no data, or no such name

no_name_error : (code : ℕ) → (code == code_no_error) ≡ true → code ≡ code_nx_domain → ⊥
no_name_error code h e = true≢false (sym h ∙ ap (λ c. c == code_no_error) e)

denied_at : (zone : Zone) (apex : Labels) (query : Question) (code : ℕ) (nsec : OwnedNsec) → is_zone zone ≡ true
    → holds_query zone.apex query ≡ true
    → IsTrueNsec zone nsec → name_eq nsec.owner query.owner ≡ true
    → ((code == code_no_error) && denies_at_owner query.rtype nsec.fields.types) ≡ true → HasNone query code zone
denied_at zone apex query code nsec formed holds t same h =
    let parts = and_parts (code == code_no_error) (denies_at_owner query.rtype nsec.fields.types) h in
    let denies = and_parts (lacks_data query.rtype nsec.fields.types) (is_right_side query.rtype nsec.fields.types) parts.1 in
    let own = sym (is_owner_alike zone nsec.owner query.owner same) ∙ t.owner in
    let there = exists_above zone query.owner query.owner (inside zone.apex query holds) own (above_itself query.owner) in
    record {
      holds = holds;
      answer = inl (there_without zone query.owner query.rtype (owner_reach zone query nsec formed t same denies.1) there
          (lacking zone nsec query.owner query.rtype t same denies.0));
      name = λ e. absurd (no_name_error code parts.0 e);
    }

denied_above : (zone : Zone) (query : Question) (code : ℕ) (nsec : OwnedNsec) → is_zone zone ≡ true → holds_query zone.apex query ≡ true
    → IsCovering zone query.owner nsec → strictly_above query.owner nsec.fields.next ≡ true → (code == code_no_error) ≡ true
    → HasNone query code zone
denied_above zone query code nsec formed holds c above no_error =
    let there = exists_above zone query.owner nsec.fields.next (inside zone.apex query holds) (next_is_owner zone nsec formed c.is_true)
    (strictly_parts query.owner nsec.fields.next above).0 in
    record {
      holds = holds;
      answer = inl (there_without zone query.owner query.rtype (covered_reach zone query.owner query.rtype nsec formed c) there
          (no_data zone query.owner query.rtype (spans_no_owner zone nsec query.owner c.is_true c.spanned)));
      name = λ e. absurd (no_name_error code no_error e);
    }

denied_missing : (zone : Zone) (query : Question) (code : ℕ) (nsecs : List OwnedNsec) (nsec : OwnedNsec) → is_zone zone ≡ true
    → holds_query zone.apex query ≡ true → AllByRecursion (IsTrueNsec zone) nsecs → IsCovering zone query.owner nsec
    → strictly_above query.owner nsec.fields.next ≡ false
    → missing_name No code query.rtype (closest_encloser query.owner nsec) nsecs ≡ true
    → HasNone query code zone
denied_missing zone query code nsecs nsec formed holds each c leaf h =
    let e = closest_encloser query.owner nsec in
    let gone = spanned_is_missing zone nsec query.owner c.is_true c.spanned leaf in
    record {
      holds = holds;
      answer = missing_without zone query.owner query.rtype e (covered_reach zone query.owner query.rtype nsec formed c) gone
          (same_encloser zone nsec query.owner formed c.is_true (inside zone.apex query holds) c.spanned) (by (code == code_nx_domain) h);
      name = λ is. gone;
    }
  where
    by : (b : Bool) → cond b (is_some (nsec_covering (star (closest_encloser query.owner nsec)) nsecs))
        (wildcard_denies query.rtype (star (closest_encloser query.owner nsec)) nsecs) ≡ true
        → IsMute zone (star (closest_encloser query.owner nsec)) query.rtype
    by true h = mute_covered zone nsecs (star (closest_encloser query.owner nsec)) query.rtype
        (nsec_covering (star (closest_encloser query.owner nsec)) nsecs) each refl h
    by false h = mute_listed zone nsecs (star (closest_encloser query.owner nsec)) query.rtype each h

denied_by : (zone : Zone) (query : Question) (code : ℕ) (nsecs : List OwnedNsec) (found : Option OwnedNsec) → is_zone zone ≡ true
    → holds_query zone.apex query ≡ true → AllByRecursion (IsTrueNsec zone) nsecs → nsec_covering query.owner nsecs ≡ found
    → proved_by_covering query code No nsecs found ≡ true → HasNone query code zone
denied_by zone query code nsecs None formed holds each e h = absurd (true≢false (sym h))
denied_by zone query code nsecs (Some nsec) formed holds each e h =
    by (strictly_above query.owner nsec.fields.next) refl (covered zone query.owner nsecs nsec each e) h
  where
    by : (b : Bool) → strictly_above query.owner nsec.fields.next ≡ b → IsCovering zone query.owner nsec
        → cond b (code == code_no_error) (missing_name No code query.rtype (closest_encloser query.owner nsec) nsecs) ≡ true
        → HasNone query code zone
    by true above c h = denied_above zone query code nsec formed holds c above h
    by false leaf c h = denied_missing zone query code nsecs nsec formed holds each c leaf h

denied : (zone : Zone) (query : Question) (code : ℕ) (nsecs : List OwnedNsec) (found : Option OwnedNsec) → is_zone zone ≡ true
    → holds_query zone.apex query ≡ true → AllByRecursion (IsTrueNsec zone) nsecs → find (is_owned_by query.owner) nsecs ≡ found
    → proved_at_name query code No nsecs found ≡ true → HasNone query code zone
denied zone query code nsecs None formed holds each e h =
    denied_by zone query code nsecs (nsec_covering query.owner nsecs) formed holds each refl h
denied zone query code nsecs (Some nsec) formed holds each e h =
    let f = find_known (is_owned_by query.owner) (IsTrueNsec zone) nsecs nsec each e in
    denied_at zone zone.apex query code nsec formed holds f.known f.passes h

-- a Secure verdict on an answer without the name and type holds in each zone
pub denial_holds : (query : Question) (apex : Labels) (code : ℕ) (nsecs : List OwnedNsec) → nsec_verdict query apex code No nsecs ≡ Secure
    → IsDeniedIn query apex code nsecs
unfolding nsec_verdict
denial_holds query apex code nsecs h =
    let v = secure_parts (can_deny code) (holds_query apex query) (is_plain No)
    (proved_at_name query code No nsecs (find (is_owned_by query.owner) nsecs)) h in
    λ plain zone shown.
    denied zone query code nsecs (find (is_owned_by query.owner) nsecs) shown.formed (held zone apex query shown.apex_is v.holds)
    shown.each_true refl v.proved

-- ---- expansions

absent : (zone : Zone) (name : Labels) → at_or_above zone.apex name ≡ true → exists_in zone name ≡ false → IsAbsent zone name
absent zone name inside gone = record { missing = gone; wildcard = no_wildcard zone name inside gone }

none_closer : (zone : Zone) (name : Labels) (labels : ℕ) (nsec : OwnedNsec) → is_zone zone ≡ true → at_or_above zone.apex name ≡ true
    → IsCovering zone name nsec → strictly_above name nsec.fields.next ≡ false → (length (closest_encloser name nsec) == labels) ≡ true
    → HasNoneCloser name labels zone
none_closer zone name labels nsec formed within c leaf h =
    let long : length (closest_encloser name nsec) ≡ labels = grind (arith, nat_tests, h) in
    let short = above_is_shorter zone.apex (closest_encloser name nsec) (encloser_inside zone nsec name formed c.is_true within) in
    record {
      itself = absent zone name within (spanned_is_missing zone nsec name c.is_true c.spanned leaf);
      ancestors = λ ancestor above more.
          let fits : length zone.apex ≤ length ancestor = omega (arith, long, short, more) in
          absent zone ancestor (above_nested zone.apex ancestor name within above fits)
          (false_from_ne_true (exists_in zone ancestor) (λ there.
          let up = above_is_shorter ancestor (closest_encloser name nsec)
          (existing_encloses zone nsec name ancestor c.is_true c.spanned above there) in
          omega arith));
    }

expanded_by : (zone : Zone) (query : Question) (code labels : ℕ) (nsecs : List OwnedNsec) (found : Option OwnedNsec) → is_zone zone ≡ true
    → at_or_above zone.apex query.owner ≡ true → AllByRecursion (IsTrueNsec zone) nsecs → nsec_covering query.owner nsecs ≡ found
    → proved_by_covering query code (Expanded labels) nsecs found ≡ true
    → HasNoneCloser query.owner labels zone
expanded_by zone query code labels nsecs None formed within each e h = absurd (true≢false (sym h))
expanded_by zone query code labels nsecs (Some nsec) formed within each e h =
    by (strictly_above query.owner nsec.fields.next) refl (covered zone query.owner nsecs nsec each e) h
  where
    by : (b : Bool) → strictly_above query.owner nsec.fields.next ≡ b → IsCovering zone query.owner nsec
        → cond b false (missing_name (Expanded labels) code query.rtype (closest_encloser query.owner nsec) nsecs) ≡ true
        → HasNoneCloser query.owner labels zone
    by true above c h = absurd (true≢false (sym h))
    by false leaf c h =
        none_closer zone query.owner labels nsec formed within c leaf
        (and_parts (code == code_no_error) (length (closest_encloser query.owner nsec) == labels) h).1

expanded : (zone : Zone) (query : Question) (code labels : ℕ) (nsecs : List OwnedNsec) (found : Option OwnedNsec) → is_zone zone ≡ true
    → at_or_above zone.apex query.owner ≡ true → AllByRecursion (IsTrueNsec zone) nsecs
    → proved_at_name query code (Expanded labels) nsecs found ≡ true → HasNoneCloser query.owner labels zone
expanded zone query code labels nsecs None formed within each h =
    expanded_by zone query code labels nsecs (nsec_covering query.owner nsecs) formed within each refl h
expanded zone query code labels nsecs (Some nsec) formed within each h = absurd (true≢false (sym h))

-- a Secure verdict on an expanded answer holds in each zone
expansion_holds : (query : Question) (apex : Labels) (code labels : ℕ) (nsecs : List OwnedNsec)
    → nsec_verdict query apex code (Expanded labels) nsecs ≡ Secure
    → IsExpandedIn query apex labels nsecs
unfolding nsec_verdict
expansion_holds query apex code labels nsecs h =
    let v = secure_parts (can_deny code) (holds_query apex query) (is_plain (Expanded labels))
    (proved_at_name query code (Expanded labels) nsecs (find (is_owned_by query.owner) nsecs)) h in
    λ plain zone shown.
    expanded zone query code labels nsecs (find (is_owned_by query.owner) nsecs) shown.formed
    (inside zone.apex query (held zone apex query shown.apex_is v.holds)) shown.each_true v.proved

-- ---- the same of what a function answers

pub denial_of : (query : Question) (apex : Labels) (code : ℕ) (answered : Answered) (nsecs : List OwnedNsec) (proof : Proof)
    → proof ≡ nsec_verdict query apex code answered nsecs → proof ≡ Secure → answered ≡ No → IsDeniedIn query apex code nsecs
denial_of query apex code answered nsecs proof is secure unanswered =
    denial_holds query apex code nsecs (ap (λ a. nsec_verdict query apex code a nsecs) (sym unanswered) ∙ sym is ∙ secure)

pub expansion_of : (query : Question) (apex : Labels) (code : ℕ) (answered : Answered) (nsecs : List OwnedNsec) (proof : Proof) (labels : ℕ)
    → proof ≡ nsec_verdict query apex code answered nsecs → proof ≡ Secure → answered ≡ Expanded labels
    → IsExpandedIn query apex labels nsecs
expansion_of query apex code answered nsecs proof labels is secure expanded =
    expansion_holds query apex code labels nsecs (ap (λ a. nsec_verdict query apex code a nsecs) (sym expanded) ∙ sym is ∙ secure)

-- ---- covered names

-- a name that a record covers owns no RRset
covered_is_ownerless : (name : Labels) (nsecs : List OwnedNsec) (nsec : OwnedNsec) → nsec_covering name nsecs ≡ Some nsec
    → IsOwnerless name nsecs
covered_is_ownerless name nsecs nsec h =
    λ zone each. let c = covered zone name nsecs nsec each h in spans_no_owner zone nsec name c.is_true c.spanned

numbered_by : (name : Labels) (nsecs : List OwnedNsec) (number : ℕ) (found : Option OwnedNsec) (place : Option ℕ)
    → nsec_covering name nsecs ≡ found
    → number_if_covered place found ≡ Some number → IsOwnerless name nsecs
numbered_by name nsecs number None place e h = let none : None ≡ Some number = h in cc
numbered_by name nsecs number (Some nsec) place e h = covered_is_ownerless name nsecs nsec e

pub ownerless_of : (name : Labels) (nsecs : List OwnedNsec) (result : Option ℕ) (number : ℕ) → result ≡ covering_number name nsecs
    → result ≡ Some number
    → IsOwnerless name nsecs
unfolding covering_number
ownerless_of name nsecs result number is found =
    numbered_by name nsecs number (nsec_covering name nsecs) (position (counts_for name nsecs) nsecs) refl (sym is ∙ found)

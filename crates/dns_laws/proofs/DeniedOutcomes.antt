-- What an answer shows by the outcome that led to it: a Secure denial comes from a Secure verdict on the records of one signer.
use Rattle.std.proofs.Common.{◌≡◌, ◌⊎◌, inl, inr, ℕ, Bool, true, false, not, ◌&&◌, cond, List, [], ◌∷◌, Option, None, Some, if◌then◌else◌, refl, sym, ap, ◌∙◌, subst, true≢false}
use Rattle.std.specs.Option.{option_map, option_map_or, option_and_then}
use Rattle.std.specs.List.{filter, filter_map, cons_option, list_any, list_all, AllByRecursion}
use Rattle.std.proofs.lemmas.Bool.{and_parts, and_from, not-true, false_from_ne_true}
use Rattle.std.proofs.lemmas.Option.{same_Some}
use Rattle.dns_model.specs.declared.proof.Proof.{Proof}
use Rattle.dns_model.specs.declared.proof.Proof.TheVariants.{Secure, Insecure, Bogus, Indeterminate}
use Rattle.dns_model.specs.declared.denial.Denial.{Denial}
use Rattle.dns_model.specs.declared.denial.Denial.TheVariants as denied
use Rattle.dns_model.specs.Names.{Labels, name_eq}
use Rattle.dns_model.specs.Types.{type_nsec, type_nsec3}
use Rattle.dns_model.specs.Records.{Question}
use Rattle.dns_model.specs.RecordViews.{rrsig_of}
use Rattle.dns_model.specs.Owned.{OwnedNsec, OwnedNsec3}
use Rattle.dns_model.specs.SoundAnswers.{Told, is_secure}
use Rattle.dns_model.proofs.EachLemmas.{each_passes}
use Rattle.dns_model.proofs.SetLemmas.{name_refl}
use Rattle.dns_model.specs.declared.answered.Answered.{Answered}
use Rattle.dns_model.specs.declared.answered.Answered.TheVariants.{No, Plain, Expanded}
use Rattle.dns_model.proofs.TestLemmas.{if_some}
use Rattle.dns_rules.specs.Asking.{Limits}
use Rattle.dns_rules.specs.Denying.{is_denying, denying, denials, is_hash_denying, hash_denying, hashed_denials}
use Rattle.dns_rules.specs.NsecVerdict.{can_deny, holds_query, nsec_verdict}
use Rattle.dns_rules.specs.Nsec3Verdict.{is_of_zone, nsec3_verdict}
use Rattle.dns_rules.proofs.Members.{picked_known}
use Rattle.dns_rules.proofs.Promises.{denial_of, expansion_of}
use Rattle.dns_hashed_denial.proofs.HashedPromises.{denial_holds}
use Rattle.dns_hashed_denial.proofs.HashedExpansions.{expansion_holds}
use Rattle.dns_rules.specs.MarkedSets.{MarkedSet, placed_of}
use Rattle.dns_rules.specs.Outcome as outcome
use Rattle.dns_rules.specs.Outcome.{Outcome, outcome_of, outcome_by_denials, outcome_by_hashed_denials, has_answer, is_wildcard_signature, has_wildcard_signature, is_expanded_answer, is_expanded_for, decider_labels, least, answered, answered_from, signer_of, is_made_by, one_signer, secure_denial, is_insecure_authority, insecure_answer}
use Rattle.dns_laws.specs.Denials.{IsDenierAs, IsDeniedFor, IsExpandedFor, ShowsDenial}
use Rattle.dns_laws.specs.Denials as shown
use Rattle.dns_laws.proofs.GroundParts.{any_more}
use Rattle.dns_laws.proofs.TestLemmas.{passing, some_kept}
use Rattle.dns_laws.proofs.ToldSetLemmas.{IsTold, AreTold, expanded_parts, expanded_answers}

-- ---- how it is answered

-- the decider of an expanded set has a number of labels
record HasLabels (s : MarkedSet) : Type 0 where
  labels : ℕ
  is : decider_labels s ≡ Some labels

labels_of : (q : Question) (s : MarkedSet) → is_expanded_for q s ≡ true → HasLabels s
labels_of q s h =
    let wild = (expanded_parts q s h).wild in
    let read = passing _ (rrsig_of wild.value) wild.passes in
    record {
      labels = read.value.labels;
      is = ap (λ o. option_map (λ sig. sig.labels) (option_and_then rrsig_of o)) wild.found
          ∙ ap (option_map (λ sig. sig.labels)) read.found;
    }

pub record IsExpansion (how : Answered) : Type 0 where
  pub labels : ℕ
  pub is : how ≡ Expanded labels

least_is : (ns : List ℕ) (n : ℕ) (rest : List ℕ) → ns ≡ n ∷ rest → IsExpansion (answered_from (least ns))
unfolding least
least_is ns n rest is = subst (λ ms. IsExpansion (answered_from (least ms))) (sym is) (record { labels = _; is = refl })

-- with an expanded set it is an expansion
pub expanded_is : (q : Question) (told : Told) (sets : List MarkedSet) → AreTold told sets
    → list_any (is_expanded_for q) sets ≡ true
    → IsExpansion (answered q told sets)
unfolding answered
expanded_is q told sets each h =
    let p = picked_known (is_expanded_for q) (λ s. IsTold told (placed_of s)) sets each h in
    let kept = filter (is_expanded_for q) sets in
    let begins = some_kept (is_expanded_for q) (is_expanded_for q) sets (λ s k. k) h in
    let passes = subst (AllByRecursion (λ s. is_expanded_for q s ≡ true)) begins.is (each_passes (is_expanded_for q) sets) in
    let first = labels_of q begins.first passes.0 in
    let labels : filter_map decider_labels kept ≡ first.labels ∷ filter_map decider_labels begins.rest =
    ap (filter_map decider_labels) begins.is ∙ ap (λ o. cons_option o (filter_map decider_labels begins.rest)) first.is in
    let by = least_is (filter_map decider_labels kept) first.labels (filter_map decider_labels begins.rest) labels in
    record {
      labels = by.labels;
      is = ap (λ b. cond b (answered_from (least (filter_map decider_labels kept))) No)
          (expanded_answers q told p.it p.known p.passes).answer ∙ by.is;
    }

no_answer_step : (answer : Bool) (labels : Option ℕ) → cond answer (answered_from labels) No ≡ No → answer ≡ false
no_answer_step true None h = cc
no_answer_step true (Some n) h = cc
no_answer_step false labels h = refl

no_answer : (q : Question) (told : Told) (sets : List MarkedSet) → answered q told sets ≡ No → has_answer q told ≡ false
unfolding answered
no_answer q told sets h =
    no_answer_step (has_answer q told) (least (filter_map decider_labels (filter (is_expanded_for q) sets))) h

-- ---- the denying zone

held_step : (denies holds : Bool) (rest : Proof) → cond (not denies) Bogus (cond (not holds) Bogus rest) ≡ Secure
    → holds ≡ true
held_step true true rest h = refl
held_step true false rest h = cc
held_step false holds rest h = cc

-- a Secure verdict asks that the zone holds the query
verdict_holds : (q : Question) (apex : Labels) (code : ℕ) (how : Answered) (nsecs : List OwnedNsec)
    → nsec_verdict q apex code how nsecs ≡ Secure
    → holds_query apex q ≡ true
unfolding nsec_verdict
verdict_holds q apex code how nsecs h = held_step (can_deny code) (holds_query apex q) _ h

zone_step : (holds own : Bool) (rest : Proof) → cond (not holds) Bogus (cond (not own) Bogus rest) ≡ Secure
    → holds ≡ true
zone_step true own rest h = refl
zone_step false own rest h = cc

-- and so does one on NSEC3 records
hashed_holds : (q : Question) (apex : Labels) (code : ℕ) (how : Answered) (nsec3s : List OwnedNsec3) (soft hard : ℕ)
    → nsec3_verdict q apex code how nsec3s soft hard ≡ Secure → holds_query apex q ≡ true
unfolding nsec3_verdict
hashed_holds q apex code how nsec3s soft hard h = zone_step (holds_query apex q) (list_all (is_of_zone apex) nsec3s) _ h

made_step : (s : MarkedSet) (rest : List MarkedSet) (apex : Labels) (o : Option Labels) → signer_of s ≡ o
    → option_and_then (λ zone. if list_all (is_made_by zone) rest then Some zone else None) o ≡ Some apex
    → list_all (is_made_by apex) (s ∷ rest) ≡ true
made_step s rest apex None is h = cc
made_step s rest apex (Some zone) is h =
    let parts = if_some (list_all (is_made_by zone) rest) (Some zone) apex h in
    let same = same_Some zone apex parts.1 in
    and_from (is_made_by apex s) (list_all (is_made_by apex) rest)
    (ap (λ o. option_map_or (name_eq apex) o false) is ∙ ap (name_eq apex) same ∙ name_refl apex)
    (ap (λ z. list_all (is_made_by z) rest) (sym same) ∙ parts.0)

-- the one signer made each set
made_by_one : (sets : List MarkedSet) (apex : Labels) → one_signer sets ≡ Some apex
    → list_all (is_made_by apex) sets ≡ true
made_by_one [] apex h = cc
made_by_one (s ∷ rest) apex h = made_step s rest apex (signer_of s) refl h

-- ---- what is shown

abbrev pub is_secure_denial : Denial → Bool
is_secure_denial denied.None = false
is_secure_denial (denied.Absent proof) = is_secure proof
is_secure_denial (denied.Expanded proof) = is_secure proof

-- a denial that isn't Secure; where it says that there is no answer, there is none
pub record IsPlain (answer : Bool) (d : Denial) : Type 0 where
  pub plain : is_secure_denial d ≡ false
  pub unanswered : (mark : Proof) → d ≡ denied.Absent mark → answer ≡ false

none_is_plain : (answer : Bool) → IsPlain answer denied.None
none_is_plain answer = record { plain = refl; unanswered = λ mark e. cc }

-- an Insecure answer is such a denial
pub insecure_is_plain : (answer : Bool) → IsPlain answer (if answer then denied.None else denied.Absent Insecure)
insecure_is_plain true = none_is_plain true
insecure_is_plain false = record { plain = refl; unanswered = λ mark e. refl }

-- nothing of zones, where the denial isn't Secure and no set was expanded
nothing_shown : (q : Question) (told : Told) (sets : List MarkedSet) (d : Denial) → IsPlain (has_answer q told) d
    → list_any (is_expanded_for q) sets ≡ false → ShowsDenial q told sets d
nothing_shown q told sets d is none = record {
  unanswered = is.unanswered;
  absent = λ e. absurd (true≢false (sym (ap is_secure_denial e) ∙ is.plain));
  expanded = λ e. absurd (true≢false (sym (ap is_secure_denial e) ∙ is.plain));
  denied = λ e. absurd (true≢false (sym e ∙ none));
}

-- by a zone that denies an answer, or closer names, as it is answered
shown_by : (q : Question) (told : Told) (sets : List MarkedSet) (d : Denial) (apex : Labels) (how : Answered)
    → AreTold told sets
    → answered q told sets ≡ how → (how ≡ No → IsDeniedFor q told.code sets apex)
    → ((labels : ℕ) → how ≡ Expanded labels → IsExpandedFor q labels sets apex) → d ≡ secure_denial how
    → ShowsDenial q told sets d
shown_by q told sets d apex No each is denies expands ends = record {
  unanswered = λ mark e. no_answer q told sets is;
  absent = λ e. record { unanswered = no_answer q told sets is; apex = apex; denied = denies refl };
  expanded = λ e. let other : denied.Absent Secure ≡ denied.Expanded Secure = sym ends ∙ e in cc;
  denied = λ e. let i = expanded_is q told sets each e in let other : No ≡ Expanded i.labels = sym is ∙ i.is in cc;
}
shown_by q told sets d apex Plain each is denies expands ends = record {
  unanswered = λ mark e. let other : denied.None ≡ denied.Absent mark = sym ends ∙ e in cc;
  absent = λ e. let other : denied.None ≡ denied.Absent Secure = sym ends ∙ e in cc;
  expanded = λ e. let other : denied.None ≡ denied.Expanded Secure = sym ends ∙ e in cc;
  denied = λ e. let i = expanded_is q told sets each e in let other : Plain ≡ Expanded i.labels = sym is ∙ i.is in cc;
}
shown_by q told sets d apex (Expanded labels) each is denies expands ends = record {
  unanswered = λ mark e. let other : denied.Expanded Secure ≡ denied.Absent mark = sym ends ∙ e in cc;
  absent = λ e. let other : denied.Expanded Secure ≡ denied.Absent Secure = sym ends ∙ e in cc;
  expanded = λ e. record { labels = labels; expanded = is; apex = apex; denied = expands labels refl };
  denied = λ e. ends;
}

-- ---- the outcome behind an answer

-- the outcome is that the answer is given with this denial, or a search led to it, which shows no Secure denial
abbrev pub LeadsTo : Bool → Outcome → Denial → Type 0
LeadsTo answer o d = (o ≡ outcome.Given d) ⊎ ((o ≡ outcome.NeedsZone) × IsPlain answer d)

-- what no answer follows from
never_denied : (answer : Bool) (proof : Proof) (d : Denial) → LeadsTo answer (outcome.Denied proof) d → ⊥
never_denied answer proof d (inl e) = cc
never_denied answer proof d (inr e) = let other = e.0 in cc

given_is : (answer : Bool) (c d : Denial) → LeadsTo answer (outcome.Given c) d → d ≡ c
given_is answer c d (inl e) = cc
given_is answer c d (inr e) = let other = e.0 in cc

given_plain : (answer : Bool) (c d : Denial) → IsPlain answer c → LeadsTo answer (outcome.Given c) d → IsPlain answer d
given_plain answer c d plain h = subst (IsPlain answer) (sym (given_is answer c d h)) plain

search_is : (answer : Bool) (d : Denial) → LeadsTo answer outcome.NeedsZone d → IsPlain answer d
search_is answer d (inl e) = cc
search_is answer d (inr e) = e.1

-- the rows of the answer, of which the first decides
row : (G : Type 0) (insecure denying hashing expanded given answer : Bool) (x y z : Outcome) (d : Denial)
    → LeadsTo answer (if insecure then x
    else if denying && hashing then outcome.Denied Bogus
    else if hashing then y
    else if denying then z
    else if expanded then outcome.Denied Bogus
    else if given then outcome.Given denied.None
    else outcome.NeedsZone) d
    → (insecure ≡ true → LeadsTo answer x d → G) → (hashing ≡ true → LeadsTo answer y d → G)
    → (denying ≡ true → LeadsTo answer z d → G)
    → (expanded ≡ false → IsPlain answer d → G) → G
row G true n h e g a x y z d k insecure hashes verdict plain = insecure refl k
row G false true true e g a x y z d k insecure hashes verdict plain = absurd (never_denied a Bogus d k)
row G false false true e g a x y z d k insecure hashes verdict plain = hashes refl k
row G false true false e g a x y z d k insecure hashes verdict plain = verdict refl k
row G false false false true g a x y z d k insecure hashes verdict plain = absurd (never_denied a Bogus d k)
row G false false false false true a x y z d k insecure hashes verdict plain = plain refl (given_plain a denied.None d (none_is_plain a) k)
row G false false false false false a x y z d k insecure hashes verdict plain = plain refl (search_is a d k)

verdict_step : (answer : Bool) (how : Answered) (proof : Proof) (d : Denial)
    → LeadsTo answer (if is_secure proof then outcome.Given (secure_denial how) else outcome.Denied proof) d
    → (proof ≡ Secure) × (d ≡ secure_denial how)
verdict_step answer how Secure d h = (refl, given_is answer (secure_denial how) d h)
verdict_step answer how Insecure d h = absurd (never_denied answer Insecure d h)
verdict_step answer how Bogus d h = absurd (never_denied answer Bogus d h)
verdict_step answer how Indeterminate d h = absurd (never_denied answer Indeterminate d h)

-- by the NSEC records of the authority section
by_denials : (q : Question) (told : Told) (sets : List MarkedSet) (d : Denial) (signer : Option Labels)
    → AreTold told sets
    → list_any is_denying sets ≡ true → one_signer (denying sets) ≡ signer
    → LeadsTo (has_answer q told) (outcome_by_denials q told.code (answered q told sets) (denials sets) signer) d
    → ShowsDenial q told sets d
by_denials q told sets d None each some is h = absurd (never_denied (has_answer q told) Bogus d h)
by_denials q told sets d (Some apex) each some is h =
    let how = answered q told sets in
    let proof = nsec_verdict q apex told.code how (denials sets) in
    let parts = verdict_step (has_answer q told) how proof d h in
    let denier : IsDenierAs type_nsec q sets apex = record {
      some = some;
      made = made_by_one (denying sets) apex is;
      holds = verdict_holds q apex told.code how (denials sets) parts.0;
    } in
    shown_by q told sets d apex how each refl
    (λ none. shown.AbsentByNsec denier (denial_of q apex told.code how (denials sets) proof refl parts.0 none))
    (λ labels expanded. shown.ExpandedByNsec denier (expansion_of q apex told.code how (denials sets) proof labels refl parts.0 expanded))
    parts.1

-- by its NSEC3 records
by_hashes : (limits : Limits) (q : Question) (told : Told) (sets : List MarkedSet) (d : Denial)
    (signer : Option Labels) → AreTold told sets
    → list_any is_hash_denying sets ≡ true → one_signer (hash_denying sets) ≡ signer
    → LeadsTo (has_answer q told) (outcome_by_hashed_denials limits q told.code (answered q told sets) (hashed_denials sets) signer) d
    → ShowsDenial q told sets d
by_hashes limits q told sets d None each some is h = absurd (never_denied (has_answer q told) Bogus d h)
by_hashes limits q told sets d (Some apex) each some is h =
    let how = answered q told sets in
    let nsec3s = hashed_denials sets in
    let proof = λ (a : Answered). nsec3_verdict q apex told.code a nsec3s limits.soft limits.hard in
    let parts = verdict_step (has_answer q told) how (proof how) d h in
    let denier : IsDenierAs type_nsec3 q sets apex = record {
      some = some;
      made = made_by_one (hash_denying sets) apex is;
      holds = hashed_holds q apex told.code how nsec3s limits.soft limits.hard parts.0;
    } in
    shown_by q told sets d apex how each refl
    (λ none. shown.AbsentByNsec3 denier (denial_holds q apex told.code nsec3s limits.soft limits.hard (ap proof (sym none) ∙ parts.0)))
    (λ labels expanded.
    shown.ExpandedByNsec3 denier (expansion_holds q apex told.code labels nsec3s limits.soft limits.hard (ap proof (sym expanded)
    ∙ parts.0))) parts.1

unexpanded_for : (q : Question) (sets : List MarkedSet) → list_any is_expanded_answer sets ≡ false
    → list_any (is_expanded_for q) sets ≡ false
unexpanded_for q sets none =
    false_from_ne_true (list_any (is_expanded_for q) sets) (λ h. true≢false
    (sym (any_more (is_expanded_for q) is_expanded_answer (λ s k. (and_parts (is_expanded_answer s) _ k).0) sets h) ∙ none))

unexpanded_without : (q : Question) (told : Told) (sets : List MarkedSet) → AreTold told sets
    → not (has_wildcard_signature told) ≡ true
    → list_any (is_expanded_for q) sets ≡ false
unexpanded_without q told sets each none =
    false_from_ne_true (list_any (is_expanded_for q) sets) (λ h.
    let p = picked_known (is_expanded_for q) (λ s. IsTold told (placed_of s)) sets each h in
    true≢false (sym (expanded_answers q told p.it p.known p.passes).wild ∙ not-true (has_wildcard_signature told) none))

-- an answer shows what it denies
pub outcome_shows : (limits : Limits) (q : Question) (told : Told) (sets : List MarkedSet) (d : Denial)
    → AreTold told sets
    → LeadsTo (has_answer q told) (outcome_of limits q told sets) d → ShowsDenial q told sets d
unfolding outcome_of
outcome_shows limits q told sets d each h =
    let insecure = is_insecure_authority q told sets in
    let wild = has_wildcard_signature told in
    let answer = if has_answer q told then denied.None else denied.Absent Insecure in
    row (ShowsDenial q told sets d) (insecure && not wild) (list_any is_denying sets) (list_any is_hash_denying sets)
    (list_any is_expanded_answer sets)
    (has_answer q told && not wild) (has_answer q told) (insecure_answer q told)
    (outcome_by_hashed_denials limits q told.code (answered q told sets) (hashed_denials sets) (one_signer (hash_denying sets)))
    (outcome_by_denials q told.code (answered q told sets) (denials sets) (one_signer (denying sets))) d h
    (λ above k.
    nothing_shown q told sets d (given_plain (has_answer q told) answer d (insecure_is_plain (has_answer q told)) k)
    (unexpanded_without q told sets each ((and_parts insecure (not wild) above).1)))
    (λ some k. by_hashes limits q told sets d (one_signer (hash_denying sets)) each some refl k)
    (λ some k. by_denials q told sets d (one_signer (denying sets)) each some refl k)
    (λ none plain. nothing_shown q told sets d plain (unexpanded_for q sets none))

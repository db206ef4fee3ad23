-- A set that is served: its entry holds, and it stands.
use Rattle.std.proofs.Common.{◌≡◌, ◌==◌, ◌&&◌, Bool, true, false, not, List, [], Option, None, Some, if◌then◌else◌, refl, sym, subst, inl, inr}
use Rattle.std.proofs.lemmas.Bool.{and_from, and_parts}
use Rattle.dns_model.specs.declared.trail.MarkOrigin.{MarkOrigin}
use Rattle.dns_model.specs.declared.trail.MarkOrigin.TheVariants.{Cache}
use Rattle.dns_model.specs.Chains.{Judge, LinkValue}
use Rattle.dns_model.specs.Names.{name_eq}
use Rattle.dns_model.specs.Records.{Question}
use Rattle.dns_model.specs.SoundAnswers.{PlacedSet, is_secure, section_eq}
use Rattle.dns_model.proofs.SetLemmas.{name_refl, number_refl, section_refl}
use Rattle.dns_rules.specs.CacheEntries.{EntryValue, mark_of, sig_of}
use Rattle.dns_rules.specs.CacheKeys.{key_of, key_eq}
use Rattle.dns_rules.specs.ChainedSets.{proves_set, stands}
use Rattle.dns_rules.specs.Derivation.{StepContext, has_mark_of, is_by_origin, is_served_by, entry_holds}
use Rattle.dns_rules.specs.MarkedSets.{MarkedSet}
use Rattle.dns_rules.specs.Serving.{has_place, judged_as, links_of, may_serve, still_holds}
use Rattle.dns_rules.proofs.ExtendLemmas.{has_mark_from}
use Rattle.dns_cache.specs.declared.acceptance.Acceptance.{Acceptance}
use Rattle.dns_cache.specs.declared.acceptance.Acceptance.TheVariants.{Kept, Unknown, Other}
use Rattle.dns_flow.proofs.Led.{IsSetEnd}
use Rattle.dns_validation.specs.Machine.{MadeValue, holds_given, serving, origin_of, served_entry, served_set}
use Rattle.dns_validation.specs.Runs.{IsIn}
use Rattle.dns_validation.proofs.FoundLemmas.{any_in, each_in}
use Rattle.dns_validation.proofs.MadeLemmas.{IsMade, AreMade, IsOrigin, origin_is, by_repeat}

-- ---- what serves holds of its set

not_secure : (b x : Bool) → not b ≡ true → (if b then x else true) ≡ true
not_secure true x h = cc
not_secure false x h = refl

given_holds : (a : Acceptance) (j : Judge) (placed : PlacedSet) (e : EntryValue) → holds_given a j placed e ≡ true
    → still_holds j placed e ≡ true
given_holds Kept j placed e h = h
given_holds Unknown j placed e h = h
given_holds Other j placed e h = not_secure (is_secure (mark_of e.found)) _ h

serves_by : (j : Judge) (q : Question) (placed : PlacedSet) (given : EntryValue × Acceptance) (b : Bool) (e : EntryValue)
    → (key_eq (key_of q placed.set) given.0.key && holds_given given.1 j placed given.0) ≡ b
    → (if b then Some given.0 else None) ≡ Some e → may_serve j q placed e ≡ true
serves_by j q placed given true e test is =
    let same : given.0 ≡ e = cc in
    let parts = and_parts (key_eq (key_of q placed.set) given.0.key) (holds_given given.1 j placed given.0) test in
    subst (λ x. may_serve j q placed x ≡ true) same
    (and_from (key_eq (key_of q placed.set) given.0.key) (still_holds j placed given.0) parts.0
    (given_holds given.1 j placed given.0 parts.1))
serves_by j q placed given false e test is = cc

-- it was kept of the same set, and holds of it
pub may_serve_it : (j : Judge) (q : Question) (placed : PlacedSet) (given : Option (EntryValue × Acceptance))
    (e : EntryValue)
    → serving j q placed given ≡ Some e
    → may_serve j q placed e ≡ true
may_serve_it j q placed None e is = cc
may_serve_it j q placed (Some given) e is =
    serves_by j q placed given (key_eq (key_of q placed.set) given.0.key && holds_given given.1 j placed given.0) e refl is

pub serves : (j : Judge) (q : Question) (placed : PlacedSet) (given : Option (EntryValue × Acceptance)) (e : EntryValue)
    → serving j q placed given ≡ Some e
    → still_holds j placed e ≡ true
serves j q placed given e is =
    (and_parts (key_eq (key_of q placed.set) e.key) (still_holds j placed e) (may_serve_it j q placed given e is)).1

pub serves_key : (j : Judge) (q : Question) (placed : PlacedSet) (given : Option (EntryValue × Acceptance))
    (e : EntryValue)
    → serving j q placed given ≡ Some e
    → key_eq (key_of q placed.set) e.key ≡ true
serves_key j q placed given e is =
    (and_parts (key_eq (key_of q placed.set) e.key) (still_holds j placed e) (may_serve_it j q placed given e is)).0

-- ---- its entry

served_holds : (g : StepContext) (placed : PlacedSet) (e : EntryValue) (origin : MarkOrigin)
    → is_by_origin g placed (served_entry origin (served_set placed e)) origin ≡ true
    → entry_holds g placed (served_entry origin (served_set placed e)) ≡ true
unfolding entry_holds
served_holds g placed e origin by =
    let entry = served_entry origin (served_set placed e) in
    let owner = name_eq placed.set.owner entry.owner in
    let rtype = placed.set.rtype == entry.rtype in
    and_from (section_eq placed.section entry.section) (owner && (rtype && is_by_origin g placed entry origin))
    (section_refl placed.section)
    (and_from owner (rtype && is_by_origin g placed entry origin) (name_refl placed.set.owner)
    (and_from rtype (is_by_origin g placed entry origin) (number_refl placed.set.rtype) by))

-- the chain is that which was tested
chain_stands : (j : Judge) (judged : MarkedSet) (links : List LinkValue) (b : Bool)
    → (if b then proves_set j judged links else true) ≡ true
    → (if b then proves_set j judged (if b then links else []) else true) ≡ true
chain_stands j judged links true h = h
chain_stands j judged links false h = refl

-- it was tested beside the place
proves_alone : (b place proves : Bool) → (if b then place && proves else true) ≡ true
    → (if b then proves else true) ≡ true
proves_alone true true proves h = h
proves_alone true false proves h = cc
proves_alone false place proves h = refl

served_stands : (j : Judge) (placed : PlacedSet) (e : EntryValue) → still_holds j placed e ≡ true
    → stands j (served_set placed e) ≡ true
served_stands j placed e h =
    let judged = judged_as placed e.found in
    let links = links_of e.chain in
    let secure = is_secure (mark_of e.found) in
    chain_stands j judged links secure
    (proves_alone secure (has_place placed.set (sig_of e.found)) (proves_set j judged links) h)

served_end : (g : StepContext) (placed : PlacedSet) (e : EntryValue) (origin : MarkOrigin)
    → still_holds g.judge placed e ≡ true
    → is_by_origin g placed (served_entry origin (served_set placed e)) origin ≡ true
    → IsSetEnd g placed (served_set placed e) (served_entry origin (served_set placed e))
served_end g placed e origin holds by =
    record {
      holds =
          served_holds g placed e origin by;
      same = refl;
      stand = λ proper. served_stands g.judge placed e holds;
    }

-- ---- its origin

by_cache : (g : StepContext) (placed : PlacedSet) (e : EntryValue) → IsIn e g.cached
    → key_eq (key_of g.query placed.set) e.key ≡ true
    → still_holds g.judge placed e ≡ true
    → is_by_origin g placed (served_entry Cache (served_set placed e)) Cache ≡ true
by_cache g placed e among fits holds =
    let entry = served_entry Cache (served_set placed e) in
    any_in (is_served_by g.judge g.query placed entry) e g.cached among
    (and_from (may_serve g.judge g.query placed e) (has_mark_of (judged_as placed e.found) entry)
    (and_from (key_eq (key_of g.query placed.set) e.key) (still_holds g.judge placed e) fits holds)
    (has_mark_from (judged_as placed e.found) entry refl refl))

by_origin : (g : StepContext) (placed : PlacedSet) (made : List MadeValue) (e : EntryValue) (origin : MarkOrigin)
    → AreMade g.earlier made
    → IsOrigin made e origin → (origin ≡ Cache → IsIn e g.cached) → key_eq (key_of g.query placed.set) e.key ≡ true
    → still_holds g.judge placed e ≡ true
    → is_by_origin g placed (served_entry origin (served_set placed e)) origin ≡ true
by_origin g placed made e origin each (inl is) among fits holds =
    subst (λ o. is_by_origin g placed (served_entry o (served_set placed e)) o ≡ true) (sym is)
    (by_cache g placed e (among is) fits holds)
by_origin g placed made e origin each (inr b) among fits holds =
    subst (λ o. is_by_origin g placed (served_entry o (served_set placed e)) o ≡ true) (sym b.is)
    (by_repeat g placed e b.it (each_in (IsMade g.earlier) b.it made each b.among) b.key b.mark b.sig fits)

-- what was kept serves: of the step that found it, or as it was kept before
pub at_served : (g : StepContext) (placed : PlacedSet) (made : List MadeValue) (e : EntryValue) → AreMade g.earlier made
    → still_holds g.judge placed e ≡ true
    → key_eq (key_of g.query placed.set) e.key ≡ true → (origin_of made e ≡ Cache → IsIn e g.cached)
    → IsSetEnd g placed (served_set placed e) (served_entry (origin_of made e) (served_set placed e))
at_served g placed made e each holds fits among =
    served_end g placed e (origin_of made e) holds
    (by_origin g placed made e (origin_of made e) each (origin_is made e) among fits holds)

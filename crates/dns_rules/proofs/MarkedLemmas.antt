-- Marking gives each record of a set, and the signature that decided, the set's own mark, and keeps the rest.
use Rattle.std.proofs.Common.{◌≡◌, ℕ, Bool, true, false, not, ◌==◌, ◌&&◌, cond, List, [], ◌∷◌, map, Option, None, Some, refl, sym, ap, ◌∙◌, subst}
use Rattle.std.specs.Prelude.{if◌then◌else◌}
use Rattle.std.specs.Option.{option_map, option_and_then}
use Rattle.std.specs.List.{filter, find, AllByRecursion}
use Rattle.std.proofs.lemmas.Bool.{and_parts, and_from, false_from_ne_true}
use Rattle.dns_model.specs.declared.proof.Proof.{Proof}
use Rattle.dns_model.specs.declared.section.Section.{Section}
use Rattle.dns_model.specs.Names.{Labels, name_eq}
use Rattle.dns_model.specs.Types.{type_rrsig, type_dnskey}
use Rattle.dns_model.specs.Records.{Rr, RrSet, MessageValue}
use Rattle.dns_model.specs.Sections.{is_signature}
use Rattle.dns_model.specs.Chains.{LinkValue, Anchored, Matched, KeySet, Signed, Judge, last_link, link_is_for, same_rdatas, rdatas_of}
use Rattle.dns_model.specs.SoundAnswers.{Told, told_by, placed_sets, section_of, section_eq, is_secure, set_rtype, chain_is_of, link_is_of, deciding_link, ChainValue}
use Rattle.dns_model.specs.Views.{rrsig_in}
use Rattle.dns_model.proofs.NameLemmas.{name_equiv}
use Rattle.dns_model.proofs.EachLemmas.{each_more, each_both, each_filter, each_passes, each_unmap, find_agree_each, find-map, find-filter, Apart, apart_unmap}
use Rattle.dns_model.proofs.SetLemmas.{name_back, name_trans, name_left, number_refl, number_same, number_back, section_refl, section_same, section_back, is_of, IsProper, BeginsIn, IsSignedIn, same_key, same_place, placed_apart, proper_placed, begins_placed, signed_placed, KeepsKey}
use Rattle.dns_rules.specs.MarkedSets.{MarkedSet, placed_of, decider}
use Rattle.dns_rules.specs.Marking.{cleared, is_about, signature_place, adjusted_ttl, marked, marked_message, marked_told}
use Rattle.dns_rules.specs.ChainedSets.{ChainedSet, bare, stands, chain_value, chains_of}
use Rattle.dns_rules.specs.MarkParts.{is_place, adjusted_by, marked_by}
use Rattle.dns_rules.proofs.StandLemmas.{stands_parts}
use Rattle.dns_rules.proofs.ChainedLemmas.{AllStand, AreJudged}
use Rattle.dns_model.proofs.ViewSteps.{covered_rtype}

-- ---- what marking keeps

-- the parts of a record that marking keeps
record IsAlike (t r : Rr) : Type 0 where
  owner : r.owner ≡ t.owner
  rtype : r.rtype ≡ t.rtype
  class : r.class ≡ t.class
  rdata : r.rdata ≡ t.rdata

alike_step : (b : Bool) (r : Rr) (mark : Proof) (ttl : ℕ) → IsAlike r (if b then cleared r else record r { proof = mark; ttl = ttl })
alike_step true r mark ttl = record { owner = refl; rtype = refl; class = refl; rdata = refl }
alike_step false r mark ttl = record { owner = refl; rtype = refl; class = refl; rdata = refl }

alike_by : (now place : ℕ) (r : Rr) (o : Option MarkedSet) → IsAlike r (marked_by now place r o)
alike_by now place r None = record { owner = refl; rtype = refl; class = refl; rdata = refl }
alike_by now place r (Some s) = alike_step (is_signature r && not (is_place s.sig place)) r s.mark (adjusted_ttl now s r)

pub marked-keeps : (now : ℕ) (ss : List MarkedSet) (section : Section) (before : List Rr) → KeepsKey (marked now ss section before)
unfolding marked
marked-keeps now ss section before = record {
  owner = λ r. (alike_by now (signature_place before r) r (find (is_about section r) ss)).owner;
  rtype = λ r. (alike_by now (signature_place before r) r (find (is_about section r) ss)).rtype;
  class = λ r. (alike_by now (signature_place before r) r (find (is_about section r) ss)).class;
  rdata = λ r. (alike_by now (signature_place before r) r (find (is_about section r) ss)).rdata;
}

plain_step : (now m n : ℕ) (r : Rr) (o : Option MarkedSet) → is_signature r ≡ false → marked_by now m r o ≡ marked_by now n r o
plain_step now m n r None plain = refl
plain_step now m n r (Some s) plain =
    ap (λ b. cond (b && not (is_place s.sig m)) (cleared r) (record r { proof = s.mark; ttl = adjusted_ttl now s r })) plain
    ∙ sym (ap (λ b. cond (b && not (is_place s.sig n)) (cleared r) (record r { proof = s.mark; ttl = adjusted_ttl now s r })) plain)

-- what stands before matters to signatures alone
pub marked-plain : (now : ℕ) (ss : List MarkedSet) (section : Section) (before : List Rr) (r : Rr) → is_signature r ≡ false
    → marked now ss section before r ≡ marked now ss section [] r
unfolding marked
marked-plain now ss section before r plain =
    plain_step now (signature_place before r) (signature_place [] r) r (find (is_about section r) ss) plain

pub cleared-keeps : KeepsKey cleared
cleared-keeps = record { owner = λ r. refl; rtype = λ r. refl; class = λ r. refl; rdata = λ r. refl }

-- what a marked message tells
pub told_by-marked : (now : ℕ) (ss : List MarkedSet) (m : MessageValue) → told_by (marked_message now ss m) ≡ marked_told now ss (told_by m)
told_by-marked now ss m = refl

-- ---- the set that a record is about

pub record IsAbout (section : Section) (r : Rr) (s : MarkedSet) : Type 0 where
  pub section_is : s.section ≡ section
  pub owner : name_eq s.set.owner r.owner ≡ true
  pub rtype : s.set.rtype ≡ set_rtype r

pub about_parts : (section : Section) (r : Rr) (s : MarkedSet) → is_about section r s ≡ true → IsAbout section r s
about_parts section r s h =
    let one = and_parts (section_eq s.section section) (name_eq s.set.owner r.owner && (s.set.rtype == set_rtype r)) h in
    let two = and_parts (name_eq s.set.owner r.owner) (s.set.rtype == set_rtype r) one.1 in
    record { section_is = section_same s.section section one.0; owner = two.0; rtype = number_same s.set.rtype (set_rtype r) two.1 }

same_place_from : (section : Section) (r : Rr) (a b : MarkedSet) → IsAbout section r a → IsAbout section r b
    → same_place (placed_of a) (placed_of b) ≡ true
same_place_from section r a b p q =
    let sections : section_eq a.section b.section ≡ true = rw (p.section_is, q.section_is) (section_refl section) in
    let owners : name_eq a.set.owner b.set.owner ≡ true =
    name_trans a.set.owner r.owner b.set.owner p.owner (name_back b.set.owner r.owner q.owner) in
    let kinds : (a.set.rtype == b.set.rtype) ≡ true = rw (p.rtype, q.rtype) (number_refl (set_rtype r)) in
    and_from (section_eq a.section b.section) (same_key a.set b.set) sections
    (and_from (name_eq a.set.owner b.set.owner) (a.set.rtype == b.set.rtype) owners kinds)

not_about : (section : Section) (r : Rr) (a b : MarkedSet) → same_place (placed_of a) (placed_of b) ≡ false → is_about section r b ≡ true
    → is_about section r a ≡ false
not_about section r a b differ h =
    false_from_ne_true (is_about section r a) (λ k.
    let same = same_place_from section r a b (about_parts section r a k) (about_parts section r b h) in
    cc (differ, same))

-- a set is found by each record that is about it
pub record IsFoundBy (ss : List MarkedSet) (s : MarkedSet) : Type 0 where
  pub found : (section : Section) (r : Rr) → is_about section r s ≡ true → find (is_about section r) ss ≡ Some s

found_later : (a : MarkedSet) (ss : List MarkedSet) (s : MarkedSet) → (same_place (placed_of a) (placed_of s) ≡ false) × IsFoundBy ss s
    → IsFoundBy (a ∷ ss) s
found_later a ss s h = record {
  found = λ section r is. ap (λ b. cond b (Some a) (find (is_about section r) ss)) (not_about section r a s h.0 is)
      ∙ h.1.found section r is;
}

pub each_found : (ss : List MarkedSet) → Apart (λ a b. same_place (placed_of a) (placed_of b)) ss → AllByRecursion (IsFoundBy ss) ss
each_found [] apart = tt
each_found (a ∷ ss) apart =
    let Differs = λ (s : MarkedSet). same_place (placed_of a) (placed_of s) ≡ false in (
      record { found = λ section r is. ap (λ b. cond b (Some a) (find (is_about section r) ss)) is },
      each_more (λ s. Differs s × IsFoundBy ss s) (IsFoundBy (a ∷ ss)) (found_later a ss) ss
          (each_both Differs (IsFoundBy ss) ss apart.0 (each_found ss apart.1)),
    )

-- ---- what is known of each judged set of a message

pub record IsKnown (told : Told) (ss : List MarkedSet) (s : MarkedSet) : Type 0 where
  pub proper : IsProper s.set
  pub begins : BeginsIn (section_of told s.section) s.set
  pub signed : IsSignedIn (section_of told s.section) s.set
  pub found : IsFoundBy ss s

pub each_known : (told : Told) (ss : List MarkedSet) → map placed_of ss ≡ placed_sets told → AllByRecursion (IsKnown told ss) ss
each_known told ss grouped =
    let back = sym grouped in
    let Proper = λ (s : MarkedSet). IsProper s.set in
    let Begins = λ (s : MarkedSet). BeginsIn (section_of told s.section) s.set in
    let Signed = λ (s : MarkedSet). IsSignedIn (section_of told s.section) s.set in
    let proper : AllByRecursion Proper ss =
    each_unmap (λ p. IsProper p.set) placed_of ss (subst (λ ps. AllByRecursion (λ p. IsProper p.set) ps) back (proper_placed told)) in
    let begins : AllByRecursion Begins ss =
    each_unmap (λ p. BeginsIn (section_of told p.section) p.set) placed_of ss
    (subst (λ ps. AllByRecursion (λ p. BeginsIn (section_of told p.section) p.set) ps) back (begins_placed told)) in
    let signed : AllByRecursion Signed ss =
    each_unmap (λ p. IsSignedIn (section_of told p.section) p.set) placed_of ss
    (subst (λ ps. AllByRecursion (λ p. IsSignedIn (section_of told p.section) p.set) ps) back (signed_placed told)) in
    let apart : Apart (λ a b. same_place (placed_of a) (placed_of b)) ss =
    apart_unmap same_place placed_of ss (subst (λ ps. Apart same_place ps) back (placed_apart told)) in
    each_more (λ s. Proper s × (Begins s × (Signed s × IsFoundBy ss s))) (IsKnown told ss)
    (λ s h. record { proper = h.0; begins = h.1.0; signed = h.1.1.0; found = h.1.1.1 }) ss
    (each_both Proper (λ s. Begins s × (Signed s × IsFoundBy ss s)) ss proper
    (each_both Begins (λ s. Signed s × IsFoundBy ss s) ss begins (each_both Signed (IsFoundBy ss) ss signed (each_found ss apart))))

-- the same of a set with its chain, which stands
pub record IsKnownChain (j : Judge) (told : Told) (ss : List MarkedSet) (c : ChainedSet) : Type 0 where
  pub known : IsKnown told ss c.judged
  pub stand : stands j c ≡ true

pub each_chain_known : (j : Judge) (told : Told) (cs : List ChainedSet) → AreJudged j (placed_sets told) cs
    → AllByRecursion (IsKnownChain j told (bare cs)) cs
each_chain_known j told cs judged =
    let Known = λ (c : ChainedSet). IsKnown told (bare cs) c.judged in
    let Stands = λ (c : ChainedSet). stands j c ≡ true in
    each_more (λ c. Known c × Stands c) (IsKnownChain j told (bare cs)) (λ c h. record { known = h.0; stand = h.1 }) cs
    (each_both Known Stands cs (each_unmap (IsKnown told (bare cs)) (λ c. c.judged) cs (each_known told (bare cs) judged.grouped))
    judged.stand)

-- ---- the records of a set

-- the kind of a record that isn't a signature
pub plain_rtype : (r : Rr) → is_signature r ≡ false → set_rtype r ≡ r.rtype
plain_rtype r h = ap (λ b. cond b (covered_rtype (rrsig_in r.rdata) r.rtype) r.rtype) h

pub record IsOwn (set : RrSet) (r : Rr) : Type 0 where
  pub owner : name_eq set.owner r.owner ≡ true
  pub rtype : set.rtype ≡ r.rtype
  pub plain : is_signature r ≡ false

pub own_from : (set : RrSet) (r : Rr) → IsProper set → is_of set r ≡ true → IsOwn set r
own_from set r proper h =
    let parts = and_parts (name_eq set.owner r.owner) (set.rtype == r.rtype) h in
    let rtype = number_same set.rtype r.rtype parts.1 in
    record { owner = parts.0; rtype = rtype; plain = ap (λ n. n == type_rrsig) (sym rtype) ∙ proper.plain }

-- a set's own record is about it
pub own_about : (s : MarkedSet) (r : Rr) → IsOwn s.set r → is_about s.section r s ≡ true
own_about s r own =
    let rtype : (s.set.rtype == set_rtype r) ≡ true =
    ap (λ n. s.set.rtype == n) (plain_rtype r own.plain) ∙ ap (λ n. n == r.rtype) own.rtype ∙ number_refl r.rtype in
    and_from (section_eq s.section s.section) (name_eq s.set.owner r.owner && (s.set.rtype == set_rtype r)) (section_refl s.section)
    (and_from (name_eq s.set.owner r.owner) (s.set.rtype == set_rtype r) own.owner rtype)

-- a set's own record as it is marked
pub own_marked : (now : ℕ) (ss : List MarkedSet) (s : MarkedSet) (before : List Rr) (r : Rr) → IsFoundBy ss s → IsOwn s.set r
    → marked now ss s.section before r ≡ record r { proof = s.mark; ttl = adjusted_ttl now s r }
unfolding marked
own_marked now ss s before r found own =
    let place = signature_place before r in
    ap (marked_by now place r) (found.found s.section r (own_about s r own))
    ∙ ap (λ b. if b && not (is_place s.sig place) then cleared r else record r { proof = s.mark; ttl = adjusted_ttl now s r }) own.plain

-- ---- Secure records

-- a record that is marked Secure, with the set that it is about
pub record IsMadeSecure (now : ℕ) (ss : List MarkedSet) (section : Section) (before : List Rr) (r : Rr) : Type 0 where
  pub set : MarkedSet
  pub found : find (is_about section r) ss ≡ Some set
  pub secure : is_secure set.mark ≡ true
  pub decides : (is_signature r && not (is_place set.sig (signature_place before r))) ≡ false
  pub form : marked now ss section before r ≡ record r { proof = set.mark; ttl = adjusted_by now set r (decider set) }

record IsSecureForm (r : Rr) (b secure : Bool) (mark : Proof) (ttl : ℕ) : Type 0 where
  is_kept : b ≡ false
  is_secure_mark : secure ≡ true
  form : (if b then cleared r else record r { proof = mark; ttl = if secure then ttl else r.ttl }) ≡ record r { proof = mark; ttl = ttl }

secure_form : (r : Rr) (b secure : Bool) (mark : Proof) (ttl : ℕ) → is_secure mark ≡ secure
    → is_secure ((if b then cleared r else record r { proof = mark; ttl = if secure then ttl else r.ttl }).proof) ≡ true
    → IsSecureForm r b secure mark ttl
secure_form r true secure mark ttl is h = cc
secure_form r false true mark ttl is h = record { is_kept = refl; is_secure_mark = refl; form = refl }
secure_form r false false mark ttl is h = cc

made_by : (now : ℕ) (ss : List MarkedSet) (section : Section) (before : List Rr) (r : Rr) (o : Option MarkedSet)
    → find (is_about section r) ss ≡ o
    → marked now ss section before r ≡ marked_by now (signature_place before r) r o
    → is_secure ((marked_by now (signature_place before r) r o).proof) ≡ true → IsMadeSecure now ss section before r
made_by now ss section before r None is form h = cc
made_by now ss section before r (Some s) is form h =
    let f = secure_form r (is_signature r && not (is_place s.sig (signature_place before r))) (is_secure s.mark) s.mark
    (adjusted_by now s r (decider s)) refl h in
    record { set = s; found = is; secure = f.is_secure_mark; decides = f.is_kept; form = form ∙ f.form }

pub made_secure : (now : ℕ) (ss : List MarkedSet) (section : Section) (before : List Rr) (r : Rr)
    → is_secure ((marked now ss section before r).proof) ≡ true → IsMadeSecure now ss section before r
unfolding marked
made_secure now ss section before r h = made_by now ss section before r (find (is_about section r) ss) refl refl h

plain_form : (r : Rr) (b secure : Bool) (mark : Proof) (ttl : ℕ) → is_secure mark ≡ secure
    → is_secure ((if b then cleared r else record r { proof = mark; ttl = if secure then ttl else r.ttl }).proof) ≡ false
    → (if b then cleared r else record r { proof = mark; ttl = if secure then ttl else r.ttl }).ttl ≡ r.ttl
plain_form r true secure mark ttl is h = refl
plain_form r false true mark ttl is h = cc
plain_form r false false mark ttl is h = refl

plain_by : (now place : ℕ) (r : Rr) (o : Option MarkedSet) → is_secure ((marked_by now place r o).proof) ≡ false
    → (marked_by now place r o).ttl ≡ r.ttl
plain_by now place r None h = refl
plain_by now place r (Some s) h =
    plain_form r (is_signature r && not (is_place s.sig place)) (is_secure s.mark) s.mark (adjusted_by now s r (decider s)) refl h

-- the ttl of a record that isn't Secure stays
pub plain_ttl : (now : ℕ) (ss : List MarkedSet) (section : Section) (before : List Rr) (r : Rr)
    → is_secure ((marked now ss section before r).proof) ≡ false → (marked now ss section before r).ttl ≡ r.ttl
unfolding marked
plain_ttl now ss section before r h = plain_by now (signature_place before r) r (find (is_about section r) ss) h

-- ---- the chain of the set that a record is about

agrees : (set : RrSet) (o owner : Labels) (k rtype : ℕ) (rest : Bool) → ((set.rtype == k) && (name_eq set.owner o && rest)) ≡ true
    → (name_eq owner o && (rtype == k)) ≡ (name_eq set.owner owner && (set.rtype == rtype))
agrees set o owner k rtype rest h =
    let one = and_parts (set.rtype == k) (name_eq set.owner o && rest) h in
    let two = and_parts (name_eq set.owner o) rest one.1 in
    let names : name_eq owner o ≡ name_eq set.owner owner = name_equiv.symm owner o ∙ sym (name_left set.owner o owner two.0) in
    let kinds : (rtype == k) ≡ (set.rtype == rtype) = number_back rtype k ∙ ap (λ n. n == rtype) (sym (number_same set.rtype k one.0)) in
    ap (λ b. b && (rtype == k)) names ∙ ap (λ b. name_eq set.owner owner && b) kinds

-- a link for a set is of the names and types that the set is of
link_agrees : (set : RrSet) (link : Option LinkValue) (owner : Labels) (rtype : ℕ) → link_is_for set link ≡ true
    → link_is_of owner rtype link ≡ (name_eq set.owner owner && (set.rtype == rtype))
link_agrees set None owner rtype h = cc
link_agrees set (Some (Anchored o c key)) owner rtype h = cc
link_agrees set (Some (Matched o c key ds_link ds)) owner rtype h = cc
link_agrees set (Some (KeySet o c keys links)) owner rtype h =
    agrees set o owner type_dnskey rtype ((set.class == c) && same_rdatas (rdatas_of set.records) keys) h
link_agrees set (Some (Signed o c k rdatas sig key_link key)) owner rtype h =
    agrees set o owner k rtype ((set.class == c) && same_rdatas (rdatas_of set.records) rdatas) h

-- a Secure set's chain is of a record exactly where the set is
chain_agrees : (j : Judge) (section : Section) (r : Rr) (c : ChainedSet) → (is_secure c.judged.mark ≡ true) × (stands j c ≡ true)
    → chain_is_of section r.owner (set_rtype r) (chain_value c) ≡ is_about section r c.judged
chain_agrees j section r c h =
    let chain = stands_parts j c h.1 h.0 in
    ap (λ b. b && link_is_of r.owner (set_rtype r) (last_link c.chain)) (section_back section c.judged.section)
    ∙ ap (λ b. section_eq c.judged.section section && b) (link_agrees c.judged.set (last_link c.chain) r.owner (set_rtype r) chain.ends)

-- the deciding link of a record that is about a Secure set is the last of that set's chain
pub decided_link : (j : Judge) (cs : List ChainedSet) (section : Section) (r : Rr) (c : ChainedSet) → AllStand j cs
    → find (λ x. is_about section r x.judged) cs ≡ Some c → is_secure c.judged.mark ≡ true
    → deciding_link (chains_of cs) section r ≡ last_link c.chain
decided_link j cs section r c stand found secure =
    let about = λ (x : ChainedSet). is_about section r x.judged in
    let secures = λ (x : ChainedSet). is_secure x.judged.mark in
    let test = chain_is_of section r.owner (set_rtype r) in
    let Secures = λ (x : ChainedSet). secures x ≡ true in
    let Stands = λ (x : ChainedSet). stands j x ≡ true in
    let each : AllByRecursion (λ x. test (chain_value x) ≡ about x) (filter secures cs) =
    each_more (λ x. Secures x × Stands x) (λ x. test (chain_value x) ≡ about x) (chain_agrees j section r) (filter secures cs)
    (each_both Secures Stands (filter secures cs) (each_passes secures cs) (each_filter Stands secures cs stand)) in
    ap (option_and_then (λ (chain : ChainValue). last_link chain.links)) (find-map test chain_value (filter secures cs)
    ∙ ap (option_map chain_value) (find_agree_each (λ x. test (chain_value x)) about (filter secures cs) each
    ∙ find-filter about secures cs c found secure))

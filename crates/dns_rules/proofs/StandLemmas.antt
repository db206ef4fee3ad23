-- A set that the tables mark Secure stands: its chain is justified, ends at it, and names the signature that decided.
use Rattle.std.proofs.Common.{◌≡◌, ℕ, zero, suc, ◌-◌, ◌<◌, Bool, true, false, not, ◌==◌, ◌&&◌, List, [], ◌∷◌, ◌++◌, length, take, get_or, Option, None, Some, refl, sym, ap, ◌∙◌, subst, arith}
use Rattle.std.specs.Prelude.{nat_lt, if◌then◌else◌}
use Rattle.std.specs.Option.{option_map}
use Rattle.std.specs.List.{filter, find, position, count_by, slice_get, AllByRecursion}
use Rattle.std.proofs.lemmas.Bool.{and_parts, or_parts, not-false}
use Rattle.std.proofs.lemmas.List.Quantifiers.{position-Some}
use Rattle.dns_model.specs.declared.proof.Proof.{Proof}
use Rattle.dns_model.specs.declared.proof.Proof.TheVariants.{Secure, Insecure, Bogus, Indeterminate}
use Rattle.dns_model.specs.declared.section.Section.TheVariants.{Answer}
use Rattle.dns_model.specs.Names.{Labels, name_eq}
use Rattle.dns_model.specs.Types.{type_dnskey}
use Rattle.dns_model.specs.Views.{RrsigValue}
use Rattle.dns_model.specs.RecordViews.{rrsig_of}
use Rattle.dns_model.specs.Records.{Rr, RrSet, Question, question_eq}
use Rattle.dns_model.specs.Chains.{LinkValue, Signed, Judge, has_bytes, rdatas_of, signer_fits, never_expanded, right_below_signer, key_comes, shows_key, shows_member, justified, last_link, ends_at, link_is_for}
use Rattle.dns_model.specs.SoundAnswers.{PlacedSet, is_secure, section_eq}
use Rattle.dns_model.proofs.EachLemmas.{each_filter, find_known, find-map}
use Rattle.dns_model.proofs.SetLemmas.{IsProper}
use Rattle.dns_model.proofs.ChainLemmas.{last_link-append, slice_get-last, justified_extends, bytes_refl, each_member, member_shown, signed_is_for}
use Rattle.dns_rules.specs.Validity.{is_good_by}
use Rattle.dns_rules.specs.MarkedSets.{MarkedSet, decider}
use Rattle.dns_rules.specs.Marks.{is_skipped, key_question, counted_keys, is_key_of_zone, same_tag, is_key_set_of, Verdict, Proved, Failed, is_proved, shows_insecure, by_keys, verdict_of, mark_at, judged_by}
use Rattle.dns_rules.specs.Marks as marks
use Rattle.dns_rules.specs.ChainedSets.{ChainedSet, bare, names_decider, stands, signed_chain, chain_by_key, chain_by_set, chain_by_read, chain_by, ChainedVerdict, bare_verdicts, chain_if_proved, proved_chain, chained_by}
use Rattle.dns_rules.specs.MarkParts.{is_skipped_read, by_secure_key, by_insecure_key, by_key_set, verdict_by}
use Rattle.dns_rules.proofs.GoodLemmas.{Fits, signed_holds}
use Rattle.dns_rules.proofs.FirstLemmas.{early_after, first_two-after}

-- ---- a chain for a set

-- a justified chain that ends at a set and names a signature
pub record IsChainFor (j : Judge) (set : RrSet) (chain : List LinkValue) (signature : Option Rr) : Type 0 where
  pub held : justified j chain ≡ true
  pub ends : ends_at chain set ≡ true
  pub named : names_decider (last_link chain) signature ≡ true

stands_step : (secure held ends named : Bool) → (if secure then held && (ends && named) else true) ≡ true → secure ≡ true
    → (held ≡ true) × (ends ≡ true) × (named ≡ true)
stands_step true held ends named h s =
    let one = and_parts held (ends && named) h in
    let two = and_parts ends named one.1 in
    (one.0, two.0, two.1)
stands_step false held ends named h s = cc

pub stands_parts : (j : Judge) (c : ChainedSet) → stands j c ≡ true → is_secure c.judged.mark ≡ true
    → IsChainFor j c.judged.set c.chain (decider c.judged)
stands_parts j c h secure =
    let parts = stands_step (is_secure c.judged.mark) (justified j c.chain) (ends_at c.chain c.judged.set)
    (names_decider (last_link c.chain) (decider c.judged)) h secure in
    record { held = parts.0; ends = parts.1; named = parts.2 }

stands_back : (secure held ends named : Bool) → held ≡ true → ends ≡ true → named ≡ true
    → (if secure then held && (ends && named) else true) ≡ true
stands_back true held ends named p q r = rw (p, q, r) refl
stands_back false held ends named p q r = refl

pub stands_from : (j : Judge) (c : ChainedSet) → IsChainFor j c.judged.set c.chain (decider c.judged) → stands j c ≡ true
stands_from j c h =
    stands_back (is_secure c.judged.mark) (justified j c.chain) (ends_at c.chain c.judged.set)
    (names_decider (last_link c.chain) (decider c.judged))
    h.held h.ends h.named

-- ---- the verdict of one signature

-- what a proof by one signature was made of
pub record IsProof (j : Judge) (set : RrSet) (r : Rr) (answer : List ChainedSet) : Type 0 where
  pub sig : RrsigValue
  pub keys : ChainedSet
  pub key : Rr
  pub read : rrsig_of r ≡ Some sig
  pub unexpanded : never_expanded set.rtype sig.labels set.owner ≡ true
  pub below : right_below_signer set.rtype sig.signer set.owner ≡ true
  pub found : find (λ c. is_key_set_of set.class sig.signer c.judged) answer ≡ Some keys
  pub secure : is_secure keys.judged.mark ≡ true
  pub good : find (is_good_by j set r) (counted_keys sig.signer keys.judged.set.records) ≡ Some key
  pub chain_is : chain_by j set r (Some answer) ≡ signed_chain set r keys.chain key

record ByKey (o : Option Rr) : Type 0 where
  key : Rr
  is : o ≡ Some key

proved_by : (o : Option Rr) → by_secure_key o ≡ Proved → ByKey o
proved_by None h = cc
proved_by (Some key) h = record { key = key; is = refl }

excused_only : (keys : List Rr) → by_insecure_key keys ≡ Proved → ⊥
excused_only [] h = cc
excused_only (key ∷ keys) h = cc

record ByMark (j : Judge) (set : RrSet) (r : Rr) (mark : Proof) (keys : List Rr) : Type 0 where
  secure : is_secure mark ≡ true
  by : ByKey (find (is_good_by j set r) keys)

proved_mark : (j : Judge) (set : RrSet) (r : Rr) (mark : Proof) (keys : List Rr) → by_keys j set r mark keys ≡ Proved
    → ByMark j set r mark keys
proved_mark j set r Secure keys h = record { secure = refl; by = proved_by (find (is_good_by j set r) keys) h }
proved_mark j set r Insecure keys h = absurd (excused_only keys h)
proved_mark j set r Bogus keys h = cc
proved_mark j set r Indeterminate keys h = cc

record ByKeySet (j : Judge) (set : RrSet) (r : Rr) (signer : Labels) (o : Option ChainedSet) : Type 0 where
  keys : ChainedSet
  is : o ≡ Some keys
  by : ByMark j set r keys.judged.mark (counted_keys signer keys.judged.set.records)
  chain_is : chain_by_set j set r signer o ≡ signed_chain set r keys.chain by.by.key

proved_set : (j : Judge) (set : RrSet) (r : Rr) (signer : Labels) (o : Option ChainedSet)
    → by_key_set j set r signer (option_map (λ c. c.judged) o) ≡ Proved → ByKeySet j set r signer o
proved_set j set r signer None h = cc
proved_set j set r signer (Some keys) h =
    let by = proved_mark j set r keys.judged.mark (counted_keys signer keys.judged.set.records) h in
    record { keys = keys; is = refl; by = by; chain_is = ap (chain_by_key set r keys.chain) by.by.is }

whole_step : (whole : Bool) (v : Verdict) → (if whole then v else Failed) ≡ Proved → (whole ≡ true) × (v ≡ Proved)
whole_step true v h = (refl, h)
whole_step false v h = cc

proved_read : (j : Judge) (set : RrSet) (r : Rr) (answer : List ChainedSet) (o : Option RrsigValue) → rrsig_of r ≡ o
    → verdict_by j set r (bare answer) o ≡ Proved → IsProof j set r answer
proved_read j set r answer None is h = cc
proved_read j set r answer (Some sig) is h =
    let test = is_key_set_of set.class sig.signer in
    let found = find (λ c. test c.judged) answer in
    let unexpanded = never_expanded set.rtype sig.labels set.owner in
    let below = right_below_signer set.rtype sig.signer set.owner in
    let parts = whole_step (unexpanded && below) (by_key_set j set r sig.signer (find test (bare answer))) h in
    let both = and_parts unexpanded below parts.0 in
    let same : find test (bare answer) ≡ option_map (λ c. c.judged) found = find-map test (λ c. c.judged) answer in
    let by = proved_set j set r sig.signer found (ap (by_key_set j set r sig.signer) (sym same) ∙ parts.1) in
    record {
      sig = sig;
      keys = by.keys;
      key = by.by.by.key;
      read = is;
      unexpanded = both.0;
      below = both.1;
      found = by.is;
      secure = by.by.secure;
      good = by.by.by.is;
      chain_is = ap (chain_by_read j set r answer) is ∙ by.chain_is;
    }

pub proved_parts : (j : Judge) (set : RrSet) (r : Rr) (answer : List ChainedSet) → verdict_of j set r (Some (bare answer)) ≡ Proved
    → IsProof j set r answer
unfolding verdict_of
proved_parts j set r answer h = proved_read j set r answer (rrsig_of r) refl h

-- a signature that isn't skipped has a signer that fits
skipped_step : (set : RrSet) (asked : Question) (o : Option RrsigValue) (sig : RrsigValue) → o ≡ Some sig
    → is_skipped_read asked set o ≡ false
    → signer_fits set.rtype sig.signer set.owner ≡ true
skipped_step set asked None sig is h = cc
skipped_step set asked (Some text) sig is h =
    let same : text ≡ sig = cc in
    let parts = or_parts (not (signer_fits set.rtype text.signer set.owner)) (question_eq (key_question set.class text.signer) asked) h in
    ap (λ t. signer_fits set.rtype t.signer set.owner) (sym same) ∙ not-false (signer_fits set.rtype text.signer set.owner) parts.0

pub asked_fits : (set : RrSet) (asked : Question) (r : Rr) (sig : RrsigValue) → rrsig_of r ≡ Some sig → is_skipped asked set r ≡ false
    → signer_fits set.rtype sig.signer set.owner ≡ true
asked_fits set asked r sig is h = skipped_step set asked (rrsig_of r) sig is h

two_step : (P : Rr → Type 0) (b : Bool) (x : Rr) (xs : List Rr) → P x → AllByRecursion P xs → AllByRecursion P (if b then x ∷ xs else xs)
two_step P true x xs h k = (h, k)
two_step P false x xs h k = k

each_early : (P : Rr → Type 0) (met records : List Rr) → AllByRecursion P records → AllByRecursion P (early_after met records)
unfolding early_after
each_early P met [] h = tt
each_early P met (r ∷ rs) h =
    two_step P (nat_lt (count_by (same_tag r) met) 2) r (early_after (met ++ r ∷ []) rs) h.0 (each_early P (met ++ r ∷ []) rs h.1)

-- what is shown of each record is shown of each counted key
pub each_counted : (P : Rr → Type 0) (zone : Labels) (records : List Rr) → AllByRecursion P records
    → AllByRecursion P (counted_keys zone records)
each_counted P zone records h =
    rw (first_two-after (filter (is_key_of_zone zone) records))
    (each_early P [] (filter (is_key_of_zone zone) records) (each_filter P (is_key_of_zone zone) records h))

-- the parts of a test that a set is a signer's key set
record IsKeySetOf (class : ℕ) (signer : Labels) (s : MarkedSet) : Type 0 where
  owner : name_eq signer s.set.owner ≡ true
  rtype : (s.set.rtype == type_dnskey) ≡ true
  class_is : (class == s.set.class) ≡ true

key_set_parts : (class : ℕ) (signer : Labels) (s : MarkedSet) → is_key_set_of class signer s ≡ true → IsKeySetOf class signer s
key_set_parts class signer s h =
    let one = and_parts (section_eq Answer s.section) (name_eq signer s.set.owner
    && ((s.set.rtype == type_dnskey) && (class == s.set.class))) h in
    let two = and_parts (name_eq signer s.set.owner) ((s.set.rtype == type_dnskey) && (class == s.set.class)) one.1 in
    let three = and_parts (s.set.rtype == type_dnskey) (class == s.set.class) two.1 in
    record { owner = two.0; rtype = three.0; class_is = three.1 }

comes_step : (keys shown both : Bool) → keys ≡ false → shown ≡ true → (if keys then both else shown) ≡ true
comes_step keys shown both k s = rw (k, s) refl

-- a proof by one signature is a chain for its set
pub proof_is_chain : (j : Judge) (set : RrSet) (asked : Question) (r : Rr) (answer : List ChainedSet)
    → IsProper set → (set.rtype == type_dnskey) ≡ false → is_skipped asked set r ≡ false → AllByRecursion (λ c. stands j c ≡ true) answer
    → verdict_of j set r (Some (bare answer)) ≡ Proved → IsChainFor j set (chain_by j set r (Some answer)) (Some r)
proof_is_chain j set asked r answer proper other asked_for stand is =
    let p = proved_parts j set r answer is in
    let keys = p.keys.judged in
    let found = find_known (λ c. is_key_set_of set.class p.sig.signer c.judged) (λ c. stands j c ≡ true) answer p.keys stand p.found in
    let key_set = key_set_parts set.class p.sig.signer keys found.passes in
    let below = stands_parts j p.keys found.known p.secure in
    let rdatas = rdatas_of keys.set.records in
    let Member = λ (k : Rr). has_bytes rdatas k.rdata ≡ true in
    let key = find_known (is_good_by j set r) Member (counted_keys p.sig.signer keys.set.records) p.key
    (each_counted Member p.sig.signer keys.set.records (each_member keys.set.records)) p.good in
    let last = length p.keys.chain - 1 in
    let link = Signed set.owner set.class set.rtype (rdatas_of set.records) r.rdata last p.key.rdata in
    let shown : shows_member p.sig.signer set.class p.key.rdata (slice_get p.keys.chain last) ≡ true =
    ap (shows_member p.sig.signer set.class p.key.rdata) (slice_get-last p.keys.chain)
    ∙ member_shown keys.set (last_link p.keys.chain) p.sig.signer set.class p.key.rdata below.ends key_set.rtype key_set.owner
    key_set.class_is key.known in
    let comes : key_comes p.keys.chain set.owner set.class set.rtype (rdatas_of set.records) p.sig.signer last p.key.rdata ≡ true =
    comes_step (set.rtype == type_dnskey) (shows_member p.sig.signer set.class p.key.rdata (slice_get p.keys.chain last))
    (name_eq set.owner p.sig.signer
    && (has_bytes (rdatas_of set.records) p.key.rdata && shows_key set.owner set.class p.key.rdata (slice_get p.keys.chain last)))
    other shown in
    let fits : Fits p.keys.chain set p.sig last p.key.rdata =
    record { unexpanded = p.unexpanded; below = p.below; signer = asked_fits set asked r p.sig p.read asked_for; comes = comes } in
    let holds = signed_holds j p.keys.chain set r p.key p.sig last proper p.read key.passes fits in
    let ended = last_link-append p.keys.chain link in
    record {
      held = ap (justified j) p.chain_is ∙ justified_extends j p.keys.chain link below.held holds;
      ends = ap (λ c. ends_at c set) p.chain_is ∙ ap (link_is_for set) ended ∙ signed_is_for set r.rdata last p.key.rdata;
      named = ap (λ c. names_decider (last_link c) (Some r)) p.chain_is ∙ ap (λ l. names_decider l (Some r)) ended ∙ bytes_refl r.rdata;
    }

-- ---- a set by the verdicts of its signatures

-- where a verdict proves its set, its chain is for the set
pub record IsGoodVerdict (j : Judge) (set : RrSet) (r : Rr) (v : ChainedVerdict) : Type 0 where
  pub chain : is_proved v.verdict ≡ true → IsChainFor j set v.chain (Some r)

-- each verdict that was found is good for its signature
abbrev pub AreGood : Judge → RrSet → List Rr → List ChainedVerdict → Type 0
AreGood j set rs [] = Unit {0}
AreGood j set [] (v ∷ vs) = ⊥
AreGood j set (r ∷ rs) (v ∷ vs) = IsGoodVerdict j set r v × AreGood j set rs vs

-- the signature whose verdict decided, and its chain
pub record IsDecided (j : Judge) (set : RrSet) (rs : List Rr) (vs : List ChainedVerdict) (n : ℕ) : Type 0 where
  pub signature : Rr
  pub at : slice_get rs n ≡ Some signature
  pub by : IsChainFor j set (proved_chain vs) (Some signature)

chain_here : (v : Verdict) (chain others : List LinkValue) → is_proved v ≡ true → chain_if_proved v chain others ≡ chain
chain_here Proved chain others h = refl
chain_here marks.Insecure chain others h = cc
chain_here Failed chain others h = cc

chain_later : (v : Verdict) (chain others : List LinkValue) → is_proved v ≡ false → chain_if_proved v chain others ≡ others
chain_later Proved chain others h = cc
chain_later marks.Insecure chain others h = refl
chain_later Failed chain others h = refl

decided : (j : Judge) (set : RrSet) (rs : List Rr) (vs : List ChainedVerdict) (n : ℕ) → AreGood j set rs vs → n < length (bare_verdicts vs)
    → is_proved (get_or (bare_verdicts vs) n Failed) ≡ true → ((k : ℕ) → k < n → is_proved (get_or (bare_verdicts vs) k Failed) ≡ false)
    → IsDecided j set rs vs n
decided j set rs [] n good within passes none = absurd (omega arith)
decided j set [] (v ∷ vs) n good within passes none = elim good [ ]
decided j set (r ∷ rs) (v ∷ vs) zero good within passes none =
    let P = λ (chain : List LinkValue). IsChainFor j set chain (Some r) in
    record { signature = r; at = refl; by = subst P (sym (chain_here v.verdict v.chain (proved_chain vs) passes)) (good.0.chain passes) }
decided j set (r ∷ rs) (v ∷ vs) (suc n) good within passes none =
    let d = decided j set rs vs n good.1 (omega arith) passes (λ k lt. none (suc k) (omega arith)) in
    let P = λ (chain : List LinkValue). IsChainFor j set chain (Some d.signature) in
    let first : is_proved v.verdict ≡ false = none 0 (omega arith) in
    record { signature = d.signature; at = d.at; by = subst P (sym (chain_later v.verdict v.chain (proved_chain vs) first)) d.by }

pub slice_get-take : (n : ℕ) (xs : List Rr) (k : ℕ) (x : Rr) → slice_get (take n xs) k ≡ Some x → slice_get xs k ≡ Some x
slice_get-take zero xs k x h = cc
slice_get-take (suc n) [] k x h = h
slice_get-take (suc n) (y ∷ ys) zero x h = h
slice_get-take (suc n) (y ∷ ys) (suc k) x h = slice_get-take n ys k x h

abbrev chained_at : PlacedSet → Option ℕ → Option ℕ → List LinkValue → ChainedSet
chained_at placed o e chain = record {
  judged = record { section = placed.section; set = placed.set; mark = (mark_at o e).mark; sig = (mark_at o e).sig };
  chain = chain;
}

marked_stands : (j : Judge) (placed : PlacedSet) (chain : List LinkValue) (o e : Option ℕ)
    → ((n : ℕ) → o ≡ Some n → IsChainFor j placed.set chain (slice_get placed.set.signatures n))
    → stands j (chained_at placed o e chain) ≡ true
marked_stands j placed chain (Some n) e h = stands_from j (chained_at placed (Some n) e chain) (h n refl)
marked_stands j placed chain None (Some n) h = refl
marked_stands j placed chain None None h = refl

-- a set that is judged by good verdicts of its first signatures stands
pub chained_by-stands : (j : Judge) (placed : PlacedSet) (n : ℕ) (vs : List ChainedVerdict)
    → AreGood j placed.set (take n placed.set.signatures) vs
    → stands j (chained_by placed vs) ≡ true
unfolding judged_by
chained_by-stands j placed n [] good = refl
chained_by-stands j placed n (v ∷ vs) good =
    let verdicts = bare_verdicts (v ∷ vs) in
    marked_stands j placed (proved_chain (v ∷ vs)) (position is_proved verdicts) (position shows_insecure verdicts) (λ k is.
    let p = position-Some is_proved verdicts k Failed is in
    let d = decided j placed.set (take n placed.set.signatures) (v ∷ vs) k good p.0 p.1 p.2 in
    let at : slice_get placed.set.signatures k ≡ Some d.signature = slice_get-take n placed.set.signatures k d.signature d.at in
    rw at d.by)

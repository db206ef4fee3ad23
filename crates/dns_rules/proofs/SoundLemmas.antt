-- An answer that is marked by judged sets is sound where the sets stand.
use Rattle.std.proofs.Common.{◌≡◌, ℕ, min, Bool, true, false, not, ◌==◌, ◌&&◌, cond, List, [], ◌∷◌, ◌++◌, map, Option, None, Some, refl, sym, ap, ◌∙◌, subst}
use Rattle.std.specs.Option.{option_map}
use Rattle.std.specs.List.{filter, find, AllByRecursion}
use Rattle.std.proofs.lemmas.List.{map-append}
use Rattle.dns_model.specs.declared.proof.Proof.{Proof}
use Rattle.dns_model.specs.declared.section.Section.{Section}
use Rattle.dns_model.specs.declared.section.Section.TheVariants.{Answer, Authority, Additional}
use Rattle.dns_model.specs.declared.denial.Denial.{Denial}
use Rattle.dns_model.specs.Names.{Labels, name_eq}
use Rattle.dns_model.specs.Views.{rrsig_in}
use Rattle.dns_model.specs.Records.{Rr, RrSet, MessageValue}
use Rattle.dns_model.specs.RecordViews.{rrsig_of}
use Rattle.dns_model.specs.Sections.{is_signature, sets_of}
use Rattle.dns_model.specs.Chains.{LinkValue, Anchored, Matched, KeySet, Signed, Judge, last_link, is_nonempty, rdatas_of, link_is_for}
use Rattle.dns_model.specs.Trails.{AskedValue}
use Rattle.dns_model.specs.SoundAnswers.{Told, told_by, PlacedSet, in_section, placed_sets, section_of, is_secure, set_rtype, first_mark, is_secure_set, HasOneMark, HaveOneMark, secure_sets, IsChainOf, ChainValue, deciding_link, ttl_of, first_ttl, signed_ttl, IsSecureTtl, IsRecordKept, Sound}
use Rattle.dns_model.proofs.EachLemmas.{each_more, each_map, each_unmap, find_agree, find-map, find_known, filter-map, map-map}
use Rattle.dns_model.proofs.SetLemmas.{name_left, is_of, head_of, BeginsIn, IsSignedIn, KeepsKey, on_set, sets_of-map, rdatas_of-map, placed_each}
use Rattle.dns_model.proofs.ChainLemmas.{bytes_same}
use Rattle.dns_rules.specs.MarkedSets.{MarkedSet, placed_of, decider}
use Rattle.dns_rules.specs.Marking.{cleared, cleared_message, is_about, signature_place, adjusted_ttl, marked, marked_section, marked_message}
use Rattle.dns_rules.specs.ChainedSets.{ChainedSet, bare, names_decider, chain_value, chains_of, finished}
use Rattle.dns_rules.specs.MarkParts.{is_place, first_record, adjusted_by}
use Rattle.dns_rules.proofs.StandLemmas.{stands_parts}
use Rattle.dns_rules.proofs.ChainedLemmas.{AllStand, AreJudged}
use Rattle.dns_rules.proofs.MarkedLemmas.{marked-keeps, marked-plain, about_parts, IsKnown, each_known, IsKnownChain, each_chain_known, own_from, own_marked, made_secure, plain_ttl, decided_link}
use Rattle.dns_rules.proofs.DeciderLemmas.{decider_is, decider_signs}
use Rattle.dns_rules.proofs.OneDeciderLemmas.{one_decider}
use Rattle.dns_rules.proofs.AfterLemmas.{IsPlainChange, unsigned, unsigned_sets, kept_after}
use Rattle.dns_model.specs.Paired.{ArePaired}

-- ---- the first record of a set

first_is_head : (records : List Rr) → first_record records ≡ head_of records
first_is_head [] = refl
first_is_head (r ∷ rs) = refl

test_agrees : (set : RrSet) (owner : Labels) (rtype : ℕ) → name_eq set.owner owner ≡ true → set.rtype ≡ rtype → (r : Rr)
    → is_of set r ≡ (name_eq owner r.owner && (rtype == r.rtype))
test_agrees set owner rtype named rtype_is r =
    ap (λ b. b && (set.rtype == r.rtype)) (name_left set.owner owner r.owner named)
    ∙ ap (λ k. name_eq owner r.owner && (k == r.rtype)) rtype_is

first_is : (set : RrSet) (section : List Rr) (owner : Labels) (rtype : ℕ) → BeginsIn section set → name_eq set.owner owner ≡ true
    → set.rtype ≡ rtype
    → ttl_of (first_record set.records) ≡ first_ttl section owner rtype
first_is set section owner rtype begins named rtype_is =
    ap ttl_of (first_is_head set.records ∙ begins.head
    ∙ find_agree (is_of set) (λ r. name_eq owner r.owner && (rtype == r.rtype)) (test_agrees set owner rtype named rtype_is) section)

ttl_of-cleared : (o : Option Rr) → ttl_of (option_map cleared o) ≡ ttl_of o
ttl_of-cleared None = refl
ttl_of-cleared (Some r) = refl

first_ttl-cleared : (section : List Rr) (owner : Labels) (rtype : ℕ)
    → first_ttl (map cleared section) owner rtype ≡ first_ttl section owner rtype
first_ttl-cleared section owner rtype =
    let test = λ (r : Rr). name_eq owner r.owner && (rtype == r.rtype) in
    ap ttl_of (find-map test cleared section) ∙ ttl_of-cleared (find test section)

section_of-cleared : (m : MessageValue) (section : Section)
    → section_of (told_by (cleared_message m)) section ≡ map cleared (section_of (told_by m) section)
section_of-cleared m Answer = refl
section_of-cleared m Authority = refl
section_of-cleared m Additional = refl

-- ---- the ttl of Secure records

-- under a key set no signature decided
none_decides : (r : Rr) (b : Bool) → (b ≡ true → None ≡ Some r) → b ≡ false
none_decides r true h = cc (h refl)
none_decides r false h = refl

-- what a signature says as an RRSIG is what its rdata says
rrsig_read : (d : Rr) → is_signature d ≡ true → rrsig_of d ≡ rrsig_in d.rdata
rrsig_read d is = ap (λ b. cond b (rrsig_in d.rdata) None) is

-- a Secure signature is the one that the link names
signature_is : (r d : Rr) (sig : List ℕ) → names_decider (Some (Signed r.owner 0 0 [] sig 0 [])) (Some d) ≡ true
    → Some d ≡ Some r → r.rdata ≡ sig
signature_is r d sig named decides =
    let same : d ≡ r = cc in
    ap (λ x. x.rdata) (sym same) ∙ sym (bytes_same sig d.rdata named)

secure_by_link : (now : ℕ) (section : List Rr) (t r : Rr) (mark : Proof) (s : MarkedSet) (link : Option LinkValue) (d : Option Rr)
    → names_decider link d ≡ true
    → ((x : Rr) → d ≡ Some x → is_signature x ≡ true) → (is_signature r ≡ true → d ≡ Some r) → r.ttl ≡ t.ttl
    → ttl_of (first_record s.set.records) ≡ first_ttl section r.owner (set_rtype r)
    → IsSecureTtl now section t (record r { proof = mark; ttl = adjusted_by now s r d }) link
secure_by_link now section t r mark s None d named signs decides kept first = cc
secure_by_link now section t r mark s (Some (Anchored owner class key)) d named signs decides kept first = cc
secure_by_link now section t r mark s (Some (Matched owner class key ds_link ds)) d named signs decides kept first = cc
secure_by_link now section t r mark s (Some (KeySet owner class keys links)) None named signs decides kept first =
    (none_decides r (is_signature r) decides, kept)
secure_by_link now section t r mark s (Some (KeySet owner class keys links)) (Some d) named signs decides kept first = cc
secure_by_link now section t r mark s (Some (Signed owner class rtype rdatas sig key_link key)) None named signs decides kept first = cc
secure_by_link now section t r mark s (Some (Signed owner class rtype rdatas sig key_link key)) (Some d) named signs decides kept first = (
  λ is. signature_is r d sig named (decides is),
  ap (λ n. min n (signed_ttl (rrsig_of d) now)) first
      ∙ ap (λ o. min (first_ttl section r.owner (set_rtype r)) (signed_ttl o now)) (rrsig_read d (signs d refl))
      ∙ ap (λ bytes. min (first_ttl section r.owner (set_rtype r)) (signed_ttl (rrsig_in bytes) now)) (sym (bytes_same sig d.rdata named)),
)

-- ---- the records that were told

-- a judged set that was found, with its chain
record IsFoundChain (p : MarkedSet → Bool) (cs : List ChainedSet) (s : MarkedSet) : Type 0 where
  chained : ChainedSet
  found : find (λ c. p c.judged) cs ≡ Some chained
  is : chained.judged ≡ s

chain_step_found : (p : MarkedSet → Bool) (cs : List ChainedSet) (s : MarkedSet) (o : Option ChainedSet) → find (λ c. p c.judged) cs ≡ o
    → option_map (λ c. c.judged) o ≡ Some s → IsFoundChain p cs s
chain_step_found p cs s None found is = cc
chain_step_found p cs s (Some c) found is = record { chained = c; found = found; is = cc }

found_chain : (p : MarkedSet → Bool) (cs : List ChainedSet) (s : MarkedSet) → find p (bare cs) ≡ Some s → IsFoundChain p cs s
found_chain p cs s h = chain_step_found p cs s (find (λ c. p c.judged) cs) refl (sym (find-map p (λ c. c.judged) cs) ∙ h)

-- a record that is marked Secure, with the set and the chain that it is about
record IsChainedSecure (now : ℕ) (cs : List ChainedSet) (section : Section) (before : List Rr) (r : Rr) : Type 0 where
  set : ChainedSet
  found : find (λ c. is_about section r c.judged) cs ≡ Some set
  secure : is_secure set.judged.mark ≡ true
  decides : (is_signature r && not (is_place set.judged.sig (signature_place before r))) ≡ false
  form : marked now (bare cs) section before r ≡ record r {
    proof = set.judged.mark;
    ttl = adjusted_by now set.judged r (decider set.judged);
  }

chained_secure : (now : ℕ) (cs : List ChainedSet) (section : Section) (before : List Rr) (r : Rr)
    → is_secure ((marked now (bare cs) section before r).proof) ≡ true → IsChainedSecure now cs section before r
chained_secure now cs section before r h =
    let made = made_secure now (bare cs) section before r h in
    let f = found_chain (is_about section r) cs made.set made.found in
    let back = sym f.is in
    record {
      set = f.chained;
      found = f.found;
      secure = ap (λ s. is_secure s.mark) f.is ∙ made.secure;
      decides = ap (λ s. is_signature r && not (is_place s.sig (signature_place before r))) f.is ∙ made.decides;
      form = made.form ∙ ap (λ s. record r { proof = s.mark; ttl = adjusted_by now s r (decider s) }) back;
    }

kept_one : (j : Judge) (now : ℕ) (m : MessageValue) (cs : List ChainedSet) (section : Section)
    → AreJudged j (placed_sets (told_by (cleared_message m))) cs → (before rest : List Rr) (t : Rr)
    → before ++ cleared t ∷ rest ≡ map cleared (section_of (told_by m) section)
    → IsRecordKept now (chains_of cs) section (section_of (told_by m) section) t (marked now (bare cs) section before (cleared t))
kept_one j now m cs section judged before rest t split =
    let told = told_by (cleared_message m) in
    let ss = bare cs in
    let section_told = section_of (told_by m) section in
    let keeps = marked-keeps now ss section before in
    let r = cleared t in
    record {
      owner = keeps.owner r;
      rtype = keeps.rtype r;
      class = keeps.class r;
      rdata = keeps.rdata r;
      plain = plain_ttl now ss section before r;
      secure = λ h.
          let made = chained_secure now cs section before r h in
          let s = made.set.judged in
          let found = find_known (λ c. is_about section r c.judged) (IsKnownChain j told ss) cs made.set
          (each_chain_known j told cs judged) made.found in
          let known = found.known.known in
          let about = about_parts section r s found.passes in
          let chain = stands_parts j made.set found.known.stand made.secure in
          let here : section_of told s.section ≡ map cleared section_told = ap (section_of told) about.section_is
          ∙ section_of-cleared m section in
          let begins : BeginsIn (map cleared section_told) s.set = subst (λ xs. BeginsIn xs s.set) here known.begins in
          let signed : IsSignedIn (map cleared section_told) s.set = subst (λ xs. IsSignedIn xs s.set) here known.signed in
          let first : ttl_of (first_record s.set.records) ≡ first_ttl section_told r.owner (set_rtype r) =
          first_is s.set (map cleared section_told) r.owner (set_rtype r) begins about.owner about.rtype
          ∙ first_ttl-cleared section_told r.owner (set_rtype r) in
          let decides = decider_is section (map cleared section_told) before rest r s known.proper signed about split made.decides in
          let by_link = secure_by_link now section_told t r s.mark s (last_link made.set.chain) (decider s) chain.named
          (decider_signs (map cleared section_told) s signed) decides refl first in
          let decided = decided_link j cs section r made.set judged.stand made.found made.secure in
          let made_record : Rr = record r { proof = s.mark; ttl = adjusted_by now s r (decider s) } in
          subst (λ x. IsSecureTtl now section_told t x (deciding_link (chains_of cs) section x)) (sym made.form)
          (subst (λ l. IsSecureTtl now section_told t made_record l) (sym decided) by_link);
    }

kept : (j : Judge) (now : ℕ) (m : MessageValue) (cs : List ChainedSet) (section : Section)
    → AreJudged j (placed_sets (told_by (cleared_message m))) cs
    → ArePaired (IsRecordKept now (chains_of cs) section (section_of (told_by m) section)) (section_of (told_by m) section)
    (marked_section now (bare cs) section (map cleared (section_of (told_by m) section)))
kept j now m cs section judged =
    let records = section_of (told_by m) section in
    kept_after (IsRecordKept now (chains_of cs) section records) (marked now (bare cs) section) cleared (map cleared records) [] records refl
    (kept_one j now m cs section judged)

-- ---- the marks of sets

-- a record as it is marked where nothing stands before it
abbrev pub marked_first : ℕ → List MarkedSet → Section → Rr → Rr
marked_first now ss section = marked now ss section []

plain_change : (now : ℕ) (ss : List MarkedSet) (section : Section) → IsPlainChange (marked now ss section)
plain_change now ss section = record { keeps = marked-keeps now ss section; plain = marked-plain now ss section }

pub own_marks : (now : ℕ) (told : Told) (ss : List MarkedSet) (s : MarkedSet) → IsKnown told ss s
    → AllByRecursion (λ r. marked_first now ss s.section r ≡ record r { proof = s.mark; ttl = adjusted_ttl now s r }) s.set.records
own_marks now told ss s known =
    each_more (λ r. is_of s.set r ≡ true) (λ r. marked_first now ss s.section r ≡ record r { proof = s.mark; ttl = adjusted_ttl now s r })
    (λ r h. own_marked now ss s [] r known.found (own_from s.set r known.proper h)) s.set.records known.proper.own

one_mark : (f : Rr → Rr) (mark : Proof) (records : List Rr) → AllByRecursion (λ r. (f r).proof ≡ mark) records
    → AllByRecursion (λ r. r.proof ≡ first_mark (map f records)) (map f records)
one_mark f mark [] h = tt
one_mark f mark (x ∷ xs) h = (
  refl,
  each_map (λ r. r.proof ≡ (f x).proof) f xs
      (each_more (λ r. (f r).proof ≡ mark) (λ r. (f r).proof ≡ (f x).proof) (λ r e. e ∙ sym h.0) xs h.1),
)

set_has_one : (now : ℕ) (told : Told) (ss : List MarkedSet) (s : MarkedSet) → IsKnown told ss s
    → HasOneMark (on_set (marked_first now ss s.section) s.set)
set_has_one now told ss s known =
    let f = marked_first now ss s.section in
    one_mark f s.mark s.set.records
    (each_more (λ r. f r ≡ record r { proof = s.mark; ttl = adjusted_ttl now s r }) (λ r. (f r).proof ≡ s.mark)
    (λ r e. ap (λ x. x.proof) e) s.set.records
    (own_marks now told ss s known))

-- the sets of a marked section, signatures aside, are those of the section with their records marked
pub sets_of-marked : (now : ℕ) (ss : List MarkedSet) (section : Section) (records : List Rr)
    → map unsigned (sets_of (marked_section now ss section records))
    ≡ map unsigned (map (on_set (marked_first now ss section)) (sets_of records))
sets_of-marked now ss section records =
    unsigned_sets (marked now ss section) (plain_change now ss section) records
    ∙ ap (map unsigned) (sets_of-map (marked_first now ss section) (marked-keeps now ss section []) records)

have_one : (now : ℕ) (told : Told) (ss : List MarkedSet) (section : Section) → map placed_of ss ≡ placed_sets told
    → HaveOneMark (marked_section now ss section (section_of told section))
have_one now told ss section grouped =
    let f = marked_first now ss section in
    let records = section_of told section in
    let P = λ (p : PlacedSet). HasOneMark (on_set (marked_first now ss p.section) p.set) in
    let placed : AllByRecursion P (placed_sets told) =
    subst (λ ps. AllByRecursion P ps) grouped
    (each_map P placed_of ss (each_more (IsKnown told ss) (λ s. P (placed_of s)) (set_has_one now told ss) ss
    (each_known told ss grouped))) in
    let one : AllByRecursion HasOneMark (map (on_set f) (sets_of records)) =
    each_map HasOneMark (on_set f) (sets_of records) (placed_each P told section placed) in
    each_unmap HasOneMark unsigned (sets_of (marked_section now ss section records))
    (subst (λ sets. AllByRecursion HasOneMark sets) (sym (sets_of-marked now ss section records))
    (each_map HasOneMark unsigned (map (on_set f) (sets_of records)) one))

-- ---- the chains

-- a set in its section, without its signatures
abbrev pub unsigned_placed : PlacedSet → PlacedSet
unsigned_placed p = in_section p.section (unsigned p.set)

-- a set without its signatures, with its records marked
abbrev pub on_placed : ℕ → List MarkedSet → PlacedSet → PlacedSet
on_placed now ss p = in_section p.section (unsigned (on_set (marked_first now ss p.section) p.set))

placed_part : (now : ℕ) (ss : List MarkedSet) (section : Section) (records : List Rr)
    → map unsigned_placed (map (in_section section) (sets_of (marked_section now ss section records)))
    ≡ map (on_placed now ss) (map (in_section section) (sets_of records))
placed_part now ss section records =
    let f = on_set (marked_first now ss section) in
    let marked_sets = sets_of (marked_section now ss section records) in
    map-map unsigned_placed (in_section section) marked_sets ∙ sym (map-map (in_section section) unsigned marked_sets)
    ∙ ap (map (in_section section)) (sets_of-marked now ss section records ∙ map-map unsigned f (sets_of records))
    ∙ map-map (in_section section) (λ s. unsigned (f s)) (sets_of records)
    ∙ sym (map-map (on_placed now ss) (in_section section) (sets_of records))

placed_marked : (now : ℕ) (ss : List MarkedSet) (m : MessageValue)
    → map unsigned_placed (placed_sets (told_by (marked_message now ss m))) ≡ map (on_placed now ss) (placed_sets (told_by m))
placed_marked now ss m =
    let one = map (in_section Answer) (sets_of m.answers) in
    let two = map (in_section Authority) (sets_of m.authorities) in
    let three = map (in_section Additional) (sets_of m.additionals) in
    let first = map (in_section Answer) (sets_of (marked_section now ss Answer m.answers)) in
    let second = map (in_section Authority) (sets_of (marked_section now ss Authority m.authorities)) in
    let third = map (in_section Additional) (sets_of (marked_section now ss Additional m.additionals)) in
    let f = on_placed now ss in
    map-append unsigned_placed (first ++ second) third
    ∙ ap (λ xs. xs ++ map unsigned_placed third) (map-append unsigned_placed first second)
    ∙ ap (λ xs. xs ++ map unsigned_placed second ++ map unsigned_placed third) (placed_part now ss Answer m.answers)
    ∙ ap (λ xs. map f one ++ xs ++ map unsigned_placed third) (placed_part now ss Authority m.authorities)
    ∙ ap (λ xs. map f one ++ map f two ++ xs) (placed_part now ss Additional m.additionals)
    ∙ ap (λ xs. xs ++ map f three) (sym (map-append f one two)) ∙ sym (map-append f (one ++ two) three)

pub first_marked : (f : Rr → Rr) (mark : Proof) (records : List Rr) → is_nonempty (rdatas_of records) ≡ true
    → AllByRecursion (λ r. (f r).proof ≡ mark) records
    → first_mark (map f records) ≡ mark
first_marked f mark [] listed h = cc
first_marked f mark (x ∷ xs) listed h = h.0

link_is_for-kept : (f : Rr → Rr) → KeepsKey f → (set : RrSet) (link : Option LinkValue)
    → link_is_for (unsigned (on_set f set)) link ≡ link_is_for set link
link_is_for-kept f keeps set None = refl
link_is_for-kept f keeps set (Some (Anchored owner class key)) = refl
link_is_for-kept f keeps set (Some (Matched owner class key ds_link ds)) = refl
link_is_for-kept f keeps set (Some (KeySet owner class keys links)) = rw (rdatas_of-map f keeps set.records) refl
link_is_for-kept f keeps set (Some (Signed owner class rtype rdatas sig key_link key)) = rw (rdatas_of-map f keeps set.records) refl

link_is_for-unsigned : (set : RrSet) (link : Option LinkValue) → link_is_for (unsigned set) link ≡ link_is_for set link
link_is_for-unsigned set None = refl
link_is_for-unsigned set (Some (Anchored owner class key)) = refl
link_is_for-unsigned set (Some (Matched owner class key ds_link ds)) = refl
link_is_for-unsigned set (Some (KeySet owner class keys links)) = refl
link_is_for-unsigned set (Some (Signed owner class rtype rdatas sig key_link key)) = refl

-- no signature of a set matters to its chain
chains_unsigned : (j : Judge) (cs : List ChainValue) (ps : List PlacedSet) → ArePaired (IsChainOf j) cs (map unsigned_placed ps)
    → ArePaired (IsChainOf j) cs ps
chains_unsigned j [] [] h = tt
chains_unsigned j [] (p ∷ ps) h = h
chains_unsigned j (c ∷ cs) [] h = h
chains_unsigned j (c ∷ cs) (p ∷ ps) h = (
  record { named = h.0.named; ends = sym (link_is_for-unsigned p.set (last_link c.links)) ∙ h.0.ends; holds = h.0.holds },
  chains_unsigned j cs ps h.1,
)

chain_step : (j : Judge) (b c : Bool) (s : ChainedSet) (ss : List ChainedSet) (p : PlacedSet) (ps : List PlacedSet) → c ≡ b
    → (b ≡ true → IsChainOf j (chain_value s) p)
    → ArePaired (IsChainOf j) (map chain_value ss) ps → ArePaired (IsChainOf j) (map chain_value (cond b (s ∷ ss) ss)) (cond c (p ∷ ps) ps)
chain_step j true true s ss p ps same one rest = (one refl, rest)
chain_step j true false s ss p ps same one rest = cc
chain_step j false true s ss p ps same one rest = cc
chain_step j false false s ss p ps same one rest = rest

chains_hold : (j : Judge) (now : ℕ) (told : Told) (ss : List MarkedSet) (cs : List ChainedSet) → AllByRecursion (IsKnownChain j told ss) cs
    → ArePaired (IsChainOf j) (chains_of cs) (filter (λ p. is_secure_set p.set) (map (on_placed now ss) (map placed_of (bare cs))))
chains_hold j now told ss [] known = tt
chains_hold j now told ss (c ∷ cs) known =
    let s = c.judged in
    let f = marked_first now ss s.section in
    let marks : AllByRecursion (λ r. (f r).proof ≡ s.mark) s.set.records =
    each_more (λ r. f r ≡ record r { proof = s.mark; ttl = adjusted_ttl now s r }) (λ r. (f r).proof ≡ s.mark)
    (λ r e. ap (λ x. x.proof) e) s.set.records
    (own_marks now told ss s known.0.known) in
    let p = on_placed now ss (placed_of s) in
    let same : is_secure_set p.set ≡ is_secure s.mark =
    ap is_secure (first_marked f s.mark s.set.records known.0.known.proper.listed marks) in
    chain_step j (is_secure s.mark) (is_secure_set p.set) c (filter (λ x. is_secure x.judged.mark) cs) p
    (filter (λ q. is_secure_set q.set) (map (on_placed now ss) (map placed_of (bare cs)))) same
    (λ secure.
    let chain = stands_parts j c known.0.stand secure in
    record {
      named = refl;
      ends = link_is_for-kept f (marked-keeps now ss s.section []) s.set (last_link c.chain) ∙ chain.ends;
      holds = chain.held;
    })
    (chains_hold j now told ss cs known.1)

chains : (j : Judge) (now : ℕ) (m : MessageValue) (cs : List ChainedSet) → AreJudged j (placed_sets (told_by m)) cs
    → ArePaired (IsChainOf j) (chains_of cs) (secure_sets (told_by (marked_message now (bare cs) m)))
chains j now m cs judged =
    let ss = bare cs in
    let secures = λ (p : PlacedSet). is_secure_set p.set in
    let sets = placed_sets (told_by (marked_message now ss m)) in
    chains_unsigned j (chains_of cs) (filter secures sets)
    (subst (λ ps. ArePaired (IsChainOf j) (chains_of cs) ps)
    (ap (filter secures) (ap (map (on_placed now ss)) judged.grouped ∙ sym (placed_marked now ss m))
    ∙ filter-map secures unsigned_placed sets)
    (chains_hold j now (told_by m) ss cs (each_chain_known j (told_by m) cs judged)))

-- ---- the answer

sound_of_judged : (j : Judge) (now : ℕ) (m : MessageValue) (cs : List ChainedSet) (denial : Denial) (trail : List AskedValue)
    → AreJudged j (placed_sets (told_by (cleared_message m))) cs
    → Sound j now (told_by m) (finished now cs (cleared_message m) denial trail)
sound_of_judged j now m cs denial trail judged =
    let told = told_by (cleared_message m) in
    let ss = bare cs in
    record {
      code = refl;
      answers = kept j now m cs Answer judged;
      authorities = kept j now m cs Authority judged;
      additionals = kept j now m cs Additional judged;
      marks_of_answers = have_one now told ss Answer judged.grouped;
      marks_of_authorities = have_one now told ss Authority judged.grouped;
      marks_of_additionals = have_one now told ss Additional judged.grouped;
      deciders_of_answers = one_decider now ss Answer told.answers;
      deciders_of_authorities = one_decider now ss Authority told.authorities;
      deciders_of_additionals = one_decider now ss Additional told.additionals;
      chains = chains j now (cleared_message m) cs judged;
    }

-- judged sets of a message that stand, each record's mark aside, make its answer sound
pub sound_of_sets : (j : Judge) (now : ℕ) (m : MessageValue) (cs : List ChainedSet) (denial : Denial) (trail : List AskedValue)
    → map placed_of (bare cs) ≡ placed_sets (told_by (cleared_message m)) → AllStand j cs
    → Sound j now (told_by m) (finished now cs (cleared_message m) denial trail)
sound_of_sets j now m cs denial trail grouped stand = sound_of_judged j now m cs denial trail (record { grouped = grouped; stand = stand })

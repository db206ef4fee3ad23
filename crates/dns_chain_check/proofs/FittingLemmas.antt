-- Where an entry says Secure, the chain that it has for the set decides whether that holds.
use Rattle.std.proofs.Common.{◌≡◌, Bool, true, false, ◌&&◌, Option, None, Some, slice_get, refl, sym, ap, ◌∙◌}
use Rattle.std.specs.Prelude.{if◌then◌else◌}
use Rattle.std.specs.Option.{option_and_then, option_map_or}
use Rattle.dns_model.specs.Records.{RrSet}
use Rattle.dns_model.specs.Chains.{Judge, ends_at, justified, last_link}
use Rattle.dns_model.specs.SoundAnswers.{ChainValue, PlacedSet, is_secure}
use Rattle.dns_rules.specs.CacheEntries.{EntryValue, Found, mark_of, sig_of}
use Rattle.dns_rules.specs.MarkedSets.{decider}
use Rattle.dns_rules.specs.Serving.{has_place, judged_as, links_of, names_decider, proves_set, still_holds}
use Rattle.dns_chain_check.specs.KeptChains.{fits, fitting_chain}

false_second : (b : Bool) → (b && false) ≡ false
false_second true = refl
false_second false = refl

true_second : (b : Bool) → (b && true) ≡ b
true_second true = refl
true_second false = refl

-- the two tests that are made first, and the last
last_decides : (test : ChainValue → Bool) (chain : ChainValue) (place ends : Bool) (o : Option ChainValue)
    → o ≡ (if place && ends then Some chain else None)
    → (place && (test chain && ends)) ≡ option_map_or test o false
last_decides test chain true true o is = true_second (test chain) ∙ sym (ap (λ x. option_map_or test x false) is)
last_decides test chain true false o is = false_second (test chain) ∙ sym (ap (λ x. option_map_or test x false) is)
last_decides test chain false ends o is = sym (ap (λ x. option_map_or test x false) is)

chain_decides : (j : Judge) (placed : PlacedSet) (found : Found) (chain : Option ChainValue) (o : Option ChainValue)
    → o ≡ option_and_then (λ c. if fits placed.set found c then Some c else None) chain
    → (has_place placed.set (sig_of found) && proves_set j (judged_as placed found) (links_of chain))
    ≡ option_map_or (λ c. justified j c.links) o false
chain_decides j placed found None o is =
    false_second (has_place placed.set (sig_of found)) ∙ sym (ap (λ x. option_map_or (λ c. justified j c.links) x false) is)
chain_decides j placed found (Some chain) o is =
    last_decides (λ c. justified j c.links) chain (has_place placed.set (sig_of found))
    (ends_at chain.links placed.set && names_decider (last_link chain.links) (decider (judged_as placed found))) o is

-- it is justified, or there is none
pub fitting_decides : (j : Judge) (placed : PlacedSet) (kept : EntryValue) (o : Option ChainValue)
    → is_secure (mark_of kept.found) ≡ true → o ≡ fitting_chain placed.set kept
    → still_holds j placed kept ≡ option_map_or (λ c. justified j c.links) o false
fitting_decides j placed kept o secure is =
    let holds = has_place placed.set (sig_of kept.found) && proves_set j (judged_as placed kept.found) (links_of kept.chain) in
    ap (λ b. if b then holds else true) secure ∙ chain_decides j placed kept.found kept.chain o is

-- ---- an entry's chain

unplaced_in : (set : RrSet) (found : Found) (chain : Option ChainValue) → has_place set (sig_of found) ≡ false
    → option_and_then (λ c. if fits set found c then Some c else None) chain ≡ None
unplaced_in set found None h = refl
unplaced_in set found (Some chain) h =
    let ends =
    ends_at chain.links set && names_decider (last_link chain.links) (option_and_then (slice_get set.signatures) (sig_of found)) in
    ap (λ b. if b && ends then Some chain else None) h

-- the place that it names is no signature's of the set
pub unplaced : (set : RrSet) (kept : EntryValue) → has_place set (sig_of kept.found) ≡ false
    → fitting_chain set kept ≡ None
unplaced set kept h = unplaced_in set kept.found kept.chain h

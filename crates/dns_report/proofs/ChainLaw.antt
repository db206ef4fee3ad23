-- Where each key of a key set has its number, as in a chain that is justified, a view tells its chains whole.
use Rattle.std.proofs.Common.{◌≡◌, ℕ, suc, true, List, [], ◌∷◌, ◌++◌, length, map, refl, sym, ap, ◌∙◌, arith}
use Rattle.std.proofs.lemmas.Bool.{and_parts}
use Rattle.dns_model.specs.Names.{Labels}
use Rattle.dns_model.specs.declared.section.Section.{Section}
use Rattle.dns_model.specs.Chains as trust
use Rattle.dns_model.specs.Chains.{LinkValue, Judge, all_shown, shows_key, is_nonempty, is_signed, link_holds, links_hold, justified}
use Rattle.std.specs.Prelude.{slice_get}
use Rattle.dns_model.specs.SoundAnswers.{ChainValue, ResponseValue}
use Rattle.dns_report.specs.declared.parts.Parts.{Parts}
use Rattle.dns_report.specs.View.{Numbered, Shown, Anchored, Matched, KeySet, Signed, numbered, shown_link, ChainView, chain_view, View, view_of, all_justified}

-- a key set has as many numbers as keys
abbrev Even : LinkValue → Type 0
Even (trust.Anchored owner class key) = Unit {0}
Even (trust.Matched owner class key ds_link ds) = Unit {0}
Even (trust.KeySet owner class keys links) = length keys ≡ length links
Even (trust.Signed owner class rtype rdatas sig key_link key) = Unit {0}

abbrev AllEven : List LinkValue → Type 0
AllEven [] = Unit {0}
AllEven (link ∷ links) = Even link × AllEven links

shown_even : (earlier : List LinkValue) (owner : Labels) (class : ℕ) (keys : List (List ℕ)) (links : List ℕ)
    → all_shown earlier owner class keys links ≡ true → length keys ≡ length links
unfolding all_shown
shown_even earlier owner class [] [] h = refl
shown_even earlier owner class [] (n ∷ ns) h = cc h
shown_even earlier owner class (k ∷ ks) [] h = cc h
shown_even earlier owner class (k ∷ ks) (n ∷ ns) h =
    let parts = and_parts (shows_key owner class k (slice_get earlier n)) (all_shown earlier owner class ks ns) h in
    ap suc (shown_even earlier owner class ks ns parts.1)

link_even : (j : Judge) (earlier : List LinkValue) (link : LinkValue) → link_holds j earlier link ≡ true → Even link
unfolding link_holds
link_even j earlier (trust.Anchored owner class key) h = tt
link_even j earlier (trust.Matched owner class key ds_link ds) h = tt
link_even j earlier (trust.KeySet owner class keys links) h =
    shown_even earlier owner class keys links
    (and_parts (is_nonempty keys) (all_shown earlier owner class keys links) h).1
link_even j earlier (trust.Signed owner class rtype rdatas sig key_link key) h = tt

links_even : (j : Judge) (earlier links : List LinkValue) → links_hold j earlier links ≡ true → AllEven links
unfolding links_hold
links_even j earlier [] h = tt
links_even j earlier (link ∷ links) h =
    let parts = and_parts (link_holds j earlier link) (links_hold j (earlier ++ link ∷ []) links) h in
    (link_even j earlier link parts.0, links_even j (earlier ++ link ∷ []) links parts.1)

abbrev firsts : List Numbered → List ℕ
firsts [] = []
firsts (pair ∷ pairs) = pair.0 ∷ firsts pairs

abbrev seconds : List Numbered → List (List ℕ)
seconds [] = []
seconds (pair ∷ pairs) = pair.1 ∷ seconds pairs

firsts_back : (keys : List (List ℕ)) (links : List ℕ) → length keys ≡ length links
    → firsts (numbered keys links) ≡ links
unfolding numbered
firsts_back [] [] h = refl
firsts_back [] (n ∷ ns) h = absurd (omega (arith, h))
firsts_back (k ∷ ks) [] h = absurd (omega (arith, h))
firsts_back (k ∷ ks) (n ∷ ns) h = ap (λ l. n ∷ l) (firsts_back ks ns (omega (arith, h)))

seconds_back : (keys : List (List ℕ)) (links : List ℕ) → length keys ≡ length links
    → seconds (numbered keys links) ≡ keys
unfolding numbered
seconds_back [] [] h = refl
seconds_back [] (n ∷ ns) h = absurd (omega (arith, h))
seconds_back (k ∷ ks) [] h = absurd (omega (arith, h))
seconds_back (k ∷ ks) (n ∷ ns) h = ap (λ l. k ∷ l) (seconds_back ks ns (omega (arith, h)))

-- the link that is shown so
abbrev whole : Shown → LinkValue
whole (Anchored owner class key) = trust.Anchored owner class key
whole (Matched owner class key ds_link ds) = trust.Matched owner class key ds_link ds
whole (KeySet owner class keys) = trust.KeySet owner class (seconds keys) (firsts keys)
whole (Signed owner class rtype rdatas sig key_link key) = trust.Signed owner class rtype rdatas sig key_link key

whole_back : (link : LinkValue) → Even link → whole (shown_link link) ≡ link
whole_back (trust.Anchored owner class key) even = refl
whole_back (trust.Matched owner class key ds_link ds) even = refl
whole_back (trust.KeySet owner class keys links) even =
    rw (seconds_back keys links even, firsts_back keys links even) refl
whole_back (trust.Signed owner class rtype rdatas sig key_link key) even = refl

links_back : (links : List LinkValue) → AllEven links → map whole (map shown_link links) ≡ links
links_back [] even = refl
links_back (link ∷ links) even = rw (whole_back link even.0, links_back links even.1) refl

abbrev whole_chain : ChainView → ChainValue
whole_chain chain = record { section = chain.section; links = map whole chain.links }

chains_back : (j : Judge) (chains : List ChainValue) → all_justified j chains ≡ true
    → map whole_chain (map chain_view chains) ≡ chains
chains_back j [] h = refl
chains_back j (chain ∷ chains) h =
    let parts = and_parts (justified j chain.links) (all_justified j chains) h in
    let holds = and_parts (is_nonempty chain.links) (links_hold j [] chain.links) parts.0 in
    chain_same chain.section (map whole (map shown_link chain.links)) chain.links
    (map whole_chain (map chain_view chains)) chains
    (links_back chain.links (links_even j [] chain.links holds.1)) (chains_back j chains parts.1)
  where
    chain_same : (s : Section) (a b : List LinkValue) (cs ds : List ChainValue) → a ≡ b → cs ≡ ds
        → ◌≡◌ {A = List ChainValue} (record { section = s; links = a } ∷ cs) (record { section = s; links = b } ∷ ds)
    chain_same s a b cs ds e f = rw (e, f) refl

-- two answers with one view, whose chains are justified, have the same chains
pub view_tells_chains : (j k : Judge) (shows : Parts) (a b : ResponseValue) → all_justified j a.chains ≡ true
    → all_justified k b.chains ≡ true
    → view_of shows a ≡ view_of shows b → a.chains ≡ b.chains
view_tells_chains j k shows a b first second h =
    sym (chains_back j a.chains first) ∙ ap (λ (v : View). map whole_chain v.chains) h ∙ chains_back k b.chains second

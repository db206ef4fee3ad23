-- Links that hold for one judge hold for one who accepts and trusts all that the first does.
use Rattle.std.proofs.Common.{◌≡◌, ℕ, Bool, true, false, ◌==◌, ◌&&◌, List, [], ◌∷◌, ◌++◌, Option, None, Some}
use Rattle.std.specs.Prelude.{not, nat_le}
use Rattle.std.specs.List.{slice_get}
use Rattle.std.proofs.lemmas.Bool.{and_parts, and_from}
use Rattle.dns_model.specs.Names.{Labels, num_labels}
use Rattle.dns_model.specs.Types.{type_rrsig}
use Rattle.dns_model.specs.Views.{DnskeyValue, DsValue, RrsigValue, dnskey_in, ds_in, rrsig_in, is_zone_key, is_revoked}
use Rattle.dns_model.specs.Signing.{key_tag_of, signed_bytes}
use Rattle.dns_model.specs.Keys.{VerifierAnswers, covers_key, matches_read, usable_key}
use Rattle.dns_model.specs.Chains.{LinkValue, Anchored, Matched, KeySet, Signed, Judge, is_nonempty, is_good, is_signed, justified, key_comes, link_holds, links_hold, never_expanded, right_below_signer, shows_ds, signer_fits}
use Rattle.dns_chain_check.specs.MoreTrust.{AnswersMore}

-- a judge supports, accepts and trusts all that another one does
pub record JudgesMore (less more : Judge) : Type 0 where
  pub answers : AnswersMore less.answers more.answers
  pub is_anchored : (owner : Labels) (key : List ℕ) → less.is_anchored owner key ≡ true → more.is_anchored owner key ≡ true
  pub is_timely : (sig : RrsigValue) → less.is_timely sig ≡ true → more.is_timely sig ≡ true

-- of two tests the second may pass more
and_more : (a b c : Bool) → (b ≡ true → c ≡ true) → (a && b) ≡ true → (a && c) ≡ true
and_more true b c step h = step h
and_more false b c step h = h

-- and both may
both_more : (a b c d : Bool) → (a ≡ true → c ≡ true) → (b ≡ true → d ≡ true) → (a && b) ≡ true → (c && d) ≡ true
both_more a b c d one two h = let parts = and_parts a b h in and_from c d (one parts.0) (two parts.1)

-- a DS that matches a key matches it
matches_more : (less more : VerifierAnswers) → AnswersMore less more
    → (owner : Labels) (rdata : List ℕ) (key : Option DnskeyValue) (ds : Option DsValue)
    → matches_read less owner rdata key ds ≡ true → matches_read more owner rdata key ds ≡ true
matches_more less more are owner rdata None ds h = h
matches_more less more are owner rdata (Some key) None h = h
matches_more less more are owner rdata (Some key) (Some ds) h =
    let by = λ (v : VerifierAnswers). v.supports ds.algorithm && covers_key owner rdata ds in
    and_more (key.algorithm == ds.algorithm) ((key_tag_of rdata == ds.key_tag) && by less) ((key_tag_of rdata == ds.key_tag) && by more)
    (and_more (key_tag_of rdata == ds.key_tag) (by less) (by more)
    (both_more (less.supports ds.algorithm) (covers_key owner rdata ds) (more.supports ds.algorithm) (covers_key owner rdata ds)
    (are.supports ds.algorithm) (λ h. h)))
    h

-- a key that may sign may
usable_more : (less more : VerifierAnswers) → AnswersMore less more → (key : DnskeyValue) → usable_key less key ≡ true
    → usable_key more key ≡ true
usable_more less more are key =
    let tail = λ (v : VerifierAnswers). (key.protocol == 3) && v.supports key.algorithm in
    and_more (is_zone_key key) (not (is_revoked key) && tail less) (not (is_revoked key) && tail more)
    (and_more (not (is_revoked key)) (tail less) (tail more)
    (and_more (key.protocol == 3) (less.supports key.algorithm) (more.supports key.algorithm) (are.supports key.algorithm)))

-- a signature that is good is good
good_more : (less more : Judge) → JudgesMore less more
    → (owner : Labels) (class rtype : ℕ) (rdatas : List (List ℕ)) (sig : RrsigValue) (rdata : List ℕ)
    (key : Option DnskeyValue) → is_good less owner class rtype rdatas sig rdata key ≡ true
    → is_good more owner class rtype rdatas sig rdata key ≡ true
good_more less more are owner class rtype rdatas sig rdata None h = h
good_more less more are owner class rtype rdatas sig rdata (Some key) h =
    let bytes = signed_bytes owner rtype class rdatas sig in
    let accepted = λ (j : Judge). j.answers.accepts sig.algorithm key.key bytes sig.signature in
    let timely = λ (j : Judge). j.is_timely sig && accepted j in
    let tagged = λ (j : Judge). (key_tag_of rdata == sig.key_tag) && timely j in
    let named = λ (j : Judge). (key.algorithm == sig.algorithm) && tagged j in
    both_more (usable_key less.answers key) (named less) (usable_key more.answers key) (named more)
    (usable_more less.answers more.answers are.answers key)
    (and_more (key.algorithm == sig.algorithm) (tagged less) (tagged more)
    (and_more (key_tag_of rdata == sig.key_tag) (timely less) (timely more)
    (both_more (less.is_timely sig) (accepted less) (more.is_timely sig) (accepted more) (are.is_timely sig)
    (are.answers.accepts sig.algorithm key.key bytes sig.signature))))
    h

-- a set that is signed is signed
signed_more : (less more : Judge) → JudgesMore less more
    → (earlier : List LinkValue) (owner : Labels) (class rtype : ℕ) (rdatas : List (List ℕ))
    (key_link : ℕ) (key : List ℕ) (sig : Option RrsigValue)
    → is_signed less earlier owner class rtype rdatas key_link key sig ≡ true
    → is_signed more earlier owner class rtype rdatas key_link key sig ≡ true
signed_more less more are earlier owner class rtype rdatas key_link key None h = h
signed_more less more are earlier owner class rtype rdatas key_link key (Some sig) h =
    let comes = key_comes earlier owner class rtype rdatas sig.signer key_link key in
    let good = λ (j : Judge). is_good j owner class rtype rdatas sig key (dnskey_in key) in
    let below = λ (j : Judge). right_below_signer rtype sig.signer owner && (good j && comes) in
    let whole = λ (j : Judge). never_expanded rtype sig.labels owner && below j in
    let within = λ (j : Judge). nat_le sig.labels (num_labels owner) && whole j in
    let fitting = λ (j : Judge). signer_fits rtype sig.signer owner && within j in
    and_more (sig.covered == rtype) (fitting less) (fitting more)
    (and_more (signer_fits rtype sig.signer owner) (within less) (within more)
    (and_more (nat_le sig.labels (num_labels owner)) (whole less) (whole more)
    (and_more (never_expanded rtype sig.labels owner) (below less) (below more)
    (and_more (right_below_signer rtype sig.signer owner) (good less && comes) (good more && comes)
    (both_more (good less) comes (good more) comes (good_more less more are owner class rtype rdatas sig key (dnskey_in key)) (λ h. h))))))
    h

-- a link that holds holds
link_holds-more : (less more : Judge) → JudgesMore less more → (earlier : List LinkValue) (link : LinkValue)
    → link_holds less earlier link ≡ true → link_holds more earlier link ≡ true
unfolding link_holds
link_holds-more less more are earlier (Anchored owner class key) h = are.is_anchored owner key h
link_holds-more less more are earlier (Matched owner class key ds_link ds) h =
    let matched = λ (v : VerifierAnswers). matches_read v owner key (dnskey_in key) (ds_in ds) in
    and_more (shows_ds owner class ds (slice_get earlier ds_link)) (matched less.answers) (matched more.answers)
    (matches_more less.answers more.answers are.answers owner key (dnskey_in key) (ds_in ds)) h
link_holds-more less more are earlier (KeySet owner class keys links) h = h
link_holds-more less more are earlier (Signed owner class rtype rdatas sig key_link key) h =
    let signed = λ (j : Judge). is_signed j earlier owner class rtype rdatas key_link key (rrsig_in sig) in
    and_more (not (rtype == type_rrsig)) (is_nonempty rdatas && signed less) (is_nonempty rdatas && signed more)
    (and_more (is_nonempty rdatas) (signed less) (signed more)
    (signed_more less more are earlier owner class rtype rdatas key_link key (rrsig_in sig)))
    h

-- so do all links that hold
links_hold-more : (less more : Judge) → JudgesMore less more → (earlier links : List LinkValue)
    → links_hold less earlier links ≡ true → links_hold more earlier links ≡ true
unfolding links_hold
links_hold-more less more are earlier [] h = h
links_hold-more less more are earlier (link ∷ links) h =
    both_more (link_holds less earlier link) (links_hold less (earlier ++ link ∷ []) links) (link_holds more earlier link)
    (links_hold more (earlier ++ link ∷ []) links) (link_holds-more less more are earlier link)
    (links_hold-more less more are (earlier ++ link ∷ []) links) h

-- a chain that is justified is justified
pub justified-more : (less more : Judge) → JudgesMore less more → (chain : List LinkValue) → justified less chain ≡ true
    → justified more chain ≡ true
justified-more less more are chain =
    and_more (is_nonempty chain) (links_hold less [] chain) (links_hold more [] chain) (links_hold-more less more are [] chain)

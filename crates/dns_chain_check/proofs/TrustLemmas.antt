-- A chain is justified exactly where its verifier accepts it by itself, and anchors and moment trust it.
use Rattle.std.proofs.Common.{◌≡◌, ℕ, Bool, true, false, ◌==◌, ◌&&◌, List, [], ◌∷◌, ◌++◌, Option, None, Some, refl, sym, ap, ◌∙◌}
use Rattle.std.specs.Prelude.{is_some, not, nat_le}
use Rattle.std.specs.List.{list_all}
use Rattle.std.specs.Option.{option_map_or}
use Rattle.dns_model.specs.Names.{Labels, num_labels}
use Rattle.dns_model.specs.Serial.{timely}
use Rattle.dns_model.specs.Types.{type_rrsig}
use Rattle.dns_model.specs.Views.{DnskeyValue, RrsigValue, dnskey_in, rrsig_in}
use Rattle.dns_model.specs.Signing.{key_tag_of, signed_bytes}
use Rattle.dns_model.specs.Keys.{VerifierAnswers, AnchorValue, usable_key}
use Rattle.dns_model.specs.Chains.{LinkValue, Judge, Anchored, Matched, KeySet, Signed, judge, judge_alone, is_nonempty, is_good, is_signed, key_comes, link_holds, links_hold, never_expanded, right_below_signer, signer_fits}
use Rattle.dns_model.proofs.ViewSteps.{anchored_by}
use Rattle.dns_chain_check.specs.Trusted.{is_trusted_link, is_trusted, DecidesAccepted}

-- ---- one test taken out of a row of tests

slide : (a x y t : Bool) → x ≡ (y && t) → (a && x) ≡ ((a && y) && t)
slide true x y t h = h
slide false x y t h = refl

swapped : (s t : Bool) → (s && t) ≡ (t && s)
swapped true true = refl
swapped true false = refl
swapped false true = refl
swapped false false = refl

slide_back : (x y c t : Bool) → x ≡ (y && t) → (x && c) ≡ ((y && c) && t)
slide_back x true c t h = ap (λ b. b && c) h ∙ swapped t c
slide_back x false c t h = ap (λ b. b && c) h

and_one : (b : Bool) → b ≡ (b && true)
and_one true = refl
and_one false = refl

both_apart : (a b r s : Bool) → ((a && r) && (b && s)) ≡ ((a && b) && (r && s))
both_apart true true r s = refl
both_apart true false true s = refl
both_apart true false false s = refl
both_apart false b r s = refl

-- ---- a signature, by its time

-- a verifier, and who trusts which keys when
record Trust : Type 0 where
  answers : VerifierAnswers
  anchors : List AnchorValue
  now : ℕ

abbrev timed : Trust → Judge
timed of = judge of.answers of.anchors of.now

abbrev untimed : Trust → Judge
untimed of = judge_alone of.answers

good_apart : (of : Trust) (owner : Labels) (class rtype : ℕ) (rdatas : List (List ℕ)) (sig : RrsigValue)
    (rdata : List ℕ)
    (key : Option DnskeyValue)
    → is_good (timed of) owner class rtype rdatas sig rdata key
    ≡ (is_good (untimed of) owner class rtype rdatas sig rdata key && timely sig of.now)
good_apart of owner class rtype rdatas sig rdata None = refl
good_apart of owner class rtype rdatas sig rdata (Some key) =
    let t = timely sig of.now in
    let bytes = signed_bytes owner rtype class rdatas sig in
    let accepted = of.answers.accepts sig.algorithm key.key bytes sig.signature in
    let tag = key_tag_of rdata == sig.key_tag in
    let algorithm = key.algorithm == sig.algorithm in
    let a = tag && (t && accepted) in
    let b = tag && accepted in
    slide (usable_key of.answers key) (algorithm && a) (algorithm && b) t
    (slide algorithm a b t (slide tag (t && accepted) accepted t (swapped t accepted)))

signed_apart : (of : Trust) (earlier : List LinkValue) (owner : Labels) (class rtype : ℕ) (rdatas : List (List ℕ))
    (key_link : ℕ) (key : List ℕ) (sig : Option RrsigValue)
    → is_signed (timed of) earlier owner class rtype rdatas key_link key sig
    ≡ (is_signed (untimed of) earlier owner class rtype rdatas key_link key sig
    && option_map_or (λ s. timely s of.now) sig false)
signed_apart of earlier owner class rtype rdatas key_link key None = refl
signed_apart of earlier owner class rtype rdatas key_link key (Some sig) =
    let t = timely sig of.now in
    let comes = key_comes earlier owner class rtype rdatas sig.signer key_link key in
    let first = is_good (timed of) owner class rtype rdatas sig key (dnskey_in key) in
    let other = is_good (untimed of) owner class rtype rdatas sig key (dnskey_in key) in
    let below = right_below_signer rtype sig.signer owner in
    let whole = never_expanded rtype sig.labels owner in
    let within = nat_le sig.labels (num_labels owner) in
    let fits = signer_fits rtype sig.signer owner in
    let a = below && (first && comes) in
    let b = below && (other && comes) in
    let good = good_apart of owner class rtype rdatas sig key (dnskey_in key) in
    let from_below = slide below (first && comes) (other && comes) t (slide_back first other comes t good) in
    let from_within = slide within (whole && a) (whole && b) t (slide whole a b t from_below) in
    slide (sig.covered == rtype) (fits && (within && (whole && a))) (fits && (within && (whole && b))) t
    (slide fits (within && (whole && a)) (within && (whole && b)) t from_within)

-- ---- a link

anchored_apart : (anchors : List AnchorValue) (owner : Labels) (key : Option DnskeyValue)
    → anchored_by anchors owner key ≡ (is_some key && anchored_by anchors owner key)
anchored_apart anchors owner None = refl
anchored_apart anchors owner (Some key) = refl

link_apart : (of : Trust) (earlier : List LinkValue) (link : LinkValue)
    → link_holds (timed of) earlier link
    ≡ (link_holds (untimed of) earlier link && is_trusted_link of.anchors of.now link)
unfolding link_holds
link_apart of earlier (Anchored owner class key) = anchored_apart of.anchors owner (dnskey_in key)
link_apart of earlier (Matched owner class key ds_link ds) = and_one _
link_apart of earlier (KeySet owner class keys links) = and_one _
link_apart of earlier (Signed owner class rtype rdatas sig key_link key) =
    let t = option_map_or (λ s. timely s of.now) (rrsig_in sig) false in
    let first = is_signed (timed of) earlier owner class rtype rdatas key_link key (rrsig_in sig) in
    let other = is_signed (untimed of) earlier owner class rtype rdatas key_link key (rrsig_in sig) in
    let signed = signed_apart of earlier owner class rtype rdatas key_link key (rrsig_in sig) in
    slide (not (rtype == type_rrsig)) (is_nonempty rdatas && first) (is_nonempty rdatas && other) t
    (slide (is_nonempty rdatas) first other t signed)

-- ---- a chain

links_apart : (of : Trust) (earlier links : List LinkValue)
    → links_hold (timed of) earlier links
    ≡ (links_hold (untimed of) earlier links && list_all (is_trusted_link of.anchors of.now) links)
unfolding links_hold
links_apart of earlier [] = refl
links_apart of earlier (link ∷ links) =
    let first = link_holds (untimed of) earlier link in
    let rest = links_hold (untimed of) (earlier ++ link ∷ []) links in
    let trusted = is_trusted_link of.anchors of.now link in
    let others = list_all (is_trusted_link of.anchors of.now) links in
    ap (λ b. b && links_hold (timed of) (earlier ++ link ∷ []) links) (link_apart of earlier link)
    ∙ ap (λ b. (first && trusted) && b) (links_apart of (earlier ++ link ∷ []) links)
    ∙ both_apart first rest trusted others

-- where the verifier accepts it, anchors and moment decide
pub trust_decides : (anchors : List AnchorValue) (now : ℕ) (chain : List LinkValue) (trusted : Bool)
    → trusted ≡ is_trusted anchors now chain → DecidesAccepted anchors now chain trusted
trust_decides anchors now chain trusted is answers accepted =
    let of : Trust = record { answers = answers; anchors = anchors; now = now } in
    slide (is_nonempty chain) (links_hold (timed of) [] chain) (links_hold (untimed of) [] chain)
    (is_trusted anchors now chain) (links_apart of [] chain)
    ∙ ap (λ b. b && is_trusted anchors now chain) accepted ∙ sym is

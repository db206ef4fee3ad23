-- The tests of a signed link, taken together.
use Rattle.std.proofs.Common.{◌≡◌, ℕ, Bool, true, false, ◌==◌, ◌&&◌, List, Option, Some, refl, sym, ap, ◌∙◌}
use Rattle.std.specs.Prelude.{nat_le}
use Rattle.dns_model.specs.Names.{Labels, num_labels}
use Rattle.dns_model.specs.Views.{RrsigValue, dnskey_in}
use Rattle.dns_model.specs.Chains.{LinkValue, Judge, is_good, is_signed, key_comes, never_expanded, right_below_signer, signer_fits}
use Rattle.dns_chain_check.specs.Fitting.{fits_set}

-- five tests before the others
together : (a b c d e rest : Bool) → ((a && (b && (c && (d && e)))) && rest) ≡ (a && (b && (c && (d && (e && rest)))))
together false b c d e rest = refl
together true false c d e rest = refl
together true true false d e rest = refl
together true true true false e rest = refl
together true true true true e rest = refl

-- what fits, is good and comes from an earlier link is signed
in_parts : (j : Judge) (earlier : List LinkValue) (owner : Labels) (class rtype : ℕ) (rdatas : List (List ℕ)) (key_link : ℕ) (key : List ℕ)
    (read : Option RrsigValue) (sig : RrsigValue) → read ≡ Some sig
    → (fits_set owner rtype sig && (is_good j owner class rtype rdatas sig key (dnskey_in key)
    && key_comes earlier owner class rtype rdatas sig.signer key_link key))
    ≡ is_signed j earlier owner class rtype rdatas key_link key read
in_parts j earlier owner class rtype rdatas key_link key read sig is =
    together (sig.covered == rtype) (signer_fits rtype sig.signer owner) (nat_le sig.labels (num_labels owner))
    (never_expanded rtype sig.labels owner)
    (right_below_signer rtype sig.signer owner)
    (is_good j owner class rtype rdatas sig key (dnskey_in key) && key_comes earlier owner class rtype rdatas sig.signer key_link key)
    ∙ ap (is_signed j earlier owner class rtype rdatas key_link key) (sym is)

-- it doesn't fit
pub unfit : (j : Judge) (earlier : List LinkValue) (owner : Labels) (class rtype : ℕ) (rdatas : List (List ℕ)) (key_link : ℕ) (key : List ℕ)
    (read : Option RrsigValue) (sig : RrsigValue) → read ≡ Some sig → fits_set owner rtype sig ≡ false
    → false ≡ is_signed j earlier owner class rtype rdatas key_link key read
unfit j earlier owner class rtype rdatas key_link key read sig is fits =
    let rest = is_good j owner class rtype rdatas sig key (dnskey_in key)
    && key_comes earlier owner class rtype rdatas sig.signer key_link key in
    ap (λ b. b && rest) (sym fits) ∙ in_parts j earlier owner class rtype rdatas key_link key read sig is

-- it fits, and what is left decides
fit : (j : Judge) (earlier : List LinkValue) (owner : Labels) (class rtype : ℕ) (rdatas : List (List ℕ)) (key_link : ℕ) (key : List ℕ)
    (read : Option RrsigValue) (sig : RrsigValue) → read ≡ Some sig → fits_set owner rtype sig ≡ true
    → (is_good j owner class rtype rdatas sig key (dnskey_in key) && key_comes earlier owner class rtype rdatas sig.signer key_link key)
    ≡ is_signed j earlier owner class rtype rdatas key_link key read
fit j earlier owner class rtype rdatas key_link key read sig is fits =
    let rest = is_good j owner class rtype rdatas sig key (dnskey_in key)
    && key_comes earlier owner class rtype rdatas sig.signer key_link key in
    ap (λ b. b && rest) (sym fits) ∙ in_parts j earlier owner class rtype rdatas key_link key read sig is

-- it fits and isn't good
pub not_good : (j : Judge) (earlier : List LinkValue) (owner : Labels) (class rtype : ℕ) (rdatas : List (List ℕ))
    (key_link : ℕ) (key : List ℕ)
    (read : Option RrsigValue) (sig : RrsigValue) → read ≡ Some sig → fits_set owner rtype sig ≡ true
    → is_good j owner class rtype rdatas sig key (dnskey_in key) ≡ false
    → false ≡ is_signed j earlier owner class rtype rdatas key_link key read
not_good j earlier owner class rtype rdatas key_link key read sig is fits good =
    ap (λ b. b && key_comes earlier owner class rtype rdatas sig.signer key_link key) (sym good)
    ∙ fit j earlier owner class rtype rdatas key_link key read sig is fits

-- it fits and is good, and where the key comes from decides
pub by_key : (j : Judge) (earlier : List LinkValue) (owner : Labels) (class rtype : ℕ) (rdatas : List (List ℕ)) (key_link : ℕ)
    (key : List ℕ)
    (read : Option RrsigValue) (sig : RrsigValue) → read ≡ Some sig → fits_set owner rtype sig ≡ true
    → is_good j owner class rtype rdatas sig key (dnskey_in key) ≡ true
    → key_comes earlier owner class rtype rdatas sig.signer key_link key ≡ is_signed j earlier owner class rtype rdatas key_link key read
by_key j earlier owner class rtype rdatas key_link key read sig is fits good =
    ap (λ b. b && key_comes earlier owner class rtype rdatas sig.signer key_link key) (sym good)
    ∙ fit j earlier owner class rtype rdatas key_link key read sig is fits

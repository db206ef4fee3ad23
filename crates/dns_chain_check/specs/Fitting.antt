-- For private functions of this crate only: whether a signature fits a set, before its key is looked at, and whether a
-- link is a signed one that holds (RFC 4035, 5.3.1).
use Rattle.std.specs.Prelude.{ℕ, Bool, false, ◌==◌, ◌&&◌, nat_le, List}
use Rattle.dns_model.specs.Names.{Labels, num_labels}
use Rattle.dns_model.specs.Views.{RrsigValue}
use Rattle.dns_model.specs.Chains.{Judge, LinkValue, Signed, link_holds, never_expanded, right_below_signer, signer_fits}

-- the signature is over the type, and its signer and its Labels fit the owner
abbrev pub fits_set : Labels → ℕ → RrsigValue → Bool
fits_set owner rtype sig =
    (sig.covered == rtype) && (signer_fits rtype sig.signer owner && (nat_le sig.labels (num_labels owner)
    && (never_expanded rtype sig.labels owner && right_below_signer rtype sig.signer owner)))

-- the link is a signed one, and holds
abbrev pub signed_link_holds : Judge → List LinkValue → LinkValue → Bool
signed_link_holds j earlier (Signed owner class rtype rdatas sig key_link key) =
    link_holds j earlier (Signed owner class rtype rdatas sig key_link key)
signed_link_holds j earlier _ = false

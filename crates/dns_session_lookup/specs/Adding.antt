-- For private functions of this crate only: what the lists of a verifier and of trusted keys become when a session's lines are
-- added one by one. What a session's judge is stands in Soundness.
use Rattle.std.specs.Prelude.{ℕ, List, [], ◌∷◌}
use Rattle.dns_model.specs.Keys.{AnchorValue, AcceptedSignatureValue}
use Rattle.dns_evidence.specs.Listing.{ListedValue, with_algorithm, with_accepted}
use Rattle.dns_trust.specs.Anchoring.{with_anchor}

unfoldable pub with_algorithms : ListedValue → List ℕ → ListedValue
with_algorithms listed [] = listed
with_algorithms listed (a ∷ more) = with_algorithms (with_algorithm listed a) more

unfoldable pub with_accepts : ListedValue → List AcceptedSignatureValue → ListedValue
with_accepts listed [] = listed
with_accepts listed (a ∷ more) = with_accepts (with_accepted listed a) more

-- a verifier's lists, from nothing
abbrev pub listed_by : List ℕ → List AcceptedSignatureValue → ListedValue
listed_by algorithms accepts = with_accepts (with_algorithms (record { algorithms = []; accepted = [] }) algorithms) accepts

unfoldable pub with_anchors : List AnchorValue → List AnchorValue → List AnchorValue
with_anchors trusted [] = trusted
with_anchors trusted (a ∷ more) = with_anchors (with_anchor trusted a) more

-- the trusted keys, from none
abbrev pub trusted_by : List AnchorValue → List AnchorValue
trusted_by anchors = with_anchors [] anchors

-- What a verifier's acceptance of a chain leaves to test: who trusts the keys that start it, and when its signatures count (RFC 4035, 4.4 and 5.3).
use Rattle.std.specs.Prelude.{ℕ, ◌≡◌, Bool, true, false, List}
use Rattle.std.specs.List.{list_all}
use Rattle.std.specs.Option.{option_map_or}
use Rattle.dns_model.specs.Serial.{timely}
use Rattle.dns_model.specs.Views.{rrsig_in}
use Rattle.dns_model.specs.Keys.{VerifierAnswers, AnchorValue, anchored}
use Rattle.dns_model.specs.Chains.{LinkValue, Anchored, Signed, judge, justified, accepted_alone}

-- a key that starts a chain is an anchor, and a signature counts at the moment
abbrev pub is_trusted_link : List AnchorValue → ℕ → LinkValue → Bool
is_trusted_link anchors now (Anchored owner class key) = anchored anchors owner key
is_trusted_link anchors now (Signed owner class rtype rdatas sig key_link key) =
    option_map_or (λ s. timely s now) (rrsig_in sig) false
is_trusted_link anchors now _ = true

-- so it is for each link
abbrev pub is_trusted : List AnchorValue → ℕ → List LinkValue → Bool
is_trusted anchors now chain = list_all (is_trusted_link anchors now) chain

-- where a verifier accepts the chain, this alone decides whether it is justified
abbrev pub DecidesAccepted : List AnchorValue → ℕ → List LinkValue → Bool → Type 0
DecidesAccepted anchors now chain trusted =
    (answers : VerifierAnswers) → accepted_alone answers chain ≡ true → justified (judge answers anchors now) chain ≡ trusted

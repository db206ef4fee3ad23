-- A client whose answers are validated (RFC 4035, 4.9 and 5): a validator, and how it is made.
use Rattle.std.specs.Prelude.{ℕ, List, [], Option, None, Some}
use Rattle.dns_model.specs.Keys.{AnchorValue}
use Rattle.dns_model.specs.Records.{Question}
use Rattle.dns_handle.specs.declared.request.DnsRequestOptions.{DnsRequestOptions}
use Rattle.dns_cache.specs.declared.validation_cache.ValidationCache as cache
use Rattle.dns_evidence.specs.declared.verifier.Verifier as verifier
use Rattle.dns_lookup.specs.Calls.{CacheUse, Call, cache_of, call_of, inner_of, use_of}
use Rattle.dns_lookup.specs.declared.handle.DnssecDnsHandle.{DnssecDnsHandle}
use Rattle.dns_secure_client.specs.declared.builder.AsyncSecureClientBuilder.{AsyncSecureClientBuilder}
use Rattle.dns_secure_client.specs.declared.client.DnssecClient.{DnssecClient}

-- the validator that it is
abbrev pub validator_of : {H V C : Type 0} → DnssecClient H V C → DnssecDnsHandle H V C
validator_of client = client.validator

-- the handle that a client is to ask, and the keys that it is to trust, where they were given
abbrev pub asked_of : {H : Type 0} → AsyncSecureClientBuilder H → H
asked_of builder = builder.client

abbrev pub given_of : {H : Type 0} → AsyncSecureClientBuilder H → Option (List AnchorValue)
given_of builder = builder.anchors

-- without given keys none is trusted
abbrev pub trusted_by : Option (List AnchorValue) → List AnchorValue
trusted_by None = []
trusted_by (Some anchors) = anchors

-- the handle that it asks
abbrev pub handle_of : {H V C : Type 0} → DnssecClient H V C → H
handle_of client = inner_of (validator_of client)

-- a lookup by a client is one by its validator
abbrev pub client_call : {H V C : Type 0} → verifier.Ghosts V → cache.Ghosts C → DnssecClient H V C → DnssecClient H V C
    → Question → DnsRequestOptions → ℕ → Call H
client_call tests caches old new q options now = call_of tests caches (validator_of old) (validator_of new) q options now

-- what it used of its cache
abbrev pub client_use : {H V C : Type 0} → cache.Ghosts C → DnssecClient H V C → DnssecClient H V C → CacheUse
client_use caches old new = use_of caches (cache_of (validator_of old)) (cache_of (validator_of new))

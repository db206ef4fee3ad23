-- A validator as it is made, before it is set and before it is asked (RFC 4035, 4.5, 4.7 and 5; RFC 9276, 3.2).
use Rattle.std.specs.Prelude.{◌≡◌, List}
use Rattle.dns_model.specs.Keys.{AnchorValue}
use Rattle.dns_cache.specs.CacheLists.{CountedList}
use Rattle.dns_lookup.specs.Calls.{inner_of, anchors_of, verifier_of, iterations_of, cache_of, ranges_of}
use Rattle.dns_lookup.specs.Limiting.{default_entries, default_iterations, default_ranges}
use Rattle.dns_lookup.specs.Sending.{sends_of, faults_of}
use Rattle.dns_lookup.specs.declared.handle.DnssecDnsHandle.{DnssecDnsHandle}

-- it asks this handle, trusts these keys and tests by this verifier; it has found nothing yet, keeps and counts as much as one that
-- isn't set, and was never asked
pub record IsNewValidator {H V : Type 0} (asked : H) (trusted : List AnchorValue) (tests : V)
    (validator : DnssecDnsHandle H V CountedList) : Type 0 where
  pub inner : inner_of validator ≡ asked
  pub anchors : anchors_of validator ≡ trusted
  pub verifier : verifier_of validator ≡ tests
  pub cache : cache_of validator ≡ record { list = default_entries; hits = 0 }
  pub ranges : ranges_of validator ≡ default_ranges
  pub sends : sends_of validator ≡ 0
  pub iterations : iterations_of validator ≡ default_iterations
  pub faults : faults_of validator ≡ 0

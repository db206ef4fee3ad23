-- What contracts see of a validation.
use Rattle.std.specs.Prelude.{ℕ, ◌≡◌, Bool, Option, None, Some, IfSome}
use Rattle.std.specs.Option.{option_map}
use Rattle.dns_model.specs.Keys.{VerifierAnswers}
use Rattle.dns_model.specs.Chains.{Judge}
use Rattle.dns_model.specs.Records.{Question}
use Rattle.dns_rules.specs.CacheEntries.{EntryValue}
use Rattle.dns_rules.specs.CacheKeys.{key_of}
use Rattle.dns_handle.specs.Requests.{RequestValue}
use Rattle.dns_handle.specs.declared.request.DnsRequestOptions.{DnsRequestOptions}
use Rattle.dns_cache.specs.Caches.{HasAccepted}
use Rattle.dns_cache.specs.Expiry.{TtlRangesValue}
use Rattle.dns_cache.specs.declared.acceptance.Acceptance.{Acceptance}
use Rattle.dns_cache.specs.declared.acceptance.Acceptance.TheVariants.{Kept}
use Rattle.dns_evidence.specs.declared.limits.IterationLimits.{IterationLimits}
use Rattle.dns_flow.specs.declared.asks.Ask.{Ask}
use Rattle.dns_validation.specs.Machine.{Terms, SeekingValue, StateValue, none_open}
use Rattle.dns_validation.specs.Runs.{request_at}
use Rattle.dns_validation.specs.Terms.{terms_of}
use Rattle.dns_validation.specs.declared.validation.Asking.{Asking}
use Rattle.dns_validation.specs.declared.validation.Validation.{Validation}
use Rattle.dns_validation.specs.declared.validation.Wanted.{Wanted}
use Rattle.dns_validation.specs.declared.validation.Wanted.TheVariants.{Reply, Entry}

-- by what it judges and asks
abbrev pub terms_in : {V : Type 0} → (V → VerifierAnswers) → Validation V → Terms
terms_in answers validation = terms_of answers validation.context

-- how far it has come
abbrev pub state_of : {V : Type 0} → Validation V → StateValue
state_of validation = validation.state

-- what it asks: that which waits for its reply, by this request
abbrev pub asking_at : RequestValue → DnsRequestOptions → Bool → Ask → Asking
asking_at request options first ask = record { request = request_at request options first ask; judged = ask.judged }

abbrev pub asking_in : Terms → StateValue → Option Asking
asking_in t s = option_map (asking_at t.request t.options (none_open s.steps)) s.pending

-- what it wants: what was kept of the set that waits for that, or the reply to what it asks
abbrev pub wanted_by : Terms → StateValue → Option SeekingValue → Option Wanted
wanted_by t s None = option_map Reply (asking_in t s)
wanted_by t s (Some seeking) = Some (Entry (key_of seeking.so_far.query seeking.placed.set))

abbrev pub wanted_in : Terms → StateValue → Option Wanted
wanted_in t s = wanted_by t s s.seeking

-- the terms on which it begins
abbrev pub terms_by : Judge → Question → RequestValue → DnsRequestOptions → IterationLimits → TtlRangesValue → ℕ → Terms
terms_by j q request options iterations ranges now =
    record { judge = j; query = q; request = request; options = options; iterations = iterations; ranges = ranges; now = now }

-- of what was kept, whoever says `Kept` speaks true: the verifier accepts the chain of a Secure entry by itself (RFC 4035, 5.3.3)
abbrev pub AcceptedWhereKept : VerifierAnswers → Option (EntryValue × Acceptance) → Type 0
AcceptedWhereKept answers given = IfSome given (λ p. p.1 ≡ Kept → HasAccepted answers p.0)

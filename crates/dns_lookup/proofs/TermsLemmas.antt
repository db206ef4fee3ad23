-- What a lookup by some terms comes to, it comes to by terms that are equal to them.
use Rattle.std.proofs.Common.{◌≡◌, Result, subst}
use Rattle.dns_model.specs.SoundAnswers.{ResponseValue}
use Rattle.dns_handle.specs.Handles.{OrUnsent}
use Rattle.dns_handle.specs.Replies.{reply_of}
use Rattle.dns_handle.specs.declared.error.NetError.{NetError}
use Rattle.dns_handle.specs.declared.handle.DnsHandle as handle
use Rattle.dns_validation.specs.Machine.{Terms}
use Rattle.dns_lookup.specs.Answering.{call_by, AnswersLookup}
use Rattle.dns_lookup.specs.Caching.{UsesCache}
use Rattle.dns_lookup.specs.Calls.{CacheUse}
use Rattle.dns_lookup.specs.Fronts.{IsFront, SendsOfTerms}
use Rattle.dns_lookup.specs.LookupAnswers.{OfAnswer, UnlessNoMemory}

module _ {H : Type 0} (meanings : handle.Ghosts H) {t u : Terms} (same : t ≡ u) where
  pub front_by : (used : CacheUse) (old new : H) (answer : Result ResponseValue NetError)
      → IsFront meanings t used old new (reply_of answer) → IsFront meanings u used old new (reply_of answer)
  front_by used old new answer = subst (λ x. IsFront meanings x used old new (reply_of answer)) same

  pub sends_by : (old new : H) (answer : Result ResponseValue NetError)
      → OrUnsent old new answer (SendsOfTerms meanings t old new)
      → OrUnsent old new answer (SendsOfTerms meanings u old new)
  sends_by old new answer = subst (λ x. OrUnsent old new answer (SendsOfTerms meanings x old new)) same

  pub lookup_by : (used : CacheUse) (old new : H) (answer : Result ResponseValue NetError)
      → UnlessNoMemory answer (AnswersLookup meanings (call_by t used old new) (reply_of answer))
      → UnlessNoMemory answer (AnswersLookup meanings (call_by u used old new) (reply_of answer))
  lookup_by used old new answer =
      subst (λ x. UnlessNoMemory answer (AnswersLookup meanings (call_by x used old new) (reply_of answer))) same

  pub cached_by : (used : CacheUse) (old new : H) (answer : Result ResponseValue NetError)
      → OfAnswer (reply_of answer) (λ a ending. UsesCache (call_by t used old new) a.trail)
      → OfAnswer (reply_of answer) (λ a ending. UsesCache (call_by u used old new) a.trail)
  cached_by used old new answer =
      subst (λ x. OfAnswer (reply_of answer) (λ a ending. UsesCache (call_by x used old new) a.trail)) same

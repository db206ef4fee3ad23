-- How its trail explains a lookup's answer, and what the answer denies: by the laws on derivations.
use Rattle.std.proofs.Common.{ℕ, ◌≡◌, ◌∙◌, true, List, [], ◌∷◌, Option, None, Some, Result, Ok, Err, IfOk, refl, sym, ap, subst}
use Rattle.dns_model.specs.declared.denial.Denial.{Denial}
use Rattle.dns_model.specs.SoundAnswers.{told_by, ResponseValue}
use Rattle.dns_model.specs.Trails.{EndingValue, Answered}
use Rattle.dns_model.proofs.EachLemmas.{each_back}
use Rattle.dns_rules.specs.ChainedSets.{bare, finished}
use Rattle.dns_rules.specs.CacheEntries.{EntryValue}
use Rattle.dns_rules.specs.Derivation.{derivation, ending_by}
use Rattle.dns_cache.specs.CacheLists.{CacheList}
use Rattle.dns_rules.specs.Marking.{marked_told}
use Rattle.dns_rules.proofs.DerivationLemmas.{top_step_is}
use Rattle.dns_laws.specs.Denials.{ShowsDenial, StepDenies, HasDenials}
use Rattle.dns_laws.proofs.DenialLemmas.{denials_hold}
use Rattle.dns_laws.proofs.GroundLemmas.{insecure_is_grounded}
use Rattle.dns_laws.proofs.SignatureDenials.{denies_by_records}
use Rattle.dns_handle.specs.Errors.{Reply}
use Rattle.dns_handle.specs.Replies.{reply_of}
use Rattle.dns_handle.specs.declared.error.NetError.{NetError}
use Rattle.dns_handle.specs.declared.handle.DnsHandle as handle
use Rattle.dns_validation.specs.Steps.{top_of, Findings, trail_of}
use Rattle.dns_lookup.specs.Caching.{ServeFrom, HasNone}
use Rattle.dns_lookup.specs.Calls.{Call, limits_of_call}
use Rattle.dns_lookup.specs.LookupAnswers.{UnlessNoMemory, OfAnswer, IsExplained, ShowsItsDenial}
use Rattle.dns_lookup.specs.Answering.{Found, AnswersLookup}
use Rattle.dns_lookup.proofs.LookupAnswerLemmas.{of_result}
use Rattle.dns_lookup.proofs.TopLemmas.{found_trail, found_marks, found_grouped}

-- the steps of what was found show what they deny
found_denials : {H : Type 0} (meanings : handle.Ghosts H) (call : Call H) (found : Findings) (ending : EndingValue)
    → Found meanings call found
    → ending ≡ ending_by found.outcome → HasDenials (trail_of call.query found ending)
found_denials meanings call found ending f ends =
    let trail = (found_trail meanings call found ending f ends).is in
    denials_hold call.judge (limits_of_call call) trail.cached (trail_of call.query found ending) trail.derived

-- nothing serves where nothing was kept
none_serves : (before : Option CacheList) (now : ℕ) (cached : List EntryValue) → HasNone before now
    → ServeFrom before now cached → cached ≡ []
none_serves None now cached none served = absurd none
none_serves (Some list) now cached none served = served ∙ none

-- its trail explains the answer
found_explained : {H : Type 0} (meanings : handle.Ghosts H) (call : Call H) (found : Findings) (d : Denial)
    (ending : EndingValue) → Found meanings call found
    → ending ≡ ending_by found.outcome
    → IsExplained call.judge.answers call.cache.before call.now
    (finished call.now found.sets found.message d (trail_of call.query found ending))
found_explained meanings call found d ending f ends =
    let trail = (found_trail meanings call found ending f ends).is in
    record {
      marks = found_marks meanings call found d ending f;
      grounds = λ none.
          insecure_is_grounded call.judge (limits_of_call call) (trail_of call.query found ending)
          (subst (λ cached. derivation call.judge (limits_of_call call) cached
          (trail_of call.query found ending) ≡ true)
          (none_serves call.cache.before call.now trail.cached none trail.kept) trail.derived);
      denials = found_denials meanings call found ending f ends;
    }

pub lookup_explained : {H : Type 0} (meanings : handle.Ghosts H) (call : Call H)
    (result : Result ResponseValue NetError)
    → UnlessNoMemory result (AnswersLookup meanings call (reply_of result))
    → OfAnswer (reply_of result) (λ a ending. IsExplained call.judge.answers call.cache.before call.now a)
lookup_explained meanings call result lookup =
    of_result meanings call (λ a ending. IsExplained call.judge.answers call.cache.before call.now a) result
    (record { each = λ found d ending f ends. found_explained meanings call found d ending f ends }) lookup

-- the last step shows what it denies, and its denial is the answer's
found_denies : {H : Type 0} (meanings : handle.Ghosts H) (call : Call H) (found : Findings) (d : Denial)
    (ending : EndingValue) → Found meanings call found
    → ending ≡ ending_by found.outcome → ending ≡ Answered d
    → ShowsItsDenial call.now call.query
    (finished call.now found.sets found.message d (trail_of call.query found ending))
found_denies meanings call found d ending f ends answered =
    let told = told_by found.message in
    let top = top_of call.query told found.empty found.entries ending found.excuse in
    let shows =
    (each_back StepDenies found.steps (top ∷ []) (found_denials meanings call found ending f ends)).0 told d refl
    refl answered in
    record {
      top = top;
      told = told;
      last = top_step_is found.steps top;
      heard = refl;
      marked = ap (λ sets. marked_told call.now sets told) f.judged.same;
      shows = shows;
      own = denies_by_records call.now call.query told (bare found.sets) d (found_grouped meanings call found f)
          (subst (λ sets. ShowsDenial call.query told sets d) (sym f.judged.same) shows);
    }

ok_answer : (reply : Reply) (Fact : ResponseValue → Type 0)
    → OfAnswer reply (λ a ending. ending ≡ Answered a.denial → Fact a) → IfOk reply Fact
ok_answer (Ok a) Fact of = of refl
ok_answer (Err e) Fact of = tt

pub lookup_denies : {H : Type 0} (meanings : handle.Ghosts H) (call : Call H) (result : Result ResponseValue NetError)
    → UnlessNoMemory result (AnswersLookup meanings call (reply_of result))
    → IfOk (reply_of result) (ShowsItsDenial call.now call.query)
lookup_denies meanings call result lookup =
    ok_answer (reply_of result) (ShowsItsDenial call.now call.query)
    (of_result meanings call (λ a ending. ending ≡ Answered a.denial → ShowsItsDenial call.now call.query a) result
    (record { each = λ found d ending f ends. found_denies meanings call found d ending f ends }) lookup)

ok_result : (result : Result ResponseValue NetError) (Fact : ResponseValue → Type 0) → IfOk (reply_of result) Fact
    → IfOk result Fact
ok_result (Ok a) Fact of = of
ok_result (Err e) Fact of = tt

pub lookup_shows : {H : Type 0} (meanings : handle.Ghosts H) (call : Call H) (result : Result ResponseValue NetError)
    → UnlessNoMemory result (AnswersLookup meanings call (reply_of result))
    → IfOk result (ShowsItsDenial call.now call.query)
lookup_shows meanings call result lookup =
    ok_result result (ShowsItsDenial call.now call.query) (lookup_denies meanings call result lookup)

-- Where a validation can stand: a run comes there, or memory ran out.
use Rattle.std.proofs.Common.{ℕ, ◌≡◌, ◌⊎◌, inl, inr, Bool, true, false, ◌&&◌, List, [], ◌∷◌, ◌++◌, drop, Option, None, Some, if◌then◌else◌, refl, sym, ap, subst, ◌∙◌}
use Rattle.std.specs.BTreeMap.{BTreeMap}
use Rattle.std.specs.Option.{IsSome, IfSome}
use Rattle.dns_model.specs.Chains.{judge}
use Rattle.dns_model.specs.Keys.{AnchorValue, VerifierAnswers}
use Rattle.dns_model.specs.SoundAnswers.{ChainValue}
use Rattle.dns_model.specs.declared.trail.MarkOrigin.TheVariants.{Cache}
use Rattle.dns_rules.specs.CacheEntries.{EntryValue}
use Rattle.dns_rules.specs.CacheKeys.{CacheKeyValue, key_eq, key_of}
use Rattle.dns_cache.specs.Caches.{HasAccepted}
use Rattle.dns_cache.specs.declared.acceptance.Acceptance.{Acceptance}
use Rattle.dns_handle.specs.Errors.{Reply}
use Rattle.dns_flow.specs.declared.asks.Ask.{Ask}
use Rattle.dns_validation.specs.Machine.{Terms, SeekingValue, StateValue, first_kept, given_out, holds_given, origin_of, serving}
use Rattle.dns_validation.specs.Reached.{IsReached}
use Rattle.dns_validation.specs.Runs.{Sent, sent_now, Run, Given, IsIn, IsAmong, IsOut, HasHeard, HasTaken}
use Rattle.dns_validation.proofs.AcceptedLemmas.{left_accepted}
use Rattle.dns_validation.proofs.LeftLemmas.{first_is_left}
use Rattle.dns_validation.proofs.RunLemmas.{goes_on, run_more, takes_on}

abbrev pub StandsAt : Terms → StateValue → Type 0
StandsAt t s = IsOut s ⊎ IsReached t s

pub reached_begun : (t : Terms) (s : StateValue) → ((cached : List EntryValue) → Run t cached [] s) → StandsAt t s
reached_begun t s run = inr (record { cached = []; sends = []; run = run [] })

-- it stands as before, or memory runs out
pub reached_same : (t : Terms) (old new : StateValue) → IsOut new ⊎ (new ≡ old) → StandsAt t old → StandsAt t new
reached_same t old new (inl out) at = inl out
reached_same t old new (inr is) at = subst (StandsAt t) (sym is) at

-- ---- a reply

none_some : {X : Type 0} (o : Option X) (x : X) → o ≡ None → o ≡ Some x → ⊥
none_some o x none some = cc

heard_by_run : (t : Terms) (old new : StateValue) (reply : Reply) (ask : Ask) → old.pending ≡ Some ask
    → HasHeard t old reply new → StandsAt t old → StandsAt t new
heard_by_run t old new reply ask waits heard (inl out) = absurd (none_some old.pending ask out.asks waits)
heard_by_run t old new reply ask waits heard (inr at) =
    inr (record {
      cached = at.cached;
      sends = at.sends ++ sent_now t old ask reply ∷ [];
      run = goes_on t old new reply heard at.cached at.sends ask waits at.run;
    })

heard_or_out : (t : Terms) (old new : StateValue) (reply : Reply) (ask : Ask) → old.pending ≡ Some ask
    → IsOut new ⊎ HasHeard t old reply new → StandsAt t old → StandsAt t new
heard_or_out t old new reply ask waits (inl out) at = inl out
heard_or_out t old new reply ask waits (inr heard) at = heard_by_run t old new reply ask waits heard at

reached_by : (t : Terms) (old new : StateValue) (reply : Reply) (o : Option Ask) → old.pending ≡ o
    → (o ≡ None → new ≡ old)
    → (IsSome o → IsOut new ⊎ HasHeard t old reply new) → StandsAt t old → StandsAt t new
reached_by t old new reply None is idle heard at = reached_same t old new (inr (idle refl)) at
reached_by t old new reply (Some ask) is idle heard at = heard_or_out t old new reply ask is (heard refl) at

pub reached_heard : (t : Terms) (old new : StateValue) (reply : Reply) → (old.pending ≡ None → new ≡ old)
    → (IsSome old.pending → IsOut new ⊎ HasHeard t old reply new) → StandsAt t old → StandsAt t new
reached_heard t old new reply idle heard at = reached_by t old new reply old.pending refl idle heard at

-- ---- what was kept of a set

-- with what was given among what was kept before
given_list : Option (EntryValue × Acceptance) → List EntryValue
given_list None = []
given_list (Some p) = p.0 ∷ []

last_in : {X : Type 0} (xs : List X) (x : X) → IsIn x (xs ++ x ∷ [])
last_in [] x = inl refl
last_in (y ∷ xs) x = inr (last_in xs x)

among_test : (t : Terms) (cached : List EntryValue) (s : StateValue) (k : SeekingValue)
    (p : EntryValue × Acceptance) (b holds : Bool)
    → key_eq (key_of k.so_far.query k.placed.set) p.0.key ≡ b
    → IfSome (if b && holds then Some p.0 else None)
    (λ e. (key_eq (key_of k.so_far.query k.placed.set) e.key ≡ true)
    × (origin_of s.made e ≡ Cache → IsIn e (cached ++ p.0 ∷ [])))
among_test t cached s k p true true fits = (fits, λ origin. last_in cached p.0)
among_test t cached s k p true false fits = tt
among_test t cached s k p false holds fits = tt

among_given : (t : Terms) (cached : List EntryValue) (s : StateValue) (k : SeekingValue)
    (given : Option (EntryValue × Acceptance)) → IsAmong t (cached ++ given_list given) s k given
unfolding given_list
among_given t cached s k None = tt
among_given t cached s k (Some p) =
    among_test t cached s k p (key_eq (key_of k.so_far.query k.placed.set) p.0.key)
    (holds_given p.1 t.judge k.placed p.0) refl

taken_by_run : (t : Terms) (old new : StateValue) (given : Option (EntryValue × Acceptance)) (k : SeekingValue)
    → old.seeking ≡ Some k → HasTaken t old given new → StandsAt t old → StandsAt t new
taken_by_run t old new given k waits taken (inl out) = absurd (none_some old.seeking k out.seeks waits)
taken_by_run t old new given k waits taken (inr at) =
    inr (record {
      cached = at.cached ++ given_list given;
      sends = at.sends;
      run = takes_on t old new given taken (at.cached ++ given_list given) at.sends k waits
          (among_given t at.cached old k given) (run_more t at.cached (given_list given) at.sends old at.run);
    })

taken_or_out : (t : Terms) (old new : StateValue) (given : Option (EntryValue × Acceptance)) (k : SeekingValue)
    → old.seeking ≡ Some k → IsOut new ⊎ HasTaken t old given new → StandsAt t old → StandsAt t new
taken_or_out t old new given k waits (inl out) at = inl out
taken_or_out t old new given k waits (inr taken) at = taken_by_run t old new given k waits taken at

found_by_run : (t : Terms) (old new : StateValue) (given : Option (EntryValue × Acceptance)) (o : Option SeekingValue)
    → old.seeking ≡ o → (o ≡ None → new ≡ old)
    → (IsSome o → IsOut new ⊎ HasTaken t old given new) → StandsAt t old → StandsAt t new
found_by_run t old new given None is idle taken at = reached_same t old new (inr (idle refl)) at
found_by_run t old new given (Some k) is idle taken at = taken_or_out t old new given k is (taken refl) at

pub reached_taken : (t : Terms) (old new : StateValue) (given : Option (EntryValue × Acceptance))
    → (old.seeking ≡ None → new ≡ old)
    → (IsSome old.seeking → IsOut new ⊎ HasTaken t old given new) → StandsAt t old → StandsAt t new
reached_taken t old new given idle taken at = found_by_run t old new given old.seeking refl idle taken at

-- ---- what is given out

none_left : (s : StateValue) → IsOut s → IsOut (given_out s)
none_left s out = record {
  asks = out.asks;
  seeks = out.seeks;
  keeps = ap (drop 1) out.keeps;
  moves = out.moves;
  ended = out.ended;
}

given_on : (t : Terms) (s : StateValue) → StandsAt t s → StandsAt t (given_out s)
given_on t s (inl out) = inl (none_left s out)
given_on t s (inr at) = inr (record {
  cached = at.cached;
  sends = at.sends;
  run = Given at.sends s (given_out s) at.run refl;
})

pub reached_given : (t : Terms) (old new : StateValue) → new ≡ given_out old → StandsAt t old → StandsAt t new
reached_given t old new is at = subst (StandsAt t) (sym is) (given_on t old at)

-- its chain is one that the verifier accepts
first_of_run : (answers : VerifierAnswers) (anchors : List AnchorValue) (now : ℕ) (t : Terms) (s : StateValue)
    (o : Option EntryValue) → t.judge ≡ judge answers anchors now → o ≡ first_kept s.kept → IsReached t s
    → IfSome o (HasAccepted answers)
first_of_run answers anchors now t s None by is at = tt
first_of_run answers anchors now t s (Some e) by is at =
    left_accepted answers anchors now t at.sends e by (first_is_left t s (Some e) is at.cached at.sends at.run)

out_of_none : (answers : VerifierAnswers) (s : StateValue) (o : Option EntryValue) → o ≡ first_kept s.kept
    → s.kept ≡ [] → IfSome o (HasAccepted answers)
out_of_none answers s None is none = tt
out_of_none answers s (Some e) is none = let no : Some e ≡ None = is ∙ ap first_kept none in cc

pub first_accepted : (answers : VerifierAnswers) (anchors : List AnchorValue) (now : ℕ) (t : Terms) (s : StateValue)
    (o : Option EntryValue) → t.judge ≡ judge answers anchors now → o ≡ first_kept s.kept → StandsAt t s
    → IfSome o (HasAccepted answers)
first_accepted answers anchors now t s o by is (inl out) = out_of_none answers s o is out.keeps
first_accepted answers anchors now t s o by is (inr at) = first_of_run answers anchors now t s o by is at

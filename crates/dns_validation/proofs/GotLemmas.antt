-- What an ask came to: a step that has ended, or a refusal.
use Rattle.std.proofs.Common.{ℕ, ◌+◌, ◌≡◌, ◌≤◌, ◌<◌, ◌==◌, ◌&&◌, Bool, true, false, List, [], ◌∷◌, ◌++◌, length, Option, None, Some, slice_get, nat_le, nat_lt, refl, sym, ap, subst, ◌∙◌, arith, if◌then◌else◌}
use Rattle.std.specs.Option.{option_map}
use Rattle.std.proofs.lemmas.Bool.{and_from, le-leb}
use Rattle.std.proofs.lemmas.Bool.Decides.{nat_tests}
use Rattle.dns_model.specs.declared.trail.AskRef.{AskRef}
use Rattle.dns_model.specs.declared.trail.AskRef.TheVariants.{Step, TooDeep, TooMany}
use Rattle.dns_model.specs.Records.{Question, question_eq}
use Rattle.dns_model.specs.Trails.{AskedValue, HeardValue, JudgedSetValue, EndingValue}
use Rattle.dns_model.proofs.Lists.{slice_get_appended}
use Rattle.dns_model.proofs.QuestionLemmas.{question_refl}
use Rattle.dns_model.proofs.SetLemmas.{number_refl}
use Rattle.dns_rules.specs.Asking.{most_sends}
use Rattle.dns_rules.specs.ChainedSets.{ChainedSet, bare}
use Rattle.dns_rules.specs.CacheEntries.{EntryValue}
use Rattle.dns_rules.specs.Derivation.{StepContext, if_answered, judged_sets, probe_of}
use Rattle.dns_rules.specs.DerivationParts.{answer_of, is_judged_ask}
use Rattle.dns_rules.specs.Probes as probes
use Rattle.dns_rules.proofs.ChainedLemmas.{IsGoodAnswer}
use Rattle.dns_rules.proofs.SearchLemmas.{plain_asked, plain_sees}
use Rattle.dns_flow.specs.Phases.{Answer, Probe, judged_ask, plain_ask}
use Rattle.dns_flow.proofs.Led.{IsGot, got_answer, got_probe}
use Rattle.dns_validation.specs.Steps.{judged_step, plain_step}
use Rattle.dns_validation.specs.Machine.{Terms, limit_of, SoFar, nothing_got, refusal, limits_of}
use Rattle.dns_validation.proofs.Parts.{Part, too_deep, too_many}

-- by what the sets of an open step are judged, once these steps have ended
abbrev pub context_at : Terms → List EntryValue → List AskedValue → SoFar → StepContext
context_at t cached closed s =
    record {
      judge =
          t.judge;
      limits = limits_of t;
      cached = cached;
      earlier = closed;
      query = s.query;
      depth = s.depth;
    }

-- ---- a step that has ended

module _ (t : Terms) (cached : List EntryValue) (closed : List AskedValue) (s : SoFar) (q : Question) (depth : ℕ)
    (reply : HeardValue) (sets : List JudgedSetValue) (ending : EndingValue) (excuse : List AskRef) where
  -- a judged step answers the ask that it was made for
  pub step_answers : (answer : Option (List ChainedSet)) → depth ≡ s.depth + 1 → s.depth + 1 ≤ limit_of t
      → option_map bare answer ≡ if_answered ending (judged_sets (judged_step depth q reply sets ending excuse))
      → IsGoodAnswer t.judge answer
      → IsGot (context_at t cached (closed ++ judged_step depth q reply sets ending excuse ∷ []) s) (judged_ask q)
      (Step (length closed)) (Answer answer)
  step_answers answer deep shallow same good =
      let step = judged_step depth q reply sets ending excuse in
      let found : slice_get (closed ++ step ∷ []) (length closed) ≡ Some step = slice_get_appended closed step [] in
      got_answer (context_at t cached (closed ++ step ∷ []) s) q (Step (length closed)) answer
      (and_from (nat_le (s.depth + 1) (limit_of t))
      (is_judged_ask (s.depth + 1) q (slice_get (closed ++ step ∷ []) (length closed)))
      (le-leb (s.depth + 1) (limit_of t) shallow)
      (ap (is_judged_ask (s.depth + 1) q) found
      ∙ and_from (depth == s.depth + 1) (question_eq q q) (ap (λ n. n == s.depth + 1) deep ∙ number_refl (s.depth + 1))
      (question_refl q)))
      (same ∙ ap answer_of (sym found)) good

-- and a plain one what it saw
pub step_shows : (t : Terms) (cached : List EntryValue) (closed : List AskedValue) (s : SoFar) (q : Question)
    (reply : HeardValue) (ending : EndingValue)
    → IsGot (context_at t cached (closed ++ plain_step s.depth q reply ending ∷ []) s) (plain_ask q)
    (Step (length closed)) (Probe (probe_of q.owner reply))
step_shows t cached closed s q reply ending =
    let step = plain_step s.depth q reply ending in
    got_probe (context_at t cached (closed ++ step ∷ []) s) q (Step (length closed)) (probe_of q.owner reply)
    (plain_asked closed step s.depth q refl refl (question_refl q)) (plain_sees closed step q.owner)

-- ---- a refusal

pub record Refused (t : Terms) (cached : List EntryValue) (closed : List AskedValue) (s : SoFar) (n : ℕ) (q : Question)
    (judged : Bool) (r : AskRef) : Type 0 where
  pub part : Part t cached closed closed (r ∷ []) n n []
  pub got : IsGot (context_at t cached closed s) (record { query = q; judged = judged }) r (nothing_got judged)

module _ (t : Terms) (cached : List EntryValue) (closed : List AskedValue) (s : SoFar) (n : ℕ) where
  refused_deep : (q : Question)
      → nat_lt (limit_of t) (s.depth + 1) ≡ true
      → Refused t cached closed s n q true TooDeep
  refused_deep q deep = record {
    part = too_deep t cached closed n;
    got = got_answer (context_at t cached closed s) q TooDeep None deep refl tt;
  }

  refused_judged : (q : Question)
      → nat_lt (limit_of t) (s.depth + 1) ≡ false
      → nat_le most_sends n ≡ true → Refused t cached closed s n q true TooMany
  refused_judged q shallow many = record {
    part = too_many t cached closed n (grind (arith, nat_tests));
    got = got_answer (context_at t cached closed s) q TooMany None (grind (arith, nat_tests)) refl tt;
  }

  refused_plain : (q : Question)
      → nat_le most_sends n ≡ true → Refused t cached closed s n q false TooMany
  refused_plain q many = record {
    part = too_many t cached closed n (grind (arith, nat_tests));
    got = got_probe (context_at t cached closed s) q TooMany probes.Failed refl refl;
  }

  refused_by : (q : Question)
      (judged : Bool) (r : AskRef) (b c : Bool)
      → nat_lt (limit_of t) (s.depth + 1) ≡ b → nat_le most_sends n ≡ c
      → (if judged && b then Some TooDeep else if c then Some TooMany else None) ≡ Some r
      → Refused t cached closed s n q judged r
  refused_by q true r true c deep many is =
      let same : TooDeep ≡ r =
      cc in subst (Refused t cached closed s n q true) same (refused_deep q deep)
  refused_by q true r false true deep many is =
      let same : TooMany ≡ r =
      cc in subst (Refused t cached closed s n q true) same (refused_judged q deep many)
  refused_by q true r false false deep many is = cc
  refused_by q false r b true deep many is =
      let same : TooMany ≡ r =
      cc in subst (Refused t cached closed s n q false) same (refused_plain q many)
  refused_by q false r b false deep many is = cc

  pub refused : (q : Question)
      (judged : Bool) (r : AskRef)
      → refusal (limit_of t) n s.depth judged ≡ Some r → Refused t cached closed s n q judged r
  refused q judged r is =
      refused_by q judged r (nat_lt (limit_of t) (s.depth + 1)) (nat_le most_sends n) refl refl is

-- ---- an ask that isn't refused

pub record Allowed (t : Terms) (s : SoFar) (n : ℕ) (judged : Bool) : Type 0 where
  pub few : n < most_sends
  pub shallow : judged ≡ true → s.depth + 1 ≤ limit_of t

allowed_by : (t : Terms) (s : SoFar) (n : ℕ) (judged b c : Bool) → nat_lt (limit_of t) (s.depth + 1) ≡ b
    → nat_le most_sends n ≡ c
    → (if judged && b then Some TooDeep else if c then Some TooMany else None) ≡ None → Allowed t s n judged
allowed_by t s n true true c deep many is = cc
allowed_by t s n true false true deep many is = cc
allowed_by t s n true false false deep many is =
    record { few = grind (arith, nat_tests); shallow = λ yes. grind (arith, nat_tests) }
allowed_by t s n false b true deep many is = cc
allowed_by t s n false b false deep many is = record { few = grind (arith, nat_tests); shallow = λ yes. cc }

pub allowed : (t : Terms) (s : SoFar) (n : ℕ) (judged : Bool) → refusal (limit_of t) n s.depth judged ≡ None
    → Allowed t s n judged
allowed t s n judged is = allowed_by t s n judged (nat_lt (limit_of t) (s.depth + 1)) (nat_le most_sends n) refl refl is

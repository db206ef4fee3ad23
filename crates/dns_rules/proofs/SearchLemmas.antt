-- The search for a zone: how it is built ask by ask, and that what it came to stays when steps are appended.
use Rattle.std.proofs.Common.{◌≡◌, ℕ, ◌+◌, true, false, not, ◌==◌, ◌&&◌, List, [], ◌∷◌, ◌++◌, length, Option, None, Some, slice_get, if◌then◌else◌, append_assoc, append-nil, refl, sym, ap, ◌∙◌, subst}
use Rattle.std.proofs.lemmas.Bool.{and_parts, and_from}
use Rattle.dns_model.specs.declared.trail.AskRef.{AskRef}
use Rattle.dns_model.specs.declared.trail.AskRef.TheVariants.{Step, TooDeep, TooMany}
use Rattle.dns_model.specs.Names.{Labels}
use Rattle.dns_model.specs.Records.{Question, question_eq}
use Rattle.dns_model.specs.Trails.{AskedValue}
use Rattle.dns_model.proofs.SetLemmas.{number_refl}
use Rattle.dns_model.proofs.TestLemmas.{if_some}
use Rattle.dns_model.proofs.Lists.{slice_get_appended}
use Rattle.dns_rules.specs.MarkedSets.{MarkedSet}
use Rattle.dns_rules.specs.ProofErrors.{Net, DsRecordShouldExist}
use Rattle.dns_rules.specs.Delegations.{ZoneVerdict, Bogus, ds_question, zone_verdict}
use Rattle.dns_rules.specs.Unsigned.{ns_question}
use Rattle.dns_rules.specs.Derivation.{StepContext, finished_answer, is_ask, is_empty, is_plain_ask, probe_of, probe_by, zone_asked, search_after, search_by}
use Rattle.dns_rules.specs.DerivationParts.{is_plain_step, probe_at}
use Rattle.dns_rules.specs.Probes.{NsProbe}
use Rattle.dns_rules.specs.Probes as probes
use Rattle.dns_rules.proofs.StayLemmas.{slice_get-stays, later_step_context, ask_stays}

-- ---- the ask for a DS set

-- the DS verdict that an ask leads to
pub zone_from : (g : StepContext) (class : ℕ) (name : Labels) (ask : AskRef)
    → is_ask g.limits.depth g.earlier (g.depth + 1) (ds_question class name) ask ≡ true
    → zone_asked g class name (ask ∷ []) ≡ Some (zone_verdict g.judge.answers class name (finished_answer g.earlier ask))
zone_from g class name ask asks =
    ap (λ b. if b then Some (zone_verdict g.judge.answers class name (finished_answer g.earlier ask)) else None) asks

-- it stays when steps are appended
pub zone_stays : (g : StepContext) (more : List AskedValue) (class : ℕ) (name : Labels) (asks : List AskRef) (zone : ZoneVerdict)
    → zone_asked g class name asks ≡ Some zone → zone_asked (later_step_context g more) class name asks ≡ Some zone
zone_stays g more class name [] zone h = cc
zone_stays g more class name (ask ∷ asks) zone h =
    let q = ds_question class name in
    let by = λ (answer : Option (List MarkedSet)). Some (zone_verdict g.judge.answers class name answer) in
    let some = if_some (is_empty asks && is_ask g.limits.depth g.earlier (g.depth + 1) q ask) (by (finished_answer g.earlier ask)) zone h in
    let parts = and_parts (is_empty asks) (is_ask g.limits.depth g.earlier (g.depth + 1) q ask) some.0 in
    let stays = ask_stays g.limits.depth g.earlier more (g.depth + 1) q ask parts.1 in
    ap (λ b. if b then by (finished_answer (g.earlier ++ more) ask) else None)
    (and_from (is_empty asks) (is_ask g.limits.depth (g.earlier ++ more) (g.depth + 1) q ask) parts.0 stays.asks)
    ∙ ap by stays.answer ∙ some.1

-- ---- a plain ask

plain_step_stays : (depth : ℕ) (q : Question) (earlier more : List AskedValue) (n : ℕ) (o : Option AskedValue) → slice_get earlier n ≡ o
    → is_plain_step depth q o ≡ true → slice_get (earlier ++ more) n ≡ o
plain_step_stays depth q earlier more n None is h = cc
plain_step_stays depth q earlier more n (Some step) is h = slice_get-stays earlier more n step is

-- a plain ask for a question is one later, and saw the same
pub record PlainStays (earlier more : List AskedValue) (depth : ℕ) (q : Question) (name : Labels) (ask : AskRef) : Type 0 where
  pub asks : is_plain_ask (earlier ++ more) depth q ask ≡ true
  pub sees : probe_by (earlier ++ more) name ask ≡ probe_by earlier name ask

pub plain_stays : (earlier more : List AskedValue) (depth : ℕ) (q : Question) (name : Labels) (ask : AskRef)
    → is_plain_ask earlier depth q ask ≡ true
    → PlainStays earlier more depth q name ask
plain_stays earlier more depth q name (Step n) h =
    let same = plain_step_stays depth q earlier more n (slice_get earlier n) refl h in
    record { asks = ap (is_plain_step depth q) same ∙ h; sees = ap (probe_at name) same }
plain_stays earlier more depth q name TooDeep h = cc
plain_stays earlier more depth q name TooMany h = record { asks = refl; sees = refl }

-- a step behind others that sees what it hears answers the plain ask for its question
pub plain_asked : (before : List AskedValue) (step : AskedValue) (depth : ℕ) (q : Question) → step.judged ≡ false → step.depth ≡ depth
    → question_eq q step.query ≡ true → is_plain_ask (before ++ step ∷ []) depth q (Step (length before)) ≡ true
plain_asked before step depth q unjudged same asks =
    ap (is_plain_step depth q) (slice_get_appended before step [])
    ∙ ap (λ b. not b && ((step.depth == depth) && question_eq q step.query)) unjudged
    ∙ and_from (step.depth == depth) (question_eq q step.query) (ap (λ d. step.depth == d) (sym same) ∙ number_refl step.depth) asks

-- and what it sees is in its reply
pub plain_sees : (before : List AskedValue) (step : AskedValue) (name : Labels)
    → probe_by (before ++ step ∷ []) name (Step (length before)) ≡ probe_of name step.reply
plain_sees before step name = ap (probe_at name) (slice_get_appended before step [])

-- ---- one ask of a search

-- at the root nothing is asked
pub search_root : (g : StepContext) (class : ℕ) (start : Labels) → search_by g class start [] [] ≡ Some (Bogus (DsRecordShouldExist start))
unfolding search_by
search_root g class start = refl

search_step : (g : StepContext) (class : ℕ) (start : Labels) (label : List ℕ) (rest : Labels) (ask : AskRef)
    (asks : List AskRef) (probe : NsProbe)
    → is_plain_ask g.earlier g.depth (ns_question class (label ∷ rest)) ask ≡ true → probe_by g.earlier (label ∷ rest) ask ≡ probe
    → search_by g class start (label ∷ rest) (ask ∷ asks)
    ≡ search_after g class (label ∷ rest) asks probe (search_by g class start rest asks)
unfolding search_by
search_step g class start label rest ask asks probe plain sees =
    let name : Labels = label ∷ rest in
    let above = search_by g class start rest asks in
    ap (λ b. if b then search_after g class name asks (probe_by g.earlier name ask) above else None) plain
    ∙ ap (λ s. search_after g class name asks s above) sees

-- where the NS records of a name are seen, its DS verdict decides
pub search_cut : (g : StepContext) (class : ℕ) (start : Labels) (label : List ℕ) (rest : Labels) (ask : AskRef)
    (asks : List AskRef) (zone : ZoneVerdict)
    → is_plain_ask g.earlier g.depth (ns_question class (label ∷ rest)) ask ≡ true → probe_by g.earlier (label ∷ rest) ask ≡ probes.Found
    → zone_asked g class (label ∷ rest) asks ≡ Some zone → search_by g class start (label ∷ rest) (ask ∷ asks) ≡ Some zone
search_cut g class start label rest ask asks zone plain sees by = search_step g class start label rest ask asks probes.Found plain sees ∙ by

-- where they aren't, the search goes on at the parent
pub search_onward : (g : StepContext) (class : ℕ) (start : Labels) (label : List ℕ) (rest : Labels) (ask : AskRef)
    (asks : List AskRef) (zone : ZoneVerdict)
    → is_plain_ask g.earlier g.depth (ns_question class (label ∷ rest)) ask ≡ true → probe_by g.earlier (label ∷ rest) ask ≡ probes.Absent
    → search_by g class start rest asks ≡ Some zone → search_by g class start (label ∷ rest) (ask ∷ asks) ≡ Some zone
search_onward g class start label rest ask asks zone plain sees above =
    search_step g class start label rest ask asks probes.Absent plain sees ∙ above

-- and after a fault or a refusal nothing more is asked
pub search_unseen : (g : StepContext) (class : ℕ) (start : Labels) (label : List ℕ) (rest : Labels) (ask : AskRef)
    → is_plain_ask g.earlier g.depth (ns_question class (label ∷ rest)) ask ≡ true → probe_by g.earlier (label ∷ rest) ask ≡ probes.Failed
    → search_by g class start (label ∷ rest) (ask ∷ []) ≡ Some (Bogus (Net (ns_question class (label ∷ rest))))
search_unseen g class start label rest ask plain sees = search_step g class start label rest ask [] probes.Failed plain sees

-- ---- further steps

after_stays : (g : StepContext) (more : List AskedValue) (class : ℕ) (name : Labels) (asks : List AskRef) (probe : NsProbe)
    (o p : Option ZoneVerdict)
    (zone : ZoneVerdict) → search_after g class name asks probe o ≡ Some zone → (o ≡ Some zone → p ≡ Some zone)
    → search_after (later_step_context g more) class name asks probe p ≡ Some zone
after_stays g more class name asks probes.Found o p zone h above = zone_stays g more class name asks zone h
after_stays g more class name asks probes.Absent o p zone h above = above h
after_stays g more class name asks probes.Failed o p zone h above = h

-- what a search came to stays when steps are appended
pub search_stays : (g : StepContext) (more : List AskedValue) (class : ℕ) (start name : Labels) (asks : List AskRef) (zone : ZoneVerdict)
    → search_by g class start name asks ≡ Some zone → search_by (later_step_context g more) class start name asks ≡ Some zone
unfolding search_by
search_stays g more class start [] asks zone h = h
search_stays g more class start (label ∷ rest) [] zone h = cc
search_stays g more class start (label ∷ rest) (ask ∷ asks) zone h =
    let q = ns_question class (label ∷ rest) in
    let probe = probe_by g.earlier (label ∷ rest) ask in
    let above = search_by g class start rest asks in
    let some = if_some (is_plain_ask g.earlier g.depth q ask) (search_after g class (label ∷ rest) asks probe above) zone h in
    let stays = plain_stays g.earlier more g.depth q (label ∷ rest) ask some.0 in
    search_step (later_step_context g more) class start label rest ask asks probe stays.asks stays.sees
    ∙ after_stays g more class (label ∷ rest) asks probe above (search_by (later_step_context g more) class start rest asks) zone some.1
    (λ k. search_stays g more class start rest asks zone k)

-- ---- a search so far

-- a search that began at a name has come to another one, after these asks: what the rest comes to is what the whole comes to, also
-- when further steps were appended
pub record SearchDone (g : StepContext) (class : ℕ) (start name : Labels) (asks : List AskRef) (rest : Labels) : Type 0 where
  pub more : (later : List AskedValue) (rest_asks : List AskRef) (zone : ZoneVerdict)
      → search_by (later_step_context g later) class start rest rest_asks ≡ Some zone
      → search_by (later_step_context g later) class start name (asks ++ rest_asks) ≡ Some zone

-- it begins
pub search_begun : (g : StepContext) (class : ℕ) (start name : Labels) → SearchDone g class start name [] name
search_begun g class start name = record { more = λ later rest_asks zone h. h }

-- how far it came stays when steps are appended
pub search_done_stays : (g : StepContext) (more : List AskedValue) (class : ℕ) (start name : Labels) (asks : List AskRef) (rest : Labels)
    → SearchDone g class start name asks rest → SearchDone (later_step_context g more) class start name asks rest
search_done_stays g more class start name asks rest done = record {
  more = λ later rest_asks zone h.
      let same = append_assoc g.earlier more later in
      subst (λ steps. search_by (record g { earlier = steps }) class start name (asks ++ rest_asks) ≡ Some zone) (sym same)
      (done.more (more ++ later) rest_asks zone
      (subst (λ steps. search_by (record g { earlier = steps }) class start rest rest_asks ≡ Some zone) same h));
}

-- it goes on at the parent
pub search_goes_on : (g : StepContext) (class : ℕ) (start name : Labels) (asks : List AskRef) (label : List ℕ) (rest : Labels)
    (ask : AskRef)
    → SearchDone g class start name asks (label ∷ rest) → is_plain_ask g.earlier g.depth (ns_question class (label ∷ rest)) ask ≡ true
    → probe_by g.earlier (label ∷ rest) ask ≡ probes.Absent → SearchDone g class start name (asks ++ ask ∷ []) rest
search_goes_on g class start name asks label rest ask done plain sees = record {
  more = λ later rest_asks zone h.
      let stays = plain_stays g.earlier later g.depth (ns_question class (label ∷ rest)) (label ∷ rest) ask plain in
      subst (λ xs. search_by (later_step_context g later) class start name xs ≡ Some zone) (sym (append_assoc asks (ask ∷ []) rest_asks))
      (done.more later (ask ∷ rest_asks) zone
      (search_onward (later_step_context g later) class start label rest ask rest_asks zone stays.asks (stays.sees ∙ sees) h));
}

-- and ends with what the last asks come to
pub search_ends : (g : StepContext) (class : ℕ) (start name : Labels) (asks : List AskRef) (rest : Labels)
    (rest_asks : List AskRef) (zone : ZoneVerdict)
    → SearchDone g class start name asks rest → search_by g class start rest rest_asks ≡ Some zone
    → search_by g class start name (asks ++ rest_asks) ≡ Some zone
search_ends g class start name asks rest rest_asks zone done h =
    let same = append-nil g.earlier in
    subst (λ steps. search_by (record g { earlier = steps }) class start name (asks ++ rest_asks) ≡ Some zone) same
    (done.more [] rest_asks zone (subst (λ steps. search_by (record g { earlier = steps }) class start rest rest_asks ≡ Some zone)
    (sym same) h))

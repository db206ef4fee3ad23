-- How a run ends by its words, out of what was done for them.
use Rattle.std.proofs.Common.{ℕ, ◌≡◌, ◌≢◌, ◌∙◌, Bool, true, false, not, List, map, Option, None, Some, refl, sym, ap}
use Rattle.std.proofs.Common.{subst}
use Rattle.std.specs.Prelude.{Vec}
use Rattle.std.specs.Option.{option_map_or}
use Rattle.dns_asking.specs.Servers.{Network}
use Rattle.dns_asking.specs.declared.address.ServerAddress.{ServerAddress}
use Rattle.dns_handle.specs.declared.protocol.Protocol.{Protocol}
use Rattle.dns_multiplexer.specs.declared.draws.RandDraws.{RandDraws}
use Rattle.dns_report.specs.declared.parts.Parts.{Parts}
use Rattle.dns_session_lookup.specs.declared.verification.Verification.{Verification}
use Rattle.dns_session_lookup.specs.declared.verification.Verification.TheVariants.{ByList}
use Rattle.dns_run.specs.declared.form.Form.{Form}
use Rattle.dns_run.specs.declared.form.Form.TheVariants.{Validate, Task, Bench, Ask, Help, Version}
use Rattle.dns_run.specs.declared.task.Task.{Task as TaskKind}
use Rattle.dns_io.specs.Writing.{bad_words_text, WritesText}
use Rattle.dns_io.specs.Leaving.{Leaves}
use Rattle.dns_run.specs.Benches.{WritesBench}
use Rattle.dns_run.specs.Asks.{server_call, EndsAsk}
use Rattle.dns_run.specs.Completing.{IsValid, EndsSecurely}
use Rattle.dns_run.specs.Ends.{EndsRun, EndsOver}
use Rattle.dns_run.specs.Forms.{asked_form, asks_server, goes_further, form_verifies, help_text, other_form, shown_by}
use Rattle.dns_run.specs.Forms.{tells_fault, version_text}
use Rattle.dns_run.specs.Outcomes.{LeavesPrefix, Reports, Derives, Fails}
use Rattle.dns_run.specs.Runs.{EndsAsSession, EndsByGrammar, EndsByWords, IfSession}
use Rattle.dns_run.specs.Tasks.{EndsTask}
use Rattle.dns_run.proofs.CompletingLemmas.{ends_securely}
use Rattle.dns_run.proofs.EndLemmas.{Says, ends_as_session, ends_by_grammar}
use Rattle.dns_run.proofs.OutcomeLemmas.{leaves_reports}

-- ---- the parts of a form

how_of : Option Form → Verification → Verification
how_of (Some (Validate how shows)) other = how
how_of (Some (Ask how explains protocol server)) other = how
how_of form other = other

shows_of : Option Form → Parts → Parts
shows_of (Some (Validate how shows)) other = shows
shows_of form other = other

task_of : Option Form → TaskKind → TaskKind
task_of (Some (Task task)) other = task
task_of form other = other

protocol_of : Option Form → Protocol → Protocol
protocol_of (Some (Ask how explains protocol server)) other = protocol
protocol_of form other = other

explains_of : Option Form → Bool → Bool
explains_of (Some (Ask how explains protocol server)) other = explains
explains_of form other = other

server_of : Option Form → ServerAddress → ServerAddress
server_of (Some (Ask how explains protocol server)) other = server
server_of form other = other

no_task : (how : Verification) (shows : Parts) (task : TaskKind) → Some (Validate how shows) ≡ Some (Task task) → ⊥
no_task how shows task h = cc

no_session : (how : Verification) (shows : Parts) (task : TaskKind) → Some (Task task) ≡ Some (Validate how shows) → ⊥
no_session how shows task h = cc

bench_no_session : (n : ℕ) (how : Verification) (shows : Parts) → Some (Bench n) ≡ Some (Validate how shows) → ⊥
bench_no_session n how shows h = cc

bench_no_task : (n : ℕ) (task : TaskKind) → Some (Bench n) ≡ Some (Task task) → ⊥
bench_no_task n task h = cc

help_no_session : (how : Verification) (shows : Parts) → Some Help ≡ Some (Validate how shows) → ⊥
help_no_session how shows h = cc

help_no_task : (task : TaskKind) → Some Help ≡ Some (Task task) → ⊥
help_no_task task h = cc

version_no_session : (how : Verification) (shows : Parts) → Some Version ≡ Some (Validate how shows) → ⊥
version_no_session how shows h = cc

version_no_task : (task : TaskKind) → Some Version ≡ Some (Task task) → ⊥
version_no_task task h = cc

none_no_session : (how : Verification) (shows : Parts) → None ≡ Some (Validate how shows) → ⊥
none_no_session how shows h = cc

none_no_task : (task : TaskKind) → None ≡ Some (Task task) → ⊥
none_no_task task h = cc

ask_no_session : (by : Verification) (explains : Bool) (protocol : Protocol) (server : ServerAddress)
    (how : Verification) (shows : Parts) → Some (Ask by explains protocol server) ≡ Some (Validate how shows) → ⊥
ask_no_session by explains protocol server how shows h = cc

ask_no_task : (by : Verification) (explains : Bool) (protocol : Protocol) (server : ServerAddress)
    (task : TaskKind) → Some (Ask by explains protocol server) ≡ Some (Task task) → ⊥
ask_no_task by explains protocol server task h = cc

false_no_true : false ≡ true → ⊥
false_no_true h = cc

not_true : (b : Bool) → not b ≡ true → b ≡ false
not_true true h = cc
not_true false h = refl

-- ---- a text that is written has no status 1

-- one is no other status
one_no_0 : ◌≡◌ {A = ℕ} 1 0 → ⊥
one_no_0 h = cc

one_no_2 : ◌≡◌ {A = ℕ} 1 2 → ⊥
one_no_2 h = cc

one_no_5 : ◌≡◌ {A = ℕ} 1 5 → ⊥
one_no_5 h = cc

one_no_6 : ◌≡◌ {A = ℕ} 1 6 → ⊥
one_no_6 h = cc

wrote_expected : (status expected : ℕ) (before now : Option (List ℕ)) (text : List ℕ)
    → WritesText status expected before now text → status ≡ 1 → ◌≡◌ {A = ℕ} 1 expected
wrote_expected status expected before now text wrote one =
    sym one ∙ wrote.ends (λ five. one_no_5 (sym one ∙ five)) (λ six. one_no_6 (sym one ∙ six))

done_no_fault : (status : ℕ) (before now : Option (List ℕ)) (text : List ℕ) → WritesText status 0 before now text
    → status ≡ 1 → ⊥
done_no_fault status before now text wrote one = one_no_0 (wrote_expected status 0 before now text wrote one)

refused_no_fault : (status : ℕ) (before now : Option (List ℕ)) (text : List ℕ)
    → WritesText status 2 before now text → status ≡ 1 → ⊥
refused_no_fault status before now text wrote one = one_no_2 (wrote_expected status 2 before now text wrote one)

module _ {Z : Type 0} (asked : List (Vec ℕ Z)) where
  validation_asked : (how : Verification) (shows : Parts) → shown_by (map (λ w. w.items) asked) ≡ Some (how, shows)
      → asked_form asked ≡ Some (Validate how shows)
  validation_asked how shows shown =
      ap (λ o. option_map_or (λ (x : Verification × Parts). Some (Validate x.0 x.1)) o
      (other_form (map (λ w. w.items) asked))) shown

  -- a fact of the validation that was done is one of that which is asked for
  at_asked : (Fact : Verification → Parts → Type 0) (how : Verification) (shows : Parts)
      → asked_form asked ≡ Some (Validate how shows) → Fact how shows
      → (v : Verification) (p : Parts) → shown_by (map (λ w. w.items) asked) ≡ Some (v, p) → Fact v p
  unfolding how_of shows_of
  at_asked Fact how shows is fact v p shown =
      let same : Some (Validate how shows) ≡ Some (Validate v p) = sym is ∙ validation_asked v p shown in
      subst (λ q. Fact v q) (ap (λ o. shows_of o shows) same) (subst (λ w. Fact w shows) (ap (λ o. how_of o how) same) fact)

  -- ---- the ways to end

  module _ (status : ℕ) (told before now : Option (List ℕ)) where
    -- a session was answered
    pub validation_ends : (how : Verification) (shows : Parts) → asked_form asked ≡ Some (Validate how shows)
        → Says how shows status told before now → LeavesPrefix how shows told before now
        → EndsRun asked status told before now
    validation_ends how shows is says prefix = record {
      report =
          at_asked (λ v p. status ≡ 0 → Leaves (Reports v p) told before now) how shows is
          (λ done. leaves_reports how shows told before now (says.report done));
      derived = at_asked (λ v p. status ≡ 0 → Leaves (Derives v p) told before now) how shows is says.report;
      fault =
          λ none. subst (λ v. status ≡ 1 → Leaves (Fails v) told before now) (ap form_verifies (sym is)) says.fault;
      session =
          at_asked (λ v p. IfSession told (λ s. EndsAsSession s status before now)) how shows is
          (ends_as_session how shows status told before now says);
      completes =
          at_asked (λ v p. IfSession told (λ s. IsValid v s → EndsSecurely v p s status before now)) how shows is
          (ends_securely how shows status told before now says);
      grammar =
          at_asked (λ v p. EndsByGrammar status told before now) how shows is
          (ends_by_grammar how shows status told before now says);
      task = λ task other. absurd (no_task how shows task (sym is ∙ other));
      words = subst (λ form. EndsByWords form status before now) (sym is) says.form;
      prefix = at_asked (λ v p. LeavesPrefix v p told before now) how shows is prefix;
    }

    -- a task was done
    pub task_ends : (task : TaskKind) → asked_form asked ≡ Some (Task task) → EndsTask task status told before now
        → (goes_further task ≡ false → status ≡ 1 → Leaves (Fails ByList) told before now) → status ≢ 2
        → EndsRun asked status told before now
    unfolding task_of
    task_ends task is ends fault form = record {
      report = λ how shows shown. absurd (no_session how shows task (sym is ∙ validation_asked how shows shown));
      derived = λ how shows shown. absurd (no_session how shows task (sym is ∙ validation_asked how shows shown));
      fault = λ tells. subst (λ v. status ≡ 1 → Leaves (Fails v) told before now) (ap form_verifies (sym is))
          (fault (not_true (goes_further task) (ap tells_fault (sym is) ∙ tells)));
      session = λ how shows shown. absurd (no_session how shows task (sym is ∙ validation_asked how shows shown));
      completes = λ how shows shown. absurd (no_session how shows task (sym is ∙ validation_asked how shows shown));
      grammar = λ how shows shown. absurd (no_session how shows task (sym is ∙ validation_asked how shows shown));
      task =
          λ other same. subst (λ t. EndsTask t status told before now) (ap (λ o. task_of o task) (sym is ∙ same)) ends;
      words = subst (λ form. EndsByWords form status before now) (sym is) form;
      prefix = λ how shows shown. absurd (no_session how shows task (sym is ∙ validation_asked how shows shown));
    }

    -- neither was asked for
    pub other_ends : (found : Option Form) → asked_form asked ≡ found
        → ((how : Verification) (shows : Parts) → found ≡ Some (Validate how shows) → ⊥)
        → ((task : TaskKind) → found ≡ Some (Task task) → ⊥) → (tells_fault found ≡ true → status ≡ 1 → ⊥)
        → EndsByWords found status before now → EndsRun asked status told before now
    other_ends found is none_shown none_done none_failed ends = record {
      report = λ how shows shown. absurd (none_shown how shows (sym is ∙ validation_asked how shows shown));
      derived = λ how shows shown. absurd (none_shown how shows (sym is ∙ validation_asked how shows shown));
      fault = λ tells one. absurd (none_failed (ap tells_fault (sym is) ∙ tells) one);
      session = λ how shows shown. absurd (none_shown how shows (sym is ∙ validation_asked how shows shown));
      completes = λ how shows shown. absurd (none_shown how shows (sym is ∙ validation_asked how shows shown));
      grammar = λ how shows shown. absurd (none_shown how shows (sym is ∙ validation_asked how shows shown));
      task = λ task other. absurd (none_done task (sym is ∙ other));
      words = subst (λ form. EndsByWords form status before now) (sym is) ends;
      prefix = λ how shows shown. absurd (none_shown how shows (sym is ∙ validation_asked how shows shown));
    }

    -- a lookup below nested zones was counted
    pub bench_ends : (n : ℕ) → asked_form asked ≡ Some (Bench n) → WritesBench n status before now
        → (status ≡ 1 → ⊥) → EndsRun asked status told before now
    bench_ends n is wrote unfailed =
        other_ends (Some (Bench n)) is (bench_no_session n) (bench_no_task n) (λ none. unfailed) wrote

    -- the help was asked for
    pub help_ends : asked_form asked ≡ Some Help → WritesText status 0 before now help_text
        → EndsRun asked status told before now
    help_ends is wrote =
        other_ends (Some Help) is help_no_session help_no_task (λ none. done_no_fault status before now help_text wrote)
        wrote

    -- the version was
    pub version_ends : asked_form asked ≡ Some Version → WritesText status 0 before now version_text
        → EndsRun asked status told before now
    version_ends is wrote =
        other_ends (Some Version) is version_no_session version_no_task
        (λ none. done_no_fault status before now version_text wrote) wrote

    -- nothing was
    pub no_ends : asked_form asked ≡ None → WritesText status 2 before now bad_words_text
        → EndsRun asked status told before now
    no_ends is wrote =
        other_ends None is none_no_session none_no_task
        (λ none. refused_no_fault status before now bad_words_text wrote) wrote

    -- a server was asked
    pub ask_ends : (how : Verification) (explains : Bool) (protocol : Protocol) (server : ServerAddress)
        → asked_form asked ≡ Some (Ask how explains protocol server) → status ≢ 2 → EndsRun asked status told before now
    ask_ends how explains protocol server is form =
        other_ends (Some (Ask how explains protocol server)) is (ask_no_session how explains protocol server)
        (ask_no_task how explains protocol server) (λ tells. absurd (false_no_true tells)) form

    -- ---- over a server

    module _ {D L : Type 0} (network : Network D L RandDraws) (seed : Option ℕ) (dial : D) where
      -- a server was asked
      pub over_ends : (how : Verification) (explains : Bool) (protocol : Protocol) (server : ServerAddress) (new : D)
          → asked_form asked ≡ Some (Ask how explains protocol server)
          → EndsAsk (server_call network how explains protocol server seed) dial new status told before now
          → EndsOver network seed asked dial (Some new) status told before now
      unfolding how_of explains_of protocol_of server_of
      over_ends how explains protocol server new is ends = record {
        asks = λ v e p t same.
            let one : Some (Ask how explains protocol server) ≡ Some (Ask v e p t) = sym is ∙ same in
            subst (λ x. EndsAsk (server_call network v e p x seed) dial new status told before now)
            (ap (λ o. server_of o server) one)
            (subst (λ x. EndsAsk (server_call network v e x server seed) dial new status told before now)
            (ap (λ o. protocol_of o protocol) one)
            (subst (λ x. EndsAsk (server_call network v x protocol server seed) dial new status told before now)
            (ap (λ o. explains_of o explains) one)
            (subst (λ x. EndsAsk (server_call network x explains protocol server seed) dial new status told before now)
            (ap (λ o. how_of o how) one) ends)));
        given_back = λ none. absurd (let no : Some new ≡ None = none in cc);
        unused = λ none. absurd (let no : true ≡ false = ap asks_server (sym is) ∙ none in cc);
      }

      -- none was
      pub none_over : asks_server (asked_form asked) ≡ false
          → EndsOver network seed asked dial (Some dial) status told before now
      none_over none = record {
        asks = λ how explains protocol server is. absurd (let no : true ≡ false = ap asks_server (sym is) ∙ none in cc);
        given_back = λ lost. absurd (let no : Some dial ≡ None = lost in cc);
        unused = λ alone. refl;
      }

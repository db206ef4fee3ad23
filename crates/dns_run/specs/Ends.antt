-- What a run promises: how it ends by its words, its input and its output, and what it asks of a server (RFC 4035, 4.3 and 5). `told` is
-- what the source tells of the input, `before` and `now` what the sink told that it took.
use Rattle.std.specs.Prelude.{ℕ, ◌≡◌, List, Vec, Option, None, Some, IfSome}
use Rattle.dns_io.specs.Leaving.{Leaves}
use Rattle.dns_io.specs.declared.run_end.RunEnd.{RunEnd}
use Rattle.dns_asking.specs.Servers.{Network}
use Rattle.dns_multiplexer.specs.declared.draws.RandDraws.{RandDraws}
use Rattle.dns_run.specs.Asks.{server_call, EndsAsk}
use Rattle.dns_run.specs.Completing.{IsValid, EndsSecurely}
use Rattle.dns_run.specs.Forms.{asked_form, words_verify, IfAsks, IfAsksNone, IfTask, IfTellsFault, IfValidates}
use Rattle.dns_run.specs.Outcomes.{LeavesPrefix, Reports, Derives, Fails}
use Rattle.dns_run.specs.Runs.{EndsAsSession, EndsByGrammar, EndsByWords, IfSession}
use Rattle.dns_run.specs.Tasks.{EndsTask}

-- how a run ends, whatever it asks of a server
pub record EndsRun {Z : Type 0} (asked : List (Vec ℕ Z)) (status : ℕ) (told before now : Option (List ℕ)) : Type 0 where
  -- A report is that of a sound answer to the session, and its text fixes what it shows of the answer: the `View`, which is
  -- code, denial, sections and chains, and the trail where the words ask for it. Where the source tells no bytes, it is the
  -- report for some session.
  pub report : IfValidates asked (λ how shows. status ≡ 0 → Leaves (Reports how shows) told before now)
  -- That answer has a trail for the session, a derivation from the session's replies, in which what is Insecure has its ground.
  -- And what it denies holds in each zone in which the Secure NSEC or NSEC3 records of the reply are true.
  pub derived : IfValidates asked (λ how shows. status ≡ 0 → Leaves (Derives how shows) told before now)
  -- Where no server is asked, nothing explained and nothing denied, 1 is answered only with the line of an error that has its cause in the session.
  pub fault : IfTellsFault asked (status ≡ 1 → Leaves (Fails (words_verify asked)) told before now)
  -- What each session must end with, unless the status is 4 or more.
  pub session : IfValidates asked (λ how shows. IfSession told (λ s. EndsAsSession s status before now))
  -- A session that is valid for its query is reported with the records that were queried, each of them Secure, unless the
  -- status is 4 or more.
  pub completes : IfValidates asked (λ how shows. IfSession told (λ s. IsValid how s → EndsSecurely how shows s status before now))
  -- 3, and an input that is no session.
  pub grammar : IfValidates asked (λ how shows. EndsByGrammar status told before now)
  -- What a task must end with: 0 with the answers of the checks to the report behind a session, with the questions of the
  -- session's trail, with exactly the keys that are trusted after some sightings, or with the report, the trail and the causes of an
  -- answer; and 3, and an input that is outside the grammar. With 1 end questions, for an error without a trail, and an explanation
  -- of each error.
  pub task : IfTask asked (λ task. EndsTask task status told before now)
  -- Words that ask for a text, for a lookup below nested zones, or for nothing: 2 is for the latter alone. A lookup below nested
  -- zones ends with 0, or with 5 or 6.
  pub words : EndsByWords (asked_form asked) status before now
  -- Whatever the status, a prefix of a text that the input comes to was written.
  pub prefix : IfValidates asked (λ how shows. LeavesPrefix how shows told before now)

-- how a run ends that asks a server with these draws, and what becomes of the dialer that was given
pub record EndsOver {D L Z : Type 0} (network : Network D L RandDraws) (seed : Option ℕ) (asked : List (Vec ℕ Z)) (dial : D)
    (back : Option D) (status : ℕ) (told before now : Option (List ℕ)) : Type 0 where
  -- What asking a server must end with: 0 with the report of a sound answer that a validator gave over that server, 1 with the line of
  -- an error that it gave, or either with its trail and its causes, as the words ask, each with its cause in what the dialer met; and 3 for an input that is no session, for which nothing is
  -- asked. Ids and ports are drawn from the seed, or from the moment where there is none.
  pub asks : IfAsks asked (λ how explains protocol server. IfSome back (λ new.
      EndsAsk (server_call network how explains protocol server seed) dial new status told before now))
  -- The dialer is given back, unless memory ran out; and as it was given, where no server is asked.
  pub given_back : back ≡ None → status ≡ 6
  pub unused : IfAsksNone asked (back ≡ Some dial)

-- the same of a run's end, by what is told of its source, and of its sink before and after
abbrev pub RunsOver : {D L S W Z : Type 0} → Network D L RandDraws → Option ℕ → List (Vec ℕ Z) → D → RunEnd D → (S → Option (List ℕ))
    → (W → Option (List ℕ)) → S → W → W → Type 0
RunsOver network seed asked dial end left taken input before now =
    EndsOver network seed asked dial end.dial end.status (left input) (taken before) (taken now)

-- For private functions of this crate only: the verdict of one signature, by the first of the asks that are left.
use Rattle.std.specs.Prelude.{List, [], ◌∷◌, ◌++◌, Option, None, Some, if◌then◌else◌}
use Rattle.std.specs.Option.{option_map}
use Rattle.dns_model.specs.declared.trail.AskRef.{AskRef}
use Rattle.dns_model.specs.Records.{Rr, RrSet}
use Rattle.dns_rules.specs.Asking.{ask_of}
use Rattle.dns_rules.specs.Derivation.{StepContext, finished_answer}
use Rattle.dns_rules.specs.DerivationParts.{is_ask_for}
use Rattle.dns_rules.specs.Delegations.{ZoneVerdict}
use Rattle.dns_rules.specs.Marks.{Verdict, is_skipped, verdict_of}
use Rattle.dns_rules.specs.Marks as marks
use Rattle.dns_rules.specs.Unsigned.{unsigned_mark}
use Rattle.dns_model.specs.declared.proof.Proof.{Proof}

-- a signature that asks, by the first ask
abbrev pub asked_by : StepContext → RrSet → Rr → List AskRef → Option (Verdict × List AskRef)
asked_by g set r [] = None
asked_by g set r (ask ∷ left) =
    if is_ask_for g (ask_of set r) ask then Some (verdict_of g.judge set r (finished_answer g.earlier ask), left)
    else None

-- a signature that may ask; none where the first ask isn't its own
abbrev pub tried_by : StepContext → RrSet → Rr → List AskRef → Option (Verdict × List AskRef)
tried_by g set r asks = if is_skipped g.query set r then Some (marks.Failed, asks) else asked_by g set r asks

-- verdicts behind others, if there are some
abbrev pub behind : List Verdict → Option (List Verdict) → Option (List Verdict)
behind done rest = option_map (λ vs. done ++ vs) rest

-- what a zone leaves to what is unsigned in it
abbrev pub zone_proof : ZoneVerdict → Proof
zone_proof zone = (unsigned_mark zone).mark

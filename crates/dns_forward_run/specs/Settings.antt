-- For private functions only: what seats are made of.
use Rattle.std.specs.Prelude.{◌≡◌, All, List, map}
use Rattle.std.specs.Arc.{arc_value}
use Rattle.std.specs.declared.hash.BuildHasher as build_hasher
use Rattle.std.specs.declared.hash.Hasher as hasher
use Rattle.dns_evidence.specs.declared.verifier.Verifier as verifier
use Rattle.dns_evidence.specs.Listing.{ListedValue, answers_of}
use Rattle.dns_handle.specs.declared.protocol.Protocol.{Protocol}
use Rattle.dns_lookup.specs.Calls.{anchors_of, verifier_of}
use Rattle.dns_model.specs.Keys.{anchored}
use Rattle.dns_ports.specs.declared.port.Port as port
use Rattle.dns_listener.specs.Listening.{IsSilent, PortCountsValue, TrafficValue, traffic}
use Rattle.dns_seats.specs.declared.seat.Seat.{Seat}
use Rattle.dns_session.specs.SessionValue.{SessionValue}
use Rattle.dns_session_lookup.specs.Answering.{session_depth}
use Rattle.dns_session_lookup.specs.Verifying.{session_answers}
use Rattle.dns_session_lookup.specs.declared.verification.Verification.TheVariants.{ByList}
use Rattle.dns_forward_run.specs.Judging.{Judging}
use Rattle.dns_forward_run.specs.Retired.{met_by}
use Rattle.dns_forward_run.specs.declared.trust.Trust.{Trust}

-- the signatures that are listed
abbrev pub list_in : Trust → ListedValue
list_in trust = arc_value trust.list

-- what a session trusts: its keys, the signatures that it lists, and how deep it asks
pub record IsTrustOf (s : SessionValue) (trust : Trust) : Type 0 where
  pub anchors : anchored trust.anchors ≡ anchored s.anchors
  pub list : answers_of (list_in trust) ≡ session_answers ByList s
  pub depth : trust.depth ≡ session_depth s

-- by what its seats judge
abbrev pub judging_in : Trust → Protocol → Judging
judging_in trust protocol = record {
  answers = answers_of (list_in trust);
  is_anchored = anchored trust.anchors;
  protocol = protocol;
}

-- what came and went at a port
abbrev pub carried_by : {P : Type 0} → port.Ghosts P → P → TrafficValue
carried_by ports p = traffic (ports.received p) (ports.replied p)

-- nothing came or went at these ports yet
abbrev pub AreSilent : List TrafficValue → Type 0
AreSilent all = All IsSilent all

-- all judge so
abbrev pub JudgeAlike : Judging → List Judging → Type 0
JudgeAlike by all = All (λ j. j ≡ by) all

module _ {P H V K S T B : Type 0} {tests : verifier.Ghosts V} {builds : build_hasher.Ghosts S B} {hashes : hasher.Ghosts B} where
  -- by what a seat judges
  abbrev pub judging_of : Seat P H V K S T B tests builds hashes → Judging
  judging_of seat = record {
    answers = tests.answers (verifier_of seat.validator);
    is_anchored = anchored (anchors_of seat.validator);
    protocol = seat.protocol;
  }

  abbrev pub seats_judging : List (Seat P H V K S T B tests builds hashes) → List Judging
  seats_judging seats = map judging_of seats

  -- what came and went at the ports of seats
  abbrev pub seats_carried : port.Ghosts P → List (Seat P H V K S T B tests builds hashes) → List TrafficValue
  seats_carried ports seats = map (λ s. carried_by ports s.port) seats

-- what the ports of seats met
abbrev pub seats_met : {P H V K S T B : Type 0} {tests : verifier.Ghosts V} {builds : build_hasher.Ghosts S B} {hashes : hasher.Ghosts B}
    → port.Ghosts P → List (Seat P H V K S T B tests builds hashes) → List PortCountsValue
seats_met ports seats = map (λ s. met_by ports s.port) seats

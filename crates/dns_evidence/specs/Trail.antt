-- The parts of a trail as plain values (RFC 4035, 5).
use Rattle.dns_model.specs.Trails as trails
use Rattle.dns_model.specs.Trails.{HeardValue, EndingValue}
use Rattle.dns_evidence.specs.declared.trail.Reply.{Reply}
use Rattle.dns_evidence.specs.declared.trail.Reply.TheVariants.{Told, Fault}
use Rattle.dns_evidence.specs.declared.trail.Ending.{Ending}
use Rattle.dns_evidence.specs.declared.trail.Ending.TheVariants.{Answered, Denied, Foreign, Failed, Seen}

-- a reply says its records and whether it said that there are none, or is a fault
abbrev pub heard_value : Reply → HeardValue
heard_value (Told told) = trails.Records told.0 told.1
heard_value Fault = trails.Fault

-- an ending, with numbers for the class and type of a record of another class
abbrev pub ending_value : Ending → EndingValue
ending_value (Answered denial) = trails.Answered denial
ending_value (Denied proof) = trails.Denied proof
ending_value (Foreign owner class rtype) = trails.Foreign owner class.0 rtype.0
ending_value Failed = trails.Failed
ending_value Seen = trails.Seen

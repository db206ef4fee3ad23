-- Notify messages (RFC 1996, 3): a server is told that records have changed.
use Rattle.std.specs.Prelude.{Bool, List, [], Option, None, Some}
use Rattle.dns_model.specs.Records.{Rr, RrSet, Question, MessageValue}
use Rattle.dns_update.specs.Parts.{op_notify, message_of}

-- the records as they are now, where they are given: a hint (RFC 1996, 3.7)
abbrev pub hints_of : Option RrSet → List Rr
hints_of None = []
hints_of (Some set) = set.records

abbrev pub notify_message : Question → Option RrSet → Bool → MessageValue
notify_message question set use_edns = message_of op_notify question (hints_of set) [] use_edns

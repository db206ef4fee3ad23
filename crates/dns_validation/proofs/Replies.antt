-- What a step hears of a reply, by what is received.
use Rattle.std.proofs.Common.{◌≡◌, Bool, Ok, Err, refl, ap, ◌∙◌}
use Rattle.dns_model.specs.Records.{MessageValue}
use Rattle.dns_model.specs.SoundAnswers.{told_by}
use Rattle.dns_model.specs.Trails.{HeardValue, Records, Fault}
use Rattle.dns_handle.specs.Errors as seen
use Rattle.dns_handle.specs.Errors.{Reply, ErrorValue}
use Rattle.dns_validation.specs.Received.{ReceivedValue, Message, Failed, received_value, heard_from}

abbrev heard_of : ReceivedValue → HeardValue
heard_of (Message m empty) = Records (told_by m) empty
heard_of (Failed error) = Fault

heard_is : (reply : Reply) → heard_from reply ≡ heard_of (received_value reply)
heard_is (Ok response) = refl
heard_is (Err seen.Busy) = refl
heard_is (Err (seen.Dns (seen.ResponseCode code))) = refl
heard_is (Err (seen.Dns (seen.NoRecordsFound missing))) = refl
heard_is (Err (seen.Dns (seen.Nsec asked response proof))) = refl
heard_is (Err (seen.Dns seen.DnssecBogus)) = refl
heard_is (Err (seen.Message notice)) = refl
heard_is (Err (seen.Msg text)) = refl
heard_is (Err seen.NoConnections) = refl
heard_is (Err (seen.Proto error)) = refl
heard_is (Err (seen.Io kind)) = refl
heard_is (Err seen.Timeout) = refl
heard_is (Err seen.QueryCaseMismatch) = refl
heard_is (Err (seen.ForeignClassRecord owner class rtype)) = refl
heard_is (Err seen.Truncated) = refl
heard_is (Err seen.NoMemory) = refl

pub heard_message : (reply : Reply) (m : MessageValue) (empty : Bool) → received_value reply ≡ Message m empty
    → heard_from reply ≡ Records (told_by m) empty
heard_message reply m empty is = heard_is reply ∙ ap heard_of is

pub heard_fault : (reply : Reply) (error : ErrorValue) → received_value reply ≡ Failed error → heard_from reply ≡ Fault
heard_fault reply error is = heard_is reply ∙ ap heard_of is

-- What messages make of a zone transfer, each by the records of its answer section. A whole zone comes as its SOA, its other records
-- and its SOA again (RFC 5936, 2.2). Its changes come as its newest SOA, then for each of them an older SOA and what is deleted,
-- a newer SOA and what is added, and then the newest SOA again (RFC 1995, 4).
use Rattle.std.specs.Prelude.{ℕ, ◌-◌, Bool, true, false, not, ◌==◌, ◌&&◌, ◌%◌, List, [], ◌∷◌, length, Option, None, Some, Result, Ok, Err, count_by, slice_get, option_map, option_and_then, if◌then◌else◌}
use Rattle.dns_model.specs.RecordViews.{read_as}
use Rattle.dns_model.specs.Records.{Rr}
use Rattle.dns_model.specs.Types.{type_soa}
use Rattle.dns_model.specs.Views.{soa_in}
use Rattle.dns_handle.specs.declared.notice.Notice.{Notice}
use Rattle.dns_handle.specs.declared.notice.Notice.TheVariants.{TransferHasTrailingRecords, TransferIsIncremental}
use Rattle.dns_transfer.specs.declared.stage.Stage.{Stage}
use Rattle.dns_transfer.specs.declared.stage.Stage.TheVariants.{Nothing, FirstSoa, Whole, Changes, Ended}

-- whether changes were asked for, and how far the transfer has come
pub record Transfer : Type 0 where
  pub is_incremental : Bool
  pub stage : Stage

-- ---- SOAs

-- the serial number of a record that can be read as an SOA
abbrev pub serial_of : Rr → Option ℕ
serial_of r = option_map (λ soa. soa.serial) (read_as type_soa soa_in r)

-- an SOA, whether it can be read or not
abbrev pub is_soa : Rr → Bool
is_soa r = r.rtype == type_soa

abbrev pub soas : List Rr → ℕ
soas records = count_by is_soa records

abbrev pub last_of : List Rr → Option Rr
last_of records = slice_get records (length records - 1)

abbrev pub is_soa_if : Option Rr → Bool
is_soa_if None = false
is_soa_if (Some r) = is_soa r

abbrev pub is_serial : ℕ → Option ℕ → Bool
is_serial serial None = false
is_serial serial (Some other) = other == serial

-- the last record is an SOA of this serial number
abbrev pub ends_at : ℕ → List Rr → Bool
ends_at serial records = is_serial serial (option_and_then serial_of (last_of records))

-- ---- what more records make of a transfer: how far it comes by them, or what is wrong with them

-- the zone's other records, and then its SOA: nothing may follow it
abbrev pub records_come : List Rr → Result Stage Notice
records_come records =
    if soas records == 0
    then Ok Whole
    else (if (soas records == 1) && is_soa_if (last_of records) then Ok Ended else Err TransferHasTrailingRecords)

-- each SOA ends the records that are deleted or added, and begins the others
abbrev pub deletes_after : Bool → ℕ → Bool
deletes_after deletes count = if count % 2 == 0 then deletes else not deletes

abbrev pub changes_by : ℕ → Bool → List Rr → Stage
changes_by serial deletes records = if deletes && ends_at serial records then Ended else Changes serial deletes

-- the changes of a zone whose newest SOA has this serial number: that SOA at the place of an older one is the end
abbrev pub changes_come : ℕ → Bool → List Rr → Stage
changes_come serial deletes records = changes_by serial (deletes_after deletes (soas records)) records

-- a zone without other records: nothing may follow its SOA
abbrev pub empty_zone_comes : List Rr → Result Stage Notice
empty_zone_comes [] = Ok Ended
empty_zone_comes (r ∷ rest) = Err TransferHasTrailingRecords

-- the record behind the first SOA says what comes: its SOA again, an older SOA, or another record
abbrev pub second_is : Bool → ℕ → Option ℕ → List Rr → Result Stage Notice
second_is incremental serial None rest = records_come rest
second_is incremental serial (Some other) rest =
    if other == serial
    then empty_zone_comes rest
    else (if incremental then Ok (changes_come serial true rest) else Err TransferIsIncremental)

abbrev pub second_comes : Bool → ℕ → List Rr → Result Stage Notice
second_comes incremental serial [] = Ok (FirstSoa serial)
second_comes incremental serial (second ∷ rest) = second_is incremental serial (serial_of second) rest

-- the first record is the zone's newest SOA; without one there is no transfer
abbrev pub first_is : Bool → Option ℕ → List Rr → Result Stage Notice
first_is incremental None rest = Ok Ended
first_is incremental (Some serial) rest = second_comes incremental serial rest

abbrev pub first_comes : Bool → List Rr → Result Stage Notice
first_comes incremental [] = Ok Nothing
first_comes incremental (first ∷ rest) = first_is incremental (serial_of first) rest

-- after the end nothing counts
abbrev pub stage_by : Bool → Stage → List Rr → Result Stage Notice
stage_by incremental Nothing records = first_comes incremental records
stage_by incremental (FirstSoa serial) records = second_comes incremental serial records
stage_by incremental Whole records = records_come records
stage_by incremental (Changes serial deletes) records = Ok (changes_come serial deletes records)
stage_by incremental Ended records = Ok Ended

-- ---- one message

abbrev pub stage_after : Transfer → List Rr → Result Stage Notice
stage_after transfer records = stage_by transfer.is_incremental transfer.stage records

-- what is wrong ends the transfer
abbrev pub stage_or_end : Result Stage Notice → Stage
stage_or_end (Ok stage) = stage
stage_or_end (Err notice) = Ended

abbrev pub answer_by : Result Stage Notice → Result (Unit {0}) Notice
answer_by (Ok stage) = Ok tt
answer_by (Err notice) = Err notice

-- how far it comes by the records of a message, and what is answered
abbrev pub transfer_after : Transfer → List Rr → Transfer
transfer_after transfer records = record transfer { stage = stage_or_end (stage_after transfer records) }

abbrev pub answer_after : Transfer → List Rr → Result (Unit {0}) Notice
answer_after transfer records = answer_by (stage_after transfer records)

abbrev pub is_end : Stage → Bool
is_end Ended = true
is_end _ = false

abbrev pub is_ended : Transfer → Bool
is_ended transfer = is_end transfer.stage

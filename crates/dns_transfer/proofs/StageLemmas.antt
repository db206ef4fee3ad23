-- SOAs of records, counted one after another.
use Rattle.std.proofs.Common.{◌≡◌, ◌∙◌, ◌+◌, ◌<◌, ◌≤◌, ℕ, true, false, List, length, take, get_or, sym, ap}
use Rattle.std.proofs.lemmas.List.{take_all}
use Rattle.std.proofs.lemmas.List.Sums.{count_by_more_yes, count_by_more_no}
use Rattle.dns_model.specs.Records.{Rr}
use Rattle.dns_transfer.specs.Transfers.{is_soa, soas}

pub soas_yes : (records : List Rr) (i : ℕ) (r : Rr) → i < length records → r ≡ get_or records i r → is_soa r ≡ true
    → soas (take (i + 1) records) ≡ soas (take i records) + 1
soas_yes records i r within at is = count_by_more_yes is_soa records i r within (ap is_soa (sym at) ∙ is)

pub soas_no : (records : List Rr) (i : ℕ) (r : Rr) → i < length records → r ≡ get_or records i r → is_soa r ≡ false
    → soas (take (i + 1) records) ≡ soas (take i records)
soas_no records i r within at isnt = count_by_more_no is_soa records i r within (ap is_soa (sym at) ∙ isnt)

pub soas_all : (records : List Rr) (n : ℕ) → length records ≤ n → soas (take n records) ≡ soas records
soas_all records n all = ap soas (take_all n records all)

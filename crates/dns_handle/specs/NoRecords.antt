-- That there are no records to a question, and what a server says beside it (RFC 2308, 2 and 5).
use Rattle.std.specs.Prelude.{ℕ, List, [], Option, None}
use Rattle.dns_model.specs.Records.{Rr, Question}

-- an NS record, with the addresses of the server that it names
pub record ForwardNsValue : Type 0 where
  pub ns : Rr
  pub glue : List Rr

-- the question and the code; the SOA of the zone that says so, and the seconds for which it may be believed; the servers of
-- another zone; the records of the authority section
pub record NoRecordsValue : Type 0 where
  pub query : Question
  pub soa : Option Rr
  pub ns : List ForwardNsValue
  pub negative_ttl : Option ℕ
  pub response_code : ℕ
  pub authorities : List Rr

-- a question and a code, and nothing beside them
abbrev pub bare_no_records : Question → ℕ → NoRecordsValue
bare_no_records query code = record { query = query; soa = None; ns = []; negative_ttl = None; response_code = code; authorities = [] }

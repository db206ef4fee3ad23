-- A question, and by what its answer is judged (RFC 4035, 4.3 and 5).
use Rattle.std.specs.Prelude.{ℕ, Bool, List}
use Rattle.dns_model.specs.Records.{Question}
use Rattle.dns_master_file.specs.Reading.{LineValue}

pub record CallValue : Type 0 where
  pub query : Question
  pub depth : ℕ
  -- the records of trust anchors
  pub lines : List LineValue
  -- seconds since 1970
  pub moment : ℕ
  -- the CD bit of each query
  pub is_disabled : Bool
  -- milliseconds
  pub limit : ℕ

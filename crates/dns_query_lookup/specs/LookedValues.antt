-- What the lookup of a question came to.
use Rattle.std.specs.Prelude.{List}
use Rattle.dns_model.specs.Keys.{AnchorValue}
use Rattle.dns_handle.specs.Errors.{Reply}
use Rattle.dns_anchor_keys.specs.Trusting.{TrustedValue}
use Rattle.dns_query_handle.specs.Notes.{NoteValue}

pub record LookedValue : Type 0 where
  pub reply : Reply
  -- the keys by which it was judged
  pub anchors : List AnchorValue
  pub trusted : TrustedValue
  pub notes : List NoteValue

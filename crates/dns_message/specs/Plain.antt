-- For private functions of this crate only: fields of an rdata that stand as they are spelled.
use Rattle.std.specs.Prelude.{◌≡◌, ℕ, ◌≤◌, List, Some, slice_range}
use Rattle.dns_model.specs.Shapes.{Field}
use Rattle.dns_message.specs.RdataAt.{field_at}

-- the field's bytes are those from one place up to the next, before the end
pub record EndsAt (field : Field) (bytes : List ℕ) (pos stop next : ℕ) : Type 0 where
  pub told : field_at field bytes pos stop ≡ Some (slice_range bytes pos next, next)
  pub rises : pos ≤ next
  pub inside : next ≤ stop

-- For private functions of this crate only: labels of a text, and bytes that labels in wire form make (RFC 1035, 3.1 and 5.1).
use Rattle.std.specs.Prelude.{◌≡◌, ℕ, Bool, true, false, List, [], ◌∷◌, ◌++◌, Option, None, Some, Result, Ok, Err, ◌⊎◌}
use Rattle.std.specs.List.{list_all}
use Rattle.dns_model.specs.Names.{Label, Labels, wire, is_label}
use Rattle.dns_model.specs.NameText.{Read, after_dot, labels_read}
use Rattle.dns_model.specs.declared.name_error.NameError.{NameError}
use Rattle.dns_model.specs.declared.name_error.NameError.TheVariants.{NoMemory}

-- the labels of a text after those bytes of a label that were read
unfoldable pub read_at : Label → List ℕ → Read
read_at label text = labels_read (0 ∷ text) label text

-- what stands after a label: the end, or a dot and more
abbrev pub rest_read : Option (List ℕ) → Read
rest_read None = Ok ([], false)
rest_read (Some rest) = after_dot read_at rest

-- an error of a call that reads
abbrev pub FailsAs : {X : Type 0} → NameError → Result X NameError → Type 0
FailsAs fault read = (fault ≡ NoMemory) ⊎ (read ≡ Err fault)

-- bytes that labels in wire form make, with no closing zero byte
pub record IsRun (labels : Labels) (bytes : List ℕ) : Type 0 where
  pub good : list_all is_label labels ≡ true
  pub spelled : (above : Labels) → bytes ++ wire above ≡ wire (labels ++ above)

-- bytes that some labels make so
pub record HasRun (bytes : List ℕ) : Type 0 where
  pub labels : Labels
  pub run : IsRun labels bytes

-- the labels that a reading gave, in wire form
pub record IsLabels (read : Read) (bytes : List ℕ) (dotted : Bool) : Type 0 where
  pub labels : Labels
  pub run : IsRun labels bytes
  pub whole : read ≡ Ok (labels, dotted)

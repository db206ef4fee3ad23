-- What a call of the program comes to, before anything is written.
use Rattle.std.specs.Prelude.{ℕ, ◌≡◌, List, []}
use Rattle.dns_query_run.specs.declared.told.Told.{Told}

pub record ToldValue : Type 0 where
  -- the exit status
  pub status : ℕ
  -- what is written to the standard output
  pub text : List ℕ
  -- what is written to the file that the arguments name
  pub saved : List ℕ
  -- what is written to the standard error
  pub complaint : List ℕ

abbrev pub told_of : Told → ToldValue
told_of told = record {
  status = told.status;
  text = told.text.items;
  saved = told.saved.items;
  complaint = told.complaint.items;
}

-- a complaint with a status, and nothing else
pub record IsSilent (expected : ℕ) (complaint : List ℕ) (told : ToldValue) : Type 0 where
  pub ends : told.status ≡ expected
  pub silent : told.text ≡ []
  pub unsaved : told.saved ≡ []
  pub complains : told.complaint ≡ complaint

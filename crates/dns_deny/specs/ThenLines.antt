-- The form of a question behind a session.
use Rattle.std.specs.Prelude.{List, ℕ, codes, Option}
use Rattle.dns_model.specs.OptionSteps.{◌>>=◌}
use Rattle.dns_model.specs.Records.{Question}
use Rattle.dns_session.specs.Lines.{words, after, double, question_in}

-- `then NAME TYPE`, a question of class IN
abbrev pub then_line : List ℕ → Option Question
then_line line = do
  rest ← after (codes "then") (words line)
  fields ← double rest
  question_in fields.0 fields.1

-- The grammar of a text of sightings: lines of these forms in this order, and nothing after the last. Each ends with LF.
use Rattle.std.specs.Prelude.{ℕ, ◌+◌, nat_lt, List, [], ◌∷◌, map, codes, Option, None, Some, Result, Ok, Err, if◌then◌else◌}
use Rattle.std.specs.Option.{option_map}
use Rattle.dns_model.specs.ResultSteps.{◌>>=◌}
use Rattle.dns_session.specs.LinePlaces.{Place, start_of, one, many}
use Rattle.dns_session.specs.Lines.{fixed, algorithms_line, accept_line, end_line}
use Rattle.dns_session.specs.Grammar.{if_ended}
use Rattle.dns_roll.specs.RollLines.{zone_line, key_line, sight_line}
use Rattle.dns_roll.specs.RollValue.{RollValue, SightValue}

-- how many of some moments come before the first that is below the one before it; none where no moment falls
unfoldable pub fall_after : ℕ → List ℕ → Option ℕ
fall_after last [] = None
fall_after last (moment ∷ rest) = if nat_lt moment last then Some 0 else option_map (λ n. n + 1) (fall_after moment rest)

-- the same of the moments of sights
abbrev pub fall_of : List SightValue → Option ℕ
fall_of sights = fall_after 0 (map (λ s. s.moment) sights)

-- where moments fall, the first line that does so is bad, by the number of the first of them
abbrev pub if_rising : ℕ → Option ℕ → Result (Unit {0}) ℕ
if_rising number None = Ok tt
if_rising number (Some n) = Err (number + n)

-- the sights from a place on, as many lines as there are, and the place after them; or the number of the first whose moment falls
abbrev pub sights_at : Place → Result (List SightValue × Place) ℕ
sights_at start = if_rising start.number (fall_of (many sight_line start).0) >>= λ rises. Ok (many sight_line start)

-- what a text says from a place on, with which it ends; or the number of the first bad line
unfoldable pub roll_at : Place → Result RollValue ℕ
roll_at start = do
  head ← one (fixed (codes "dns-roll 1")) start
  zone ← one zone_line head.1
  algorithms ← one algorithms_line zone.1
  let keys = many key_line algorithms.1
  let accepts = many accept_line keys.1
  sights ← sights_at accepts.1
  last ← one end_line sights.1
  if_ended last.1 (record {
    zone = zone.0;
    algorithms = algorithms.0;
    keys = keys.0;
    accepts = accepts.0;
    sights = sights.0;
  })

-- what bytes say, or the number of the first line, from 1, that can't stand at its place
abbrev pub roll_of : List ℕ → Result RollValue ℕ
roll_of bytes = roll_at (start_of bytes)

-- A new exchange over a stream.
use Rattle.std.specs.Prelude.{ℕ, false, [], Option, None, Some}
use Rattle.dns_tcp.specs.Streams.{StreamValue}
use Rattle.dns_tcp.specs.Exchanges.{Parts}

abbrev pub maximum_of : Option ℕ → ℕ
maximum_of None = 32
maximum_of (Some max) = max

-- no request was sent yet
abbrev pub new_parts : {L R : Type 0} → L → StreamValue → R → ℕ → Option ℕ → Parts L R
new_parts link stream draws timeout max = record {
  link = link;
  stream = stream;
  core = record {
    settings = record { timeout = timeout; maximum = maximum_of max; buffer = 32; server = stream.peer };
    state = record { requests = []; outbound = [] };
    is_shutdown = false;
  };
  draws = draws;
}

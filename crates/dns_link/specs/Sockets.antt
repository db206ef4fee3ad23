-- What the adapters over std's sockets count, and kinds of std's errors.
use Rattle.std.specs.Prelude.{ℕ}
use Rattle.dns_link.specs.declared.clock.FixedClock.{FixedClock}
use Rattle.std.specs.declared.io.ErrorKind.{ErrorKind}
use Rattle.std.specs.declared.io.ErrorKind.TheVariants as kinds
use Rattle.dns_handle.specs.declared.io_kind.IoKind.{IoKind}
use Rattle.dns_handle.specs.declared.io_kind.IoKind.TheVariants.{PermissionDenied, ConnectionRefused, ConnectionReset, ConnectionAborted, NotConnected, AddrInUse, AddrNotAvailable, BrokenPipe, InvalidData, TimedOut, UnexpectedEof, Other}

-- what would have to be waited for longer timed out
abbrev pub io_kind_of : ErrorKind → IoKind
io_kind_of kinds.PermissionDenied = PermissionDenied
io_kind_of kinds.ConnectionRefused = ConnectionRefused
io_kind_of kinds.ConnectionReset = ConnectionReset
io_kind_of kinds.ConnectionAborted = ConnectionAborted
io_kind_of kinds.NotConnected = NotConnected
io_kind_of kinds.AddrInUse = AddrInUse
io_kind_of kinds.AddrNotAvailable = AddrNotAvailable
io_kind_of kinds.BrokenPipe = BrokenPipe
io_kind_of kinds.InvalidData = InvalidData
io_kind_of kinds.WouldBlock = TimedOut
io_kind_of kinds.TimedOut = TimedOut
io_kind_of kinds.UnexpectedEof = UnexpectedEof
io_kind_of _ = Other

-- the moment at which a clock stands
abbrev pub standing_at : FixedClock → ℕ
standing_at clock = clock.moment

-- For private functions only: a stream over a link in memory that never fails.
use Rattle.std.specs.Prelude.{◌≡◌, ◌<◌, ℕ, false, List, [], ◌++◌, Option, None, Some}
use Rattle.dns_link.specs.Pairs.{PairLinkValue}
use Rattle.dns_tcp.specs.declared.tcp_stream.TcpStream.{TcpStream}
use Rattle.dns_tcp.specs.Frames.{HasFrame, frame, lacking}
use Rattle.dns_tcp.specs.StreamViews.{link_of, state_of}

-- the bytes that were given to no message
abbrev pub unread : TcpStream PairLinkValue → List ℕ
unread stream = (state_of stream).part ++ (link_of stream).pieces.left

-- it didn't fail, and something is lacking of what was read of a frame
abbrev pub IsOpen : TcpStream PairLinkValue → Type 0
IsOpen stream = ((state_of stream).failed ≡ false) × (0 < lacking (state_of stream).part)

-- the next message was read, or there is none
abbrev pub GivesNext : TcpStream PairLinkValue → TcpStream PairLinkValue → Option (List ℕ) → Type 0
GivesNext old new None = unread old ≡ []
GivesNext old new (Some message) =
    (unread old ≡ frame message ++ unread new) × HasFrame message × IsOpen new

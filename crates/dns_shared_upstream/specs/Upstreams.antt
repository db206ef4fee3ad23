-- What contracts see of a holder of a shared connection.
use Rattle.std.specs.Prelude.{ℕ}
use Rattle.dns_link.specs.declared.link.Link as link
use Rattle.dns_multiplexer.specs.declared.draws.Draws as draws
use Rattle.turns.specs.Turns.{newcomer}
use Rattle.dns_shared_upstream.specs.declared.shared_upstream.SharedUpstream.{SharedUpstream}
use Rattle.dns_shared_upstream.specs.Holders.{value_of}
use Rattle.dns_shared_upstream.specs.Sends.{HolderValue, holding}

-- a holder that has seen as much of the exchange as another, and has made no call
abbrev pub beginner : HolderValue → HolderValue
beginner holder = holding (record holder.token { known = newcomer holder.token.known }) 0

-- what a holder's token knows, and the failures that its share counts
abbrev pub holder_of : {L R G T : Type 0} {links : link.Ghosts L} {ids : draws.Ghosts R} → SharedUpstream L R G T links ids
    → HolderValue
holder_of upstream = value_of upstream.holder

-- how many holders there may still be of its share, itself counted
abbrev pub parts_of : {L R G T : Type 0} {links : link.Ghosts L} {ids : draws.Ghosts R} → SharedUpstream L R G T links ids
    → ℕ
parts_of upstream = upstream.holder.share.parts

-- how often `send` was called, and how many faults it answered
abbrev pub sends_of : {L R G T : Type 0} {links : link.Ghosts L} {ids : draws.Ghosts R} → SharedUpstream L R G T links ids
    → ℕ
sends_of upstream = upstream.sends

abbrev pub faults_of : {L R G T : Type 0} {links : link.Ghosts L} {ids : draws.Ghosts R} → SharedUpstream L R G T links ids
    → ℕ
faults_of upstream = upstream.faults

use Rattle.std.proofs.Common.{Option}
use Rattle.std.specs.Option.{option_copied}
use Rattle.std.specs.declared.net.socket_addr.SocketAddr.{SocketAddr}
use Rattle.dns_query_files.specs.ResolverFiles.{IsFirstServer}
use Rattle.dns_query_files.specs.TextLines.{lines_left, lines_of}
use Rattle.dns_query_files.proofs.AnchorLemmas.{size_left}
use Rattle.dns_query_files.proofs.resolver_file.first_server.Given as goal

-- the server of the lines that are left is that of all
abbrev pub invariant-lines : goal.invariant-lines
invariant-lines l =
    (found : Option SocketAddr) → IsFirstServer (lines_left (option_copied l.rest)) found
    → IsFirstServer (lines_of l.text) found

abbrev pub decreases-lines : goal.decreases-lines
decreases-lines l = size_left (option_copied l.rest)

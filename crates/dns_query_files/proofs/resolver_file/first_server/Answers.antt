use Rattle.std.proofs.Common.{List, ℕ, Bor, Option, None, Some, subst, sym}
use Rattle.std.specs.Option.{option_copied}
use Rattle.std.specs.declared.net.socket_addr.SocketAddr.{SocketAddr}
use Rattle.dns_query_files.specs.ResolverFiles.{IsFirstServer, NoLine}
use Rattle.dns_query_files.specs.TextLines.{lines_left}
use Rattle.dns_query_files.proofs.ServerLemmas.{named_here, named_later}
use Rattle.dns_query_files.proofs.resolver_file.first_server.Goals as goal

-- the server of the lines of what is left
abbrev First : Option SocketAddr → Option (Bor (List ℕ)) → Type 0
First found rest = IsFirstServer (lines_left (option_copied rest)) found

pub returns-in-Some-server_of_line : goal.returns-in-Some-server_of_line
returns-in-Some-server_of_line c =
    let server = c.in-Some-server_of_line.server in
    c.lines.invariant (Some server)
    (subst (First (Some server)) (sym c.in-Some.is)
    (named_here c.in-Some.left.now c.cut_line.result.0.now (option_copied c.cut_line.result.1) server
    c.cut_line.ensures.cut c.in-Some-server_of_line.ensures.some))

pub lines-preserved : goal.lines-preserved
lines-preserved c = λ found later.
    c.lines.invariant found
    (subst (First found) (sym c.in-Some.is)
    (named_later c.in-Some.left.now c.cut_line.result.0.now (option_copied c.cut_line.result.1) found
    c.cut_line.ensures.cut c.in_default-server_of_line.ensures.none later))

pub returns : goal.returns
returns c = c.lines.invariant None (subst (First None) (sym c.in_default.is) NoLine)

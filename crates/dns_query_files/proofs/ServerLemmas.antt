-- The first line that names a server, found line by line.
use Rattle.std.proofs.Common.{◌≡◌, ℕ, List, ◌∷◌, Option, Some, subst, sym}
use Rattle.std.specs.declared.net.socket_addr.SocketAddr.{SocketAddr}
use Rattle.dns_query_files.specs.ResolverFiles.{IsFirstServer, NamesServer, Named, Later}
use Rattle.dns_query_files.specs.TextLines.{lines_left, lines_of}

-- the first line that is left names it
pub named_here : (text line : List ℕ) (more : Option (List ℕ)) (server : SocketAddr)
    → lines_of text ≡ line ∷ lines_left more → NamesServer line server
    → IsFirstServer (lines_of text) (Some server)
named_here text line more server cut named =
    subst (λ lines. IsFirstServer lines (Some server)) (sym cut) (Named line (lines_left more) server named)

-- it names none
pub named_later : (text line : List ℕ) (more : Option (List ℕ)) (found : Option SocketAddr)
    → lines_of text ≡ line ∷ lines_left more → ((server : SocketAddr) → ¬ (NamesServer line server))
    → IsFirstServer (lines_left more) found
    → IsFirstServer (lines_of text) found
named_later text line more found cut none later =
    subst (λ lines. IsFirstServer lines found) (sym cut) (Later line (lines_left more) found none later)

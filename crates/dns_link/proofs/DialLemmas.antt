-- What a list of links and sockets gives that weren't used.
use Rattle.std.proofs.Common.{◌≡◌, List, [], ◌∷◌, All, Result, Ok, Err, IfOk, arith}
use Rattle.std.proofs.Common as common
use Rattle.dns_handle.specs.declared.io_kind.IoKind.{IoKind}
use Rattle.dns_link.specs.Listed.{ListDatagramsValue, IsNewLink, IsNewSocket, first_or_refused}
use Rattle.dns_link.specs.Calls.{Tells, no_calls}
use Rattle.dns_link.specs.Moved.{IsNew}
use Rattle.dns_link.specs.Pairs.{PairLinkValue}

pub first_link : (xs : List (Result PairLinkValue IoKind)) → All IsNewLink xs
    → IfOk (first_or_refused xs) (λ link. IsNew link.counts (common.Some link.pieces.given))
first_link [] h = tt
first_link (Ok link ∷ xs) h = (h 0 (Ok link) (omega arith)).0
first_link (Err kind ∷ xs) h = tt

pub first_socket : (xs : List (Result ListDatagramsValue IoKind)) → All IsNewSocket xs
    → IfOk (first_or_refused xs) (λ socket. IsNew socket.counts (common.Some socket.given))
first_socket [] h = tt
first_socket (Ok socket ∷ xs) h = (h 0 (Ok socket) (omega arith)).0
first_socket (Err kind ∷ xs) h = tt

pub first_link_asked : (xs : List (Result PairLinkValue IoKind)) → All IsNewLink xs
    → IfOk (first_or_refused xs) (λ link. Tells link.calls no_calls)
first_link_asked [] h = tt
first_link_asked (Ok link ∷ xs) h = (h 0 (Ok link) (omega arith)).1
first_link_asked (Err kind ∷ xs) h = tt

pub first_socket_asked : (xs : List (Result ListDatagramsValue IoKind)) → All IsNewSocket xs
    → IfOk (first_or_refused xs) (λ socket. Tells socket.calls no_calls)
first_socket_asked [] h = tt
first_socket_asked (Ok socket ∷ xs) h = (h 0 (Ok socket) (omega arith)).1
first_socket_asked (Err kind ∷ xs) h = tt

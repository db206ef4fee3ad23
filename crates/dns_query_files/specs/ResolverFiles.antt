-- Whom a system asks, by its `resolv.conf` (resolv.conf(5): the keyword starts the line, and its value is on the same line).
use Rattle.std.specs.Prelude.{ℕ, suc, Bool, ◌≡◌, ◌==◌, ◌||◌, List, [], ◌∷◌, take, codes, if◌then◌else◌, Option, None, Some}
use Rattle.std.specs.Option.{option_and_then}
use Rattle.std.specs.declared.net.socket_addr.SocketAddr.{SocketAddr}
use Rattle.dns_text.specs.Codes.{after_prefix}
use Rattle.dns_query_words.specs.Servers.{IsAlone}

-- a space or a tab
abbrev pub is_blank : ℕ → Bool
is_blank byte = (byte == 32) || (byte == 9)

-- what is left after blanks
unfoldable pub after_blanks : List ℕ → List ℕ
after_blanks [] = []
after_blanks (byte ∷ rest) = if is_blank byte then after_blanks rest else byte ∷ rest

-- how many bytes stand before the first blank
unfoldable pub word_size : List ℕ → ℕ
word_size [] = 0
word_size (byte ∷ rest) = if is_blank byte then 0 else suc (word_size rest)

abbrev pub word_front : List ℕ → List ℕ
word_front bytes = take (word_size bytes) bytes

-- the word behind a blank
abbrev pub blanked_word : List ℕ → Option (List ℕ)
blanked_word [] = None
blanked_word (byte ∷ rest) = if is_blank byte then Some (word_front (after_blanks (byte ∷ rest))) else None

-- the word behind `nameserver`, if the line begins with that
abbrev pub server_word : List ℕ → Option (List ℕ)
server_word line = option_and_then blanked_word (after_prefix (codes "nameserver") line)

-- the line names this server by its address
abbrev pub NamesServer : List ℕ → SocketAddr → Type 0
NamesServer line server = (word : List ℕ) × (server_word line ≡ Some word) × IsAlone word server

-- the server of the first line that names one; none, where no line does
pub data IsFirstServer : List (List ℕ) → Option SocketAddr → Type 0 where
  NoLine : IsFirstServer [] None
  Named : (line : List ℕ) (rest : List (List ℕ)) (server : SocketAddr) → NamesServer line server → IsFirstServer (line ∷ rest) (Some server)
  Later : (line : List ℕ) (rest : List (List ℕ)) (found : Option SocketAddr) → ((server : SocketAddr) → ¬ (NamesServer line server))
      → IsFirstServer rest found → IsFirstServer (line ∷ rest) found

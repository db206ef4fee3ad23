-- Whom a call asks, and which trust anchors it has (RFC 7958; resolv.conf(5)).
use Rattle.std.specs.Prelude.{ℕ, ◌≡◌, ◌⊎◌, ◌<◌, List, length, Option, None, Some, Err}
use Rattle.std.specs.declared.net.socket_addr.SocketAddr.{SocketAddr}
use Rattle.dns_io.specs.Reading.{input_limit}
use Rattle.dns_query_files.specs.AnchorFiles.{anchors_in}
use Rattle.dns_query_files.specs.declared.anchors_error.AnchorsError.TheVariants.{NoMemory}
use Rattle.dns_query_files.specs.ResolverFiles.{IsFirstServer}
use Rattle.dns_query_files.specs.RootKeys.{root_keys_text}
use Rattle.dns_query_files.specs.TextLines.{lines_of}
use Rattle.dns_query_words.specs.Servers.{IsServer}
use Rattle.dns_query_run.specs.Complaints.{anchors_words, complaint}
use Rattle.dns_query_run.specs.Told.{IsSilent, ToldValue}
use Rattle.dns_query_run.specs.declared.files.AnchorsStop.{AnchorsStop}
use Rattle.dns_query_run.specs.declared.files.AnchorsStop.TheVariants.{TooLong, Bad}
use Rattle.dns_query_run.specs.declared.files.ServerStop.{ServerStop}
use Rattle.dns_query_run.specs.declared.files.ServerStop.TheVariants.{NoAddress, NoServer}

-- the server that a text names, or without one the first that the text of a `resolv.conf` names
abbrev pub IsServerFor : Option (List ℕ) → Option (List ℕ) → SocketAddr → Type 0
IsServerFor (Some text) resolver server = IsServer text server
IsServerFor None (Some lines) server = IsFirstServer (lines_of lines) (Some server)
IsServerFor None None server = ⊥

-- why nobody is asked: a text names no server; or without one the text of a `resolv.conf` names none, or isn't there
abbrev pub HasNoServer : ServerStop → Option (List ℕ) → Option (List ℕ) → Type 0
HasNoServer NoAddress (Some text) resolver = (server : SocketAddr) → ¬ (IsServer text server)
HasNoServer NoAddress None resolver = ⊥
HasNoServer NoServer (Some text) resolver = ⊥
HasNoServer NoServer None (Some lines) = IsFirstServer (lines_of lines) None
HasNoServer NoServer None None = Unit {0}

-- the arguments are to blame, or the system
abbrev pub status_without : ServerStop → ℕ
status_without NoAddress = 2
status_without NoServer = 4

-- why a text has no trust anchors: it is too long, or has a line that is none, or no line
abbrev pub HasNoAnchors : AnchorsStop → List ℕ → Type 0
HasNoAnchors TooLong text = input_limit < length text
HasNoAnchors (Bad error) text = (error ≡ NoMemory) ⊎ (anchors_in text ≡ Err error)

-- that is said then, unless memory ran out
abbrev pub IsUnread : AnchorsStop → ToldValue → Type 0
IsUnread (Bad NoMemory) told = ⊥
IsUnread stop told = IsSilent 4 (complaint (anchors_words stop)) told

-- trust anchors from a text, or the root's that stand in the program
abbrev pub anchors_text : Option (List ℕ) → List ℕ
anchors_text None = root_keys_text
anchors_text (Some text) = text

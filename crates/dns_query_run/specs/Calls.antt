-- What a call of the program comes to: by its arguments, then by its files, then by what the network answers (RFC 4035, 4.3 and 5).
use Rattle.std.specs.Prelude.{ℕ, ◌≡◌, ◌*◌, [], not, is_some, unwrap_or, Bool, List, Option, Result, Ok, Err}
use Rattle.std.specs.declared.net.socket_addr.SocketAddr.{SocketAddr}
use Rattle.dns_handle.specs.Requests.{plain_options}
use Rattle.dns_master_file.specs.Reading.{LineValue}
use Rattle.dns_anchor_keys.specs.declared.fault.AnchorsFault.{AnchorsFault}
use Rattle.dns_query_files.specs.AnchorFiles.{anchors_in}
use Rattle.dns_query_words.specs.Arguments.{ArgumentsValue}
use Rattle.dns_query_words.specs.Reading.{form_in}
use Rattle.dns_query_words.specs.declared.options.Switches.{Switches}
use Rattle.dns_query_words.specs.declared.arguments.Form.{Form}
use Rattle.dns_query_words.specs.declared.arguments.Form.TheVariants as form
use Rattle.dns_query_words.specs.declared.stop.WordsError.{WordsError}
use Rattle.dns_query_words.specs.declared.stop.WordsError.TheVariants as words
use Rattle.dns_query_lookup.specs.CallValues.{CallValue}
use Rattle.dns_query_lookup.specs.LookedValues.{LookedValue}
use Rattle.dns_query_lookup.specs.Servers.{AsksServer, Meanings}
use Rattle.dns_query_lookup.specs.declared.servers.Outside.{Outside}
use Rattle.dns_query_run.specs.Answers.{IsTold}
use Rattle.dns_query_run.specs.Complaints.{arguments_complaint, complaint, server_words}
use Rattle.dns_query_run.specs.Files.{HasNoAnchors, HasNoServer, IsServerFor, IsUnread, anchors_text, status_without}
use Rattle.dns_query_run.specs.FixedTexts.{help_text, version_text}
use Rattle.dns_query_run.specs.Told.{IsSilent, ToldValue}
use Rattle.dns_query_run.specs.declared.files.AnchorsStop.{AnchorsStop}
use Rattle.dns_query_run.specs.declared.files.ServerStop.{ServerStop}

-- how deep a lookup may ask, where no argument says it
abbrev pub depth_of : Option ℕ → ℕ
depth_of depth = unwrap_or depth plain_options.max_request_depth

-- the question of some arguments, with these trust anchors, at a moment
abbrev pub call_of : ArgumentsValue → List LineValue → ℕ → CallValue
call_of arguments lines moment = record {
  query = arguments.query;
  depth = depth_of arguments.depth;
  lines = lines;
  moment = moment;
  is_disabled = not arguments.switches.no_cd;
  limit = arguments.timeout * 1000;
}

-- a server is asked, and what that came to is told, and saved where a file is named
pub record TellsCall {D E T : Type 0} (meanings : Meanings D E T) (switches : Switches) (keeps : Bool) (call : CallValue)
    (outside : Outside D E T) (server : SocketAddr) (seed : ℕ) (told : ToldValue) : Type 0 where
  pub ended : Result LookedValue AnchorsFault
  pub asks : AsksServer meanings call outside server seed ended switches.tcp
  pub is_told : IsTold switches keeps call ended told

-- the server that the arguments or the system name is asked, with the trust anchors that the file says, or the root's. Ids and ports are
-- drawn from the seed, or from the moment where there is none
pub record TellsServer {D E T : Type 0} (meanings : Meanings D E T) (arguments : ArgumentsValue) (anchors resolver : Option (List ℕ))
    (outside : Outside D E T) (seed : Option ℕ) (told : ToldValue) : Type 0 where
  pub server : SocketAddr
  pub is_server : IsServerFor arguments.server resolver server
  pub lines : List LineValue
  pub trusts : anchors_in (anchors_text anchors) ≡ Ok lines
  pub moment : ℕ
  pub tells : TellsCall meanings arguments.switches (is_some arguments.save) (call_of arguments lines moment) outside server
      (unwrap_or seed moment) told

-- what a question comes to: nothing is asked, for one of these causes, which is said; or a server is asked
pub data TellsQuestion {D E T : Type 0} (meanings : Meanings D E T) (arguments : ArgumentsValue) (anchors resolver : Option (List ℕ))
    (outside : Outside D E T) (seed : Option ℕ) (told : ToldValue) : Type 0 where
  Unnamed : (stop : ServerStop) → HasNoServer stop arguments.server resolver
      → IsSilent (status_without stop) (complaint (server_words stop)) told
      → TellsQuestion meanings arguments anchors resolver outside seed told
  Untrusting : (stop : AnchorsStop) → HasNoAnchors stop (anchors_text anchors) → IsUnread stop told
      → TellsQuestion meanings arguments anchors resolver outside seed told
  Asked : TellsServer meanings arguments anchors resolver outside seed told
      → TellsQuestion meanings arguments anchors resolver outside seed told

-- a fixed text with status 0
pub record IsFixed (expected : List ℕ) (told : ToldValue) : Type 0 where
  pub ends : told.status ≡ 0
  pub tells : told.text ≡ expected
  pub unsaved : told.saved ≡ []
  pub quiet : told.complaint ≡ []

-- what arguments come to that ask for this
abbrev pub TellsForm : {D E T : Type 0} → Meanings D E T → List (List ℕ) → Result Form WordsError → Option (List ℕ) → Option (List ℕ)
    → Outside D E T → Option ℕ → ToldValue → Type 0
TellsForm meanings given (Ok (form.Ask arguments)) anchors resolver outside seed told =
    TellsQuestion meanings arguments anchors resolver outside seed told
TellsForm meanings given (Ok form.Help) anchors resolver outside seed told = IsFixed help_text told
TellsForm meanings given (Ok form.Version) anchors resolver outside seed told = IsFixed version_text told
TellsForm meanings given (Err (words.Refused reason place)) anchors resolver outside seed told =
    IsSilent 2 (arguments_complaint given reason place) told
TellsForm meanings given (Err words.NoMemory) anchors resolver outside seed told = ⊥

-- what arguments come to
abbrev pub TellsArguments : {D E T : Type 0} → Meanings D E T → List (List ℕ) → Option (List ℕ) → Option (List ℕ) → Outside D E T
    → Option ℕ → ToldValue → Type 0
TellsArguments meanings given anchors resolver outside seed told =
    TellsForm meanings given (form_in given) anchors resolver outside seed told

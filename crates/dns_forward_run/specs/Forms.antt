-- The words that the program takes, and its fixed texts.
use Rattle.std.specs.Prelude.{ℕ, ◌≤◌, ◌==◌, List, [], ◌∷◌, map, codes, Vec, Option, None, Some, if◌then◌else◌}
use Rattle.dns_model.specs.Keys.{bytes_eq}
use Rattle.dns_model.specs.OptionSteps.{◌>>=◌}
use Rattle.dns_asking.specs.Addresses.{address_in}
use Rattle.dns_io.specs.Runs.{Asked, AnInput, FixedText}
use Rattle.dns_text.specs.Words.{decimal_in}
use Rattle.dns_forward_run.specs.declared.form.Carried.{Carried}
use Rattle.dns_forward_run.specs.declared.form.Carried.TheVariants.{Datagrams, Connections}
use Rattle.dns_forward_run.specs.declared.form.Form.{Form}
use Rattle.dns_forward_run.specs.declared.form.Form.TheVariants.{Forward, Help, Version}

-- how many connections a word says: from 1 to 32, in digits without a zero before others
abbrev pub connections_in : List ℕ → Option ℕ
connections_in word = decimal_in 32 word >>= λ n. if n == 0 then None else Some n

-- how many requests of each client a word says: from 0 to 1,000, likewise
abbrev pub count_in : List ℕ → Option ℕ
count_in word = decimal_in 1000 word

-- to serve clients at an address, over a server at another, each client so often
abbrev pub service_in : Carried → List ℕ → List ℕ → List ℕ → Option Form
service_in carried listen upstream count = do
  local ← address_in listen
  server ← address_in upstream
  most ← count_in count
  Some (Forward (record { carried = carried; listen = local; upstream = server; count = most }))

-- what one word asks for
abbrev pub form_named : List ℕ → Option Form
form_named word =
    if bytes_eq word (codes "--help") then Some Help
    else if bytes_eq word (codes "--version") then Some Version
    else None

-- what four words ask for: `udp LISTEN UPSTREAM COUNT`
abbrev pub form_of_four : List ℕ → List ℕ → List ℕ → List ℕ → Option Form
form_of_four word listen upstream count =
    if bytes_eq word (codes "udp") then service_in Datagrams listen upstream count else None

-- what five words ask for: `tcp LISTEN UPSTREAM CONNECTIONS COUNT`
abbrev pub form_of_five : List ℕ → List ℕ → List ℕ → List ℕ → List ℕ → Option Form
form_of_five word listen upstream connections count =
    if bytes_eq word (codes "tcp")
    then (connections_in connections >>= λ n. service_in (Connections n) listen upstream count)
    else None

-- what words ask for
abbrev pub form_in : List (List ℕ) → Option Form
form_in (word ∷ []) = form_named word
form_in (word ∷ listen ∷ upstream ∷ count ∷ []) = form_of_four word listen upstream count
form_in (word ∷ listen ∷ upstream ∷ connections ∷ count ∷ []) = form_of_five word listen upstream connections count
form_in _ = None

-- what the words of a call ask for
abbrev pub asked_form : {Z : Type 0} → List (Vec ℕ Z) → Option Form
asked_form words = form_in (map (λ w. w.items) words)

-- a number of connections that words may say
abbrev pub AreFew : Carried → Type 0
AreFew Datagrams = Unit {0}
AreFew (Connections n) = (1 ≤ n) × (n ≤ 32)

-- so many clients are served side by side: one by datagrams, whoever sends them, and one by each connection
abbrev pub seats_of : Carried → ℕ
seats_of Datagrams = 1
seats_of (Connections n) = n

-- numbers are within their bounds
abbrev pub IsWithin : Option Form → Type 0
IsWithin (Some (Forward service)) = AreFew service.carried × (service.count ≤ 1000)
IsWithin _ = Unit {0}

-- what words ask of the outside
abbrev pub form_asks : Option Form → Asked
form_asks (Some (Forward service)) = AnInput
form_asks _ = FixedText

abbrev pub words_ask : {Z : Type 0} → List (Vec ℕ Z) → Asked
words_ask words = form_asks (asked_form words)

-- the program's forms, a line each
abbrev pub help_text : List ℕ
help_text = codes "dns_forward udp LISTEN UPSTREAM COUNT              reads a session and answers COUNT requests that come to LISTEN by datagrams, over the server UPSTREAM\ndns_forward tcp LISTEN UPSTREAM CONNECTIONS COUNT  the same over CONNECTIONS connections, COUNT requests each, and one connection to UPSTREAM\ndns_forward --help                                 writes these lines\ndns_forward --version                              writes the name and the version\n"

-- the program's name and version
abbrev pub version_text : List ℕ
version_text = codes "dns_forward 0.1.0\n"

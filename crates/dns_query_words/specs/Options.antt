-- The options of a call (form of this program, by the names of `dig` and `delv` where they have one).
use Rattle.std.specs.Prelude.{ℕ, List, true, false, codes, Option, None, Some, if◌then◌else◌}
use Rattle.dns_model.specs.Keys.{bytes_eq}
use Rattle.dns_query_words.specs.declared.options.Setting.{Setting}
use Rattle.dns_query_words.specs.declared.options.Setting.TheVariants.{Anchors, Depth, Save, Timeout}
use Rattle.dns_query_words.specs.declared.options.Switch.{Switch}
use Rattle.dns_query_words.specs.declared.options.Switch.TheVariants.{Tcp, NoCd, Trail, Chain, Json, Help, Version}
use Rattle.dns_query_words.specs.declared.options.Switches.{Switches}

-- the option without a value that a word is
abbrev pub switch_in : List ℕ → Option Switch
switch_in word =
    if bytes_eq word (codes "--tcp") then Some Tcp
    else if bytes_eq word (codes "--no-cd") then Some NoCd
    else if bytes_eq word (codes "--trail") then Some Trail
    else if bytes_eq word (codes "--chain") then Some Chain
    else if bytes_eq word (codes "--json") then Some Json
    else if bytes_eq word (codes "--help") then Some Help
    else if bytes_eq word (codes "--version") then Some Version
    else None

-- the option whose value is the next word
abbrev pub setting_in : List ℕ → Option Setting
setting_in word =
    if bytes_eq word (codes "--anchors") then Some Anchors
    else if bytes_eq word (codes "--depth") then Some Depth
    else if bytes_eq word (codes "--save") then Some Save
    else if bytes_eq word (codes "--timeout") then Some Timeout
    else None

abbrev pub no_switches : Switches
no_switches = record { tcp = false; no_cd = false; trail = false; chain = false; json = false; help = false; version = false }

-- the same options with one more
abbrev pub switched : Switch → Switches → Switches
switched Tcp switches = record switches { tcp = true }
switched NoCd switches = record switches { no_cd = true }
switched Trail switches = record switches { trail = true }
switched Chain switches = record switches { chain = true }
switched Json switches = record switches { json = true }
switched Help switches = record switches { help = true }
switched Version switches = record switches { version = true }

-- What a lookup takes of a cache and leaves in it (RFC 4035, 4.5, 4.7 and 5.3.3).
use Rattle.std.specs.Prelude.{ℕ, ◌≡◌, ◌≢◌, ◌≤◌, ◌+◌, ◌⊎◌, length, Bool, true, false, List, [], ◌++◌, Option, None, Some, slice_get, ◌∷◌}
use Rattle.std.specs.List.{AllByRecursion, list_any, count_by, sum_by}
use Rattle.std.specs.Option.{option_map_or}
use Rattle.dns_model.specs.declared.trail.MarkOrigin.{MarkOrigin}
use Rattle.dns_model.specs.declared.trail.MarkOrigin.TheVariants.{Table, Repeat, Cache}
use Rattle.dns_model.specs.Counts.{RoseBy}
use Rattle.dns_model.specs.Records.{MessageValue}
use Rattle.dns_model.specs.SoundAnswers.{PlacedSet, Told, placed_sets, told_by}
use Rattle.dns_model.specs.Trails.{AskedValue, JudgedSetValue}
use Rattle.dns_rules.specs.Asking.{judged_part}
use Rattle.dns_rules.specs.CacheEntries.{EntryValue, mark_of, sig_of, is_live, live}
use Rattle.dns_rules.specs.CacheKeys.{CacheKeyValue, key_of}
use Rattle.dns_rules.specs.Derivation.{top_step, told_in}
use Rattle.dns_rules.specs.Serving.{may_serve, still_holds}
use Rattle.dns_cache.specs.CacheLists.{CacheList, after_get, after_insert}
use Rattle.dns_cache.specs.Expiry.{expires_at}
use Rattle.dns_laws.specs.Complete.{are_secure}
use Rattle.dns_validation.specs.KeptSets.{AreOfSets, FoundSet, found_sets}
use Rattle.dns_validation.specs.LastKept.{last_found}
use Rattle.dns_validation.specs.Received.{Message, received_value}
use Rattle.dns_validation.specs.Machine.{Terms, StateValue, is_kept}
use Rattle.dns_validation.specs.Runs.{IsIn, Sent, Run}
use Rattle.dns_lookup.specs.Calls.{Call, terms_of_call}

-- ---- what was kept before a lookup

-- which entries may serve: those whose time isn't up, where the cache tells its entries, else some of that kind
abbrev pub ServeFrom : Option CacheList → ℕ → List EntryValue → Type 0
ServeFrom (Some list) now cached = cached ≡ live now list.entries
ServeFrom None now cached = AllByRecursion (λ e. is_live now e ≡ true) cached

-- the cache tells its entries, and the time of each is up
abbrev pub HasNone : Option CacheList → ℕ → Type 0
HasNone (Some list) now = live now list.entries ≡ []
HasNone None now = ⊥

-- or each whose time isn't up says Secure
abbrev pub HasSecureAlone : Option CacheList → ℕ → Type 0
HasSecureAlone (Some list) now = are_secure (live now list.entries) ≡ true
HasSecureAlone None now = ⊥

-- ---- what serves

abbrev pub is_from_cache : MarkOrigin → Bool
is_from_cache Cache = true
is_from_cache _ = false

-- or by an earlier step of the lookup: its entry was given too
abbrev pub was_kept : MarkOrigin → Bool
was_kept Table = false
was_kept (Repeat n) = true
was_kept Cache = true

-- how many sets of the steps are served by an entry that the cache gave
abbrev pub served_sets : List AskedValue → ℕ
served_sets steps = sum_by (λ step. count_by (λ set. was_kept set.origin) step.sets) steps

-- how many sets the steps have: for each of them the cache is asked once
abbrev pub all_sets : List AskedValue → ℕ
all_sets steps = sum_by (λ step. length step.sets) steps

-- a cache that tells its entries has one before the call that may serve the set
abbrev pub is_served : {H : Type 0} → Call H → PlacedSet → Bool
is_served call placed =
    option_map_or (λ list. list_any (may_serve call.judge call.query placed) (live call.now list.entries)) call.cache.before false

-- where the first set of the last step may be served, it is
abbrev pub ServesFirst : {H : Type 0} → Call H → List AskedValue → Type 0
ServesFirst call trail =
    (top : AskedValue) (told : Told) (placed : PlacedSet) → top_step trail ≡ Some top → told_in top.reply ≡ Some told
    → slice_get (placed_sets told) 0 ≡ Some placed → is_served call placed ≡ true
    → option_map_or (λ set. is_from_cache set.origin) (slice_get top.sets 0) false ≡ true

-- ---- what is kept

-- a lookup on these terms may add the entry: a run along its sends gives it out, from what was kept before. So a set that one of the sends
-- heard is kept by it: it isn't that an ask failed, it expires as its ttl and its chain say, and what it says holds of the set
pub record MayAdd (t : Terms) (cached : List EntryValue) (sends : List Sent) (e : EntryValue) : Type 0 where
  pub front : List Sent
  pub rest : List Sent
  pub along : front ++ rest ≡ sends
  pub state : StateValue
  pub run : Run t cached front state
  pub gives : IsIn e state.kept
  pub sent : Sent
  pub among : IsIn sent sends
  pub message : MessageValue
  pub empty : Bool
  pub received : received_value sent.reply ≡ Message message empty
  pub placed : PlacedSet
  pub heard : IsIn placed (judged_part sent.depth (told_by message))
  pub key : e.key ≡ key_of sent.ask.query placed.set
  pub expires : e.expires ≡ expires_at t.ranges t.now placed.set e.found e.chain
  pub answered : is_kept e.found ≡ true
  pub holds : still_holds t.judge placed e ≡ true

-- each entry afterwards is one from before or one that the lookup may add, whatever it answers
abbrev pub EachKept : Terms → List EntryValue → List Sent → Option CacheList → Option CacheList → Type 0
EachKept t cached sends (Some old) (Some new) =
    AllByRecursion (λ e. IsIn e old.entries ⊎ MayAdd t cached sends e) new.entries × (new.capacity ≡ old.capacity)
EachKept t cached sends None None = Unit {0}
EachKept t cached sends (Some old) None = ⊥
EachKept t cached sends None (Some new) = ⊥

-- ---- what is kept at the end

-- the first entry of a list is that of a set in the answer to the query, says what was found of it, and expires as a new one
pub record IsKeptFirst {H : Type 0} (call : Call H) (placed : PlacedSet) (set : JudgedSetValue) (list : CacheList) : Type 0 where
  pub entry : EntryValue
  pub first : slice_get list.entries 0 ≡ Some entry
  pub key : entry.key ≡ key_of call.query placed.set
  pub mark : mark_of entry.found ≡ set.mark
  pub sig : sig_of entry.found ≡ set.sig
  pub expires : entry.expires ≡ expires_at call.ranges call.now placed.set entry.found entry.chain
  pub holds : still_holds call.judge placed entry ≡ true

-- it is that of the last step's last set that the rules judged, unless the cache keeps nothing
abbrev pub KeepsLast : {H : Type 0} → Call H → List AskedValue → Type 0
KeepsLast call trail =
    (list : CacheList) (top : AskedValue) (told : Told) (placed : PlacedSet) (set : JudgedSetValue) → call.cache.after ≡ Some list → list.capacity ≢ 0
    → top_step trail ≡ Some top → told_in top.reply ≡ Some told → last_found trail (placed_sets told) top.sets ≡ Some (placed, set)
    → IsKeptFirst call placed set list

-- ---- what is put in

-- a cache goes from one list to another by gets, and by the insertion of these entries, in this order
pub data PutIn (now : ℕ) (from : CacheList) : List EntryValue → CacheList → Type 0 where
  Rests : (to : CacheList) → to ≡ from → PutIn now from [] to
  Gets : (entries : List EntryValue) (list to : CacheList) (key : CacheKeyValue) → PutIn now from entries list
      → to ≡ after_get key now list → PutIn now from entries to
  Puts : (entries all : List EntryValue) (list to : CacheList) (e : EntryValue) → PutIn now from entries list
      → all ≡ entries ++ e ∷ [] → to ≡ after_insert e list → PutIn now from all to

-- what was put in was found of these sets, one entry each, in order; what there was no room for then fell out again
pub record PutsEach (t : Terms) (found : List FoundSet) (from to : CacheList) : Type 0 where
  pub entries : List EntryValue
  pub through : PutIn t.now from entries to
  pub are : AreOfSets t found entries

-- so it is with each set of any step that the rules judged, and not by an ask that failed, in the order of the trail
abbrev pub PutsAll : {H : Type 0} → Call H → List AskedValue → Type 0
PutsAll call trail =
    (from to : CacheList) → call.cache.before ≡ Some from → call.cache.after ≡ Some to
    → PutsEach (terms_of_call call) (found_sets trail trail) from to

-- ---- all of these

-- how a lookup used the cache, by the trail of its answer
pub record UsesCache {H : Type 0} (call : Call H) (trail : List AskedValue) : Type 0 where
  -- it was hit at least once for each set that is served, by what was kept before or by what this lookup found, and at most once for each
  -- set of the trail
  pub hits : RoseBy (served_sets trail) call.cache.hits_before call.cache.hits_after
  pub few : call.cache.hits_after ≤ call.cache.hits_before + all_sets trail
  -- the first set of the last step is served from it, where an entry may serve
  pub serves : ServesFirst call trail
  -- each set that the rules judged in any step, and not by an ask that failed, was put in, in the order of the trail
  pub puts : PutsAll call trail
  -- the last set of the last step of which the rules found anything stands first in it afterwards
  pub keeps : KeepsLast call trail

-- For private functions of this crate only: how far a lookup has come along its validation and its cache.
use Rattle.std.specs.Prelude.{ℕ, ◌+◌, ◌≡◌, ◌≢◌, ◌⊎◌, IfSome, IsSome, slice_get, Bool, true, false, List, [], ◌∷◌, ◌++◌, Option, None, Some, Result, Ok, Err, ◌≤◌, length, if◌then◌else◌}
use Rattle.std.specs.List.{AllByRecursion, count_by, list_any}
use Rattle.std.specs.Option.{option_map, option_map_or}
use Rattle.dns_model.specs.Counts.{RoseBy}
use Rattle.dns_model.specs.declared.trail.MarkOrigin.{MarkOrigin}
use Rattle.dns_model.specs.declared.trail.MarkOrigin.TheVariants.{Repeat}
use Rattle.dns_model.specs.SoundAnswers.{PlacedSet, Told, placed_sets, told_by}
use Rattle.dns_model.specs.Trails.{AskedValue, JudgedSetValue}
use Rattle.dns_rules.specs.CacheKeys.{CacheKeyValue}
use Rattle.dns_rules.specs.CacheEntries.{EntryValue, live}
use Rattle.dns_rules.specs.Derivation.{top_step, told_in}
use Rattle.dns_rules.specs.Serving.{may_serve}
use Rattle.dns_cache.specs.CacheLists.{CacheList, IsCacheList, has_key, hit, is_hit, after_get, after_insert}
use Rattle.dns_cache.specs.Caches.{GivenWith, hits_after}
use Rattle.dns_cache.specs.declared.acceptance.Acceptance.TheVariants.{Other}
use Rattle.dns_cache.specs.declared.validation_cache.ValidationCache as cache
use Rattle.dns_handle.specs.Errors.{Reply, Dns, Nsec}
use Rattle.dns_flow.specs.Phases.{PhaseValue, Marked, NeedsDs, Trying, AtName, AtZone, Concluded, judged_ask}
use Rattle.dns_flow.specs.declared.phases.Seeker.{Seeker}
use Rattle.dns_flow.specs.declared.phases.Seeker.TheVariants.{Set, Ending}
use Rattle.dns_validation.specs.KeptSets.{AreOfSets, found_sets}
use Rattle.dns_validation.specs.LastKept.{last_found, IsOfSet}
use Rattle.dns_validation.specs.Machine.{Terms, SoFar, MadeValue, OpenValue, SeekingValue, StateValue, origin_of}
use Rattle.dns_validation.specs.Runs.{IsIn, Sent, Run, IsOut, HasTaken, moves}
use Rattle.dns_validation.specs.Validations.{asking_in}
use Rattle.dns_validation.specs.declared.validation.Asking.{Asking}
use Rattle.dns_lookup.specs.Caching.{ServeFrom, EachKept, PutIn, all_sets, is_from_cache, served_sets, was_kept}
use Rattle.dns_lookup.specs.Calls.{CacheUse}
use Rattle.dns_lookup.specs.LookupAnswers.{OfAnswer}

-- ---- a cache

-- what a cache tells, and how often it was hit
pub record CacheState : Type 0 where
  pub told : Option CacheList
  pub hits : ℕ

abbrev pub cache_state : {C : Type 0} → cache.Ghosts C → C → CacheState
cache_state caches c = record { told = caches.told c; hits = caches.hits c }

abbrev pub use_between : CacheState → CacheState → CacheUse
use_between old new = record { before = old.told; after = new.told; hits_before = old.hits; hits_after = new.hits }

-- entries are inserted one after another
abbrev pub after_inserts : List EntryValue → CacheList → CacheList
after_inserts [] list = list
after_inserts (e ∷ entries) list = after_inserts entries (after_insert e list)

-- the first of these entries were inserted, until memory ran out
pub record LeftByFront (kept : List EntryValue) (before after : Option CacheList) : Type 0 where
  pub some : List EntryValue
  pub rest : List EntryValue
  pub whole : some ++ rest ≡ kept
  pub left : after ≡ option_map (after_inserts some) before

-- what the insertion of these entries leaves
abbrev pub LeftByKeeping : {X E : Type 0} → List EntryValue → Option CacheList → Option CacheList → Result X E → Type 0
LeftByKeeping kept before after (Ok done) = after ≡ option_map (after_inserts kept) before
LeftByKeeping kept before after (Err e) = LeftByFront kept before after

-- what the call of a cache gave and left
pub record Got (key : CacheKeyValue) (now : ℕ) (old new : CacheState) (given : GivenWith) : Type 0 where
  pub hits : IfSome (option_map (λ p. p.0) given) (λ e. is_hit key now e ≡ true)
  pub told : IfSome old.told (λ list. option_map (λ p. p.0) given ≡ hit key now list)
  pub left : new.told ≡ option_map (after_get key now) old.told
  pub count : new.hits ≡ hits_after old.hits (let r : Result (Option EntryValue) ℕ = Ok (option_map (λ p. p.0) given) in r)
  pub known : IfSome old.told (λ list. IfSome given (λ p. p.1 ≢ Other))
  pub listed : IfSome old.told IsCacheList

-- a validation took what the cache gave, with whose acceptance its chain has, and nothing else
pub record Handed (may_give : GivenWith → Type 0) (t : Terms) (key : CacheKeyValue) (now : ℕ) (old new : CacheState) (s u : StateValue)
    : Type 0 where
  pub given : GivenWith
  pub gives : may_give given
  pub got : Got key now old new given
  pub taken : IsSome s.seeking → IsOut u ⊎ HasTaken t s given u
  pub idle : s.seeking ≡ None → u ≡ s

-- or memory ran out before
pub record NotHanded (key : CacheKeyValue) (now : ℕ) (old new : CacheState) (s u : StateValue) : Type 0 where
  pub left : (new.told ≡ old.told) ⊎ (new.told ≡ option_map (after_get key now) old.told)
  pub same : u ≡ s

abbrev pub HandsOn : {X E : Type 0} → (GivenWith → Type 0) → Terms → CacheKeyValue → ℕ → CacheState → CacheState → StateValue → StateValue
    → Result X E → Type 0
HandsOn may_give t key now old new s u (Ok done) = Handed may_give t key now old new s u
HandsOn may_give t key now old new s u (Err e) = NotHanded key now old new s u

-- nothing is left to be kept
abbrev pub kept_all : StateValue → StateValue
kept_all s = record s { kept = [] }

-- ---- what it has given out

-- one of the entries has the key
abbrev pub HasKeyIn : CacheKeyValue → List EntryValue → Type 0
HasKeyIn key [] = ⊥
HasKeyIn key (e ∷ entries) = (has_key key e ≡ true) ⊎ HasKeyIn key entries

abbrev pub is_repeat : MarkOrigin → Bool
is_repeat (Repeat n) = true
is_repeat _ = false

-- the validation gave the entry out, or another of its key with the same mark and signature, and none of its key after it
abbrev pub IsMade : List MadeValue → EntryValue → Type 0
IsMade made e = is_repeat (origin_of made e) ≡ true

-- of each that is still to be kept that is so, or another of its key follows
abbrev pub AreMade : List MadeValue → List EntryValue → Type 0
AreMade made [] = Unit {0}
AreMade made (e ∷ kept) = (IsMade made e ⊎ HasKeyIn e.key kept) × AreMade made kept

-- where an entry of a told cache comes from: from before the lookup, or from the validation, which may have another of its key to be kept
abbrev pub ComesFrom : List MadeValue → List EntryValue → List EntryValue → EntryValue → Type 0
ComesFrom made kept before e = IsIn e before ⊎ (IsMade made e ⊎ HasKeyIn e.key kept)

abbrev pub AllComeFrom : List MadeValue → List EntryValue → Option CacheList → Option CacheList → Type 0
AllComeFrom made kept (Some before) (Some now) = AllByRecursion (ComesFrom made kept before.entries) now.entries
AllComeFrom made kept _ _ = Unit {0}

-- ---- how many sets were served from the cache so far

abbrev pub from_cache : List JudgedSetValue → ℕ
from_cache sets = count_by (λ set. was_kept set.origin) sets

-- of the open steps, of the step whose set waits, and of an answer
unfoldable pub open_served : List OpenValue → ℕ
open_served [] = 0
open_served (f ∷ outer) = from_cache f.so_far.entries + open_served outer

unfoldable pub sought_served : Option SeekingValue → ℕ
sought_served None = 0
sought_served (Some k) = from_cache k.so_far.entries

unfoldable pub reply_served : Reply → ℕ
reply_served (Ok a) = served_sets a.trail
reply_served (Err (Dns (Nsec asked a proof))) = served_sets a.trail
reply_served (Err error) = 0

unfoldable pub ended_served : Option Reply → ℕ
ended_served None = 0
ended_served (Some reply) = reply_served reply

unfoldable pub served_in : StateValue → ℕ
served_in s = served_sets s.closed + (sought_served s.seeking + open_served s.steps) + ended_served s.ended

-- ---- for how many sets the cache was asked so far

-- a set that was asked for is at work, and no ending
unfoldable pub is_set : Seeker → Bool
is_set (Set placed) = true
is_set Ending = false

unfoldable pub works : PhaseValue → ℕ
works (Marked c) = 1
works (NeedsDs placed) = 1
works (Trying placed vs) = 1
works (AtName seeker class name) = if is_set seeker then 1 else 0
works (AtZone seeker class zone) = if is_set seeker then 1 else 0
works (Concluded o) = 0

-- those of the open steps, of the step whose set waits, and of an answer
unfoldable pub open_asked : List OpenValue → ℕ
open_asked [] = 0
open_asked (f ∷ outer) = length f.so_far.entries + works f.phase + open_asked outer

unfoldable pub sought_asked : Option SeekingValue → ℕ
sought_asked None = 0
sought_asked (Some k) = length k.so_far.entries

unfoldable pub reply_asked : Reply → ℕ
reply_asked (Ok a) = all_sets a.trail
reply_asked (Err (Dns (Nsec asked a proof))) = all_sets a.trail
reply_asked (Err error) = 0

-- those of the answer, or where there is none yet so many
unfoldable pub asked_by : Option Reply → ℕ → ℕ
asked_by None n = n
asked_by (Some reply) n = reply_asked reply

unfoldable pub asked_in : StateValue → ℕ
asked_in s = asked_by s.ended (all_sets s.closed + (sought_asked s.seeking + open_asked s.steps))

-- ---- the first set

-- the step at the bottom, whose sets are those of the answer
unfoldable pub bottom : List OpenValue → Option SeekingValue → Option SoFar
bottom [] None = None
bottom [] (Some k) = Some k.so_far
bottom (f ∷ []) seeking = Some f.so_far
bottom (f ∷ g ∷ outer) seeking = bottom (g ∷ outer) seeking

-- what was kept before may serve a set in the answer to the query
abbrev pub may_be_served : Terms → Option CacheList → PlacedSet → Bool
may_be_served t before placed = option_map_or (λ list. list_any (may_serve t.judge t.query placed) (live t.now list.entries)) before false

abbrev pub is_first_served : List JudgedSetValue → Bool
is_first_served sets = option_map_or (λ set. is_from_cache set.origin) (slice_get sets 0) false

-- the first set of a step is served where it may be
abbrev pub HeadServed : Terms → Option CacheList → Told → List JudgedSetValue → Type 0
HeadServed t before told sets =
    (placed : PlacedSet) → slice_get (placed_sets told) 0 ≡ Some placed → may_be_served t before placed ≡ true → is_first_served sets ≡ true

-- that of a trail's last step
abbrev pub TopServed : Terms → Option CacheList → List AskedValue → Type 0
TopServed t before trail =
    (top : AskedValue) (told : Told) → top_step trail ≡ Some top → told_in top.reply ≡ Some told → HeadServed t before told top.sets

-- nothing was given out yet, and the cache has what it had
pub record IsUntouched (s : StateValue) (before now : Option CacheList) : Type 0 where
  pub made : s.made ≡ []
  pub kept : s.kept ≡ []
  pub told : now ≡ before

-- before the first reply, before what was kept of the first set is known, behind that, and at the end
pub data FirstServed (t : Terms) (before : Option CacheList) (s : StateValue) (now : Option CacheList) : Type 0 where
  NotYet : s.steps ≡ [] → s.seeking ≡ None → s.pending ≡ Some (judged_ask t.query) → IsUntouched s before now → FirstServed t before s now
  AtFirst : (k : SeekingValue) → s.steps ≡ [] → s.seeking ≡ Some k → k.so_far.query ≡ t.query → k.so_far.entries ≡ []
      → slice_get (placed_sets (told_by k.so_far.message)) 0 ≡ Some k.placed → IsUntouched s before now → FirstServed t before s now
  Behind : (so_far : SoFar) → bottom s.steps s.seeking ≡ Some so_far → HeadServed t before (told_by so_far.message) so_far.entries
      → FirstServed t before s now
  Over : (reply : Reply) → s.ended ≡ Some reply → OfAnswer reply (λ a ending. TopServed t before a.trail) → FirstServed t before s now

-- ---- what is kept last

-- the first of those that are to be kept, the last of them in front, before those of a list
unfoldable pub front_entry : List EntryValue → List EntryValue → Option EntryValue
front_entry [] entries = slice_get entries 0
front_entry (x ∷ kept) entries = front_entry kept (x ∷ entries)

-- this is an entry that says what was found of a set in the answer to the query
pub record IsFirstOf (t : Terms) (placed : PlacedSet) (set : JudgedSetValue) (o : Option EntryValue) : Type 0 where
  pub entry : EntryValue
  pub first : o ≡ Some entry
  pub of : IsOfSet t t.query placed set entry

-- that set is the last one of a trail's last step of which the rules found anything
abbrev pub TopKept : Terms → List AskedValue → Option EntryValue → Type 0
TopKept t trail o =
    (top : AskedValue) (told : Told) (placed : PlacedSet) (set : JudgedSetValue) → top_step trail ≡ Some top → told_in top.reply ≡ Some told
    → last_found trail (placed_sets told) top.sets ≡ Some (placed, set) → IsFirstOf t placed set o

-- so it is of the first entry, once all of these are kept, of a cache that keeps anything
abbrev pub FirstKept : Terms → Reply → List EntryValue → Option CacheList → Type 0
FirstKept t reply kept None = Unit {0}
FirstKept t reply kept (Some list) =
    (list.capacity ≡ 0 → ⊥) → OfAnswer reply (λ a ending. TopKept t a.trail (front_entry kept list.entries))

-- ---- what is put in

-- what was given out so far, with what is still to be, was found of the sets of the steps that have ended, whatever steps come behind; at the end
-- of those of the answer's trail
abbrev pub GaveOf : Terms → Option Reply → List AskedValue → List EntryValue → Type 0
GaveOf t None closed given = (more : List AskedValue) → AreOfSets t (found_sets (closed ++ more) closed) given
GaveOf t (Some reply) closed given = OfAnswer reply (λ a ending. AreOfSets t (found_sets a.trail a.trail) given)

abbrev pub HasGiven : Terms → StateValue → List EntryValue → Type 0
HasGiven t s out = GaveOf t s.ended s.closed (out ++ s.kept)

-- a told cache was given these
abbrev pub PutsTold : ℕ → Option CacheList → List EntryValue → Option CacheList → Type 0
PutsTold now (Some from) entries (Some to) = PutIn now from entries to
PutsTold now _ entries _ = Unit {0}

-- at the end
abbrev pub LastKept : Terms → StateValue → Option CacheList → Type 0
LastKept t s now = (reply : Reply) → s.ended ≡ Some reply → FirstKept t reply s.kept now

-- ---- the way

-- along a run, from what was kept before
pub record IsOn (t : Terms) (before : CacheState) (sends : List Sent) (s : StateValue) (now : CacheState) : Type 0 where
  pub cached : List EntryValue
  pub served : ServeFrom before.told t.now cached
  pub run : Run t cached sends s
  pub settled : moves s ≡ false
  pub left : EachKept t cached sends before.told now.told
  pub come : AllComeFrom s.made s.kept before.told now.told
  pub made : AreMade s.made s.kept
  pub hits : RoseBy (served_in s) before.hits now.hits
  pub few : now.hits ≤ before.hits + asked_in s
  pub first : FirstServed t before.told s now.told
  pub last : LastKept t s now.told
  pub out : List EntryValue
  pub gave : HasGiven t s out
  pub puts : PutsTold t.now before.told out now.told

-- or memory ran out, behind a run from these entries
pub record IsLost (t : Terms) (before : CacheState) (cached : List EntryValue) (sends : List Sent) (s : StateValue) (now : CacheState) : Type 0 where
  pub out : IsOut s
  pub left : EachKept t cached sends before.told now.told

-- along these sends a run came to some state, and memory ran out
pub record IsStopped (t : Terms) (before : CacheState) (sends : List Sent) (now : CacheState) : Type 0 where
  pub cached : List EntryValue
  pub served : ServeFrom before.told t.now cached
  pub state : StateValue
  pub run : Run t cached sends state
  pub left : EachKept t cached sends before.told now.told

pub record Stops (t : Terms) (before : CacheState) (sends : List Sent) (s : StateValue) (now : CacheState) : Type 0 where
  pub out : IsOut s
  pub behind : IsStopped t before sends now

abbrev pub IsBehind : Terms → CacheState → List Sent → StateValue → CacheState → Type 0
IsBehind t before sends s now = IsOn t before sends s now ⊎ Stops t before sends s now

-- it wants a reply, or nothing more
pub record Wants (t : Terms) (before : CacheState) (sends : List Sent) (asking : Option Asking) (s : StateValue) (now : CacheState) : Type 0 where
  pub on : IsOn t before sends s now
  pub rests : s.kept ≡ []
  pub sought : s.seeking ≡ None
  pub asks : asking ≡ asking_in t s

-- to what a lookup comes that is served from its cache, until it wants a reply
abbrev pub ServedTo : {E : Type 0} → Terms → CacheState → List Sent → Result (Option Asking) E → StateValue → CacheState → Type 0
ServedTo t before sends (Ok asking) s now =
    Wants t before sends asking s now ⊎ (Stops t before sends s now × (asking ≡ None))
ServedTo t before sends (Err e) s now = IsStopped t before sends now

-- where memory had run out, it wants nothing
abbrev pub LostTo : {E : Type 0} → Terms → CacheState → List EntryValue → List Sent → Result (Option Asking) E → StateValue → CacheState → Type 0
LostTo t before cached sends (Ok asking) s now = IsLost t before cached sends s now × (asking ≡ None)
LostTo t before cached sends (Err e) s now = EachKept t cached sends before.told now.told

-- whatever was kept before, and whatever was sent
pub record ServesOn {E : Type 0} (t : Terms) (s : StateValue) (now : CacheState) (result : Result (Option Asking) E) (u : StateValue) (after : CacheState)
    : Type 0 where
  pub goes : (before : CacheState) (sends : List Sent) → IsOn t before sends s now → ServedTo t before sends result u after
  pub rests : (before : CacheState) (cached : List EntryValue) (sends : List Sent) → IsLost t before cached sends s now
      → LostTo t before cached sends result u after

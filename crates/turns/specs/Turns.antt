-- One value that threads take turns with. It is in a queue of one place, or out with the one pass that has the turn. It has a
-- journal of events, the first one first, which only grows. Each pass knows a beginning of the journal, and which events in it are
-- its own.
use Rattle.std.specs.Prelude.{ℕ, ◌+◌, ◌==◌, ◌≡◌, ◌≢◌, ◌≤◌, ◌⊎◌, Bool, true, false, nat_lt, List, [], ◌∷◌, ◌++◌, length, take, drop, slice_get, Option, None, Some, if◌then◌else◌}
use Rattle.std.specs.List.{list_any}
use mathlib.Core.Option.{some}
use lib.ListN.{get_elem?}

-- the value: what it was founded with, and its journal
pub record Held (S E : Type 0) : Type 0 where
  pub about : S
  pub journal : List E

-- a pass: what the value was founded with, where that is known; whether the value is out with this pass; the journal as it was
-- seen; its own events, each with its place in the journal; and of the last join the two journals that it put together, and what
-- the second pass knew of the founding
pub record Known (S E : Type 0) : Type 0 where
  pub about : Option S
  pub is_out : Bool
  pub journal : List E
  pub own : List (ℕ × E)
  pub told : List E
  pub heard : List E
  pub heard_about : Option S

module _ {E : Type 0} where
  -- the list begins with another
  abbrev pub Begins : List E → List E → Type 0
  Begins whole start = take (length start) whole ≡ start

  -- ---- events with their places

  abbrev pub has_place : ℕ → List (ℕ × E) → Bool
  has_place place own = list_any (λ call. call.0 == place) own

  -- each stands in the journal at its place
  unfoldable pub Stands : List E → List (ℕ × E) → Type 0
  Stands journal [] = Unit {0}
  Stands journal (call ∷ own) = (slice_get journal call.0 ≡ Some call.1) × Stands journal own

  -- the places rise, from one on
  unfoldable pub Rises : ℕ → List (ℕ × E) → Type 0
  Rises low [] = Unit {0}
  Rises low (call ∷ own) = (low ≤ call.0) × Rises (call.0 + 1) own

  -- no event is in both
  abbrev pub Apart : List (ℕ × E) → List (ℕ × E) → Type 0
  Apart own other = (place : ℕ) → has_place place own ≡ true → has_place place other ≡ true → ⊥

  -- the events of a list that begins at a place
  unfoldable pub placed_from : ℕ → List E → List (ℕ × E)
  placed_from place [] = []
  placed_from place (event ∷ rest) = (place, event) ∷ placed_from (place + 1) rest

  -- one more, where its place is
  unfoldable pub put_in : ℕ × E → List (ℕ × E) → List (ℕ × E)
  put_in call [] = call ∷ []
  put_in call (next ∷ own) = if nat_lt call.0 next.0 then call ∷ next ∷ own else next ∷ put_in call own

  -- those of both, by their places
  unfoldable pub merged : List (ℕ × E) → List (ℕ × E) → List (ℕ × E)
  merged [] own = own
  merged (call ∷ calls) own = put_in call (merged calls own)

  abbrev pub longer : List E → List E → List E
  longer one other = if nat_lt (length one) (length other) then other else one

module _ {S : Type 0} where
  -- who knows nothing of the founding agrees with all
  abbrev pub Agrees : Option S → Option S → Type 0
  Agrees None known = Unit {0}
  Agrees (Some about) known = known ≡ Some about

  abbrev pub either : Option S → Option S → Option S
  either None other = other
  either (Some about) other = Some about

module _ {S E : Type 0} where
  -- ---- what steps make of a pass

  -- the first pass, with which the value is until it gives it away
  abbrev pub founder : Known S E
  founder = record
      { about = None; is_out = true; journal = []; own = []; told = []; heard = []; heard_about = None }

  -- the value is taken: all of its journal is seen
  abbrev pub taken : Known S E → Held S E → Known S E
  taken v x = record v { about = Some x.about; is_out = true; journal = x.journal }

  -- it is given back: what stands behind the journal that was seen is the pass's own
  abbrev pub given : Known S E → Held S E → Known S E
  given v x = record v {
    about = Some x.about;
    is_out = false;
    journal = x.journal;
    own = v.own ++ placed_from (length v.journal) (drop (length v.journal) x.journal);
  }

  -- a new pass, which has seen as much and has no event of its own
  abbrev pub newcomer : Known S E → Known S E
  newcomer v = record v { own = [] }

  -- one pass for two
  abbrev pub joined : Known S E → Known S E → Known S E
  joined v w = record {
    about = either v.about w.about;
    is_out = false;
    journal = longer v.journal w.journal;
    own = merged v.own w.own;
    told = v.journal;
    heard = w.journal;
    heard_about = w.about;
  }

  -- what is left of the other
  abbrev pub spent : Known S E
  spent = record
      { about = None; is_out = false; journal = []; own = []; told = []; heard = []; heard_about = None }

  -- ---- the rule

  -- what a pass knows is so: its journals begin the value's, and its own events stand in what it has seen, each once, in order
  pub record Fits (about : Option S) (journal : List E) (v : Known S E) : Type 0 where
    pub about_is : Agrees v.about about
    pub seen : Begins journal v.journal
    pub told : Begins v.journal v.told
    pub heard : Begins v.journal v.heard
    pub agreed : Agrees v.heard_about v.about
    pub stands : Stands v.journal v.own
    pub rises : Rises 0 v.own

  -- the queue has the value, which is out with nobody
  pub record IsIn (items : List (Held S E)) (views : List (Known S E)) (about : Option S) (journal : List E) : Type 0 where
    pub value : Held S E
    pub items_are : items ≡ value ∷ []
    pub about_is : about ≡ Some value.about
    pub journal_is : journal ≡ value.journal
    pub idle : (seat : ℕ) (v : Known S E) → get_elem? views seat ≡ some v → v.is_out ≡ false

  -- the queue is empty, and one pass has the value, and knows all of it
  pub record IsOut (items : List (Held S E)) (views : List (Known S E)) (about : Option S) (journal : List E) : Type 0 where
    pub empty : items ≡ []
    pub holder : ℕ
    pub known : Known S E
    pub held : get_elem? views holder ≡ some known
    pub marked : known.is_out ≡ true
    pub about_is : about ≡ known.about
    pub journal_is : journal ≡ known.journal
    pub only : (seat : ℕ) (v : Known S E) → get_elem? views seat ≡ some v → v.is_out ≡ true → seat ≡ holder

  -- there is one journal. The value is in the queue or out, what each pass knows fits, and no event is the own one of two passes
  pub record Kept (items : List (Held S E)) (views : List (Known S E)) : Type 0 where
    pub about : Option S
    pub journal : List E
    pub place : IsIn items views about journal ⊎ IsOut items views about journal
    pub each : (seat : ℕ) (v : Known S E) → get_elem? views seat ≡ some v → Fits about journal v
    pub apart : (seat other : ℕ) (v w : Known S E) → seat ≢ other → get_elem? views seat ≡ some v
        → get_elem? views other ≡ some w → Apart v.own w.own

  -- ---- what steps tell

  -- who takes the value finds a journal that begins with the one that it had seen
  abbrev pub Takes : Known S E → Held S E → Known S E → Type 0
  Takes v x w = Begins x.journal v.journal × Agrees v.about (Some x.about) × (w ≡ taken v x)

  -- what a pass can learn of itself
  pub record IsSound (v : Known S E) : Type 0 where
    pub told : Begins v.journal v.told
    pub heard : Begins v.journal v.heard
    pub agreed : Agrees v.heard_about v.about
    pub stands : Stands v.journal v.own
    pub rises : Rises 0 v.own

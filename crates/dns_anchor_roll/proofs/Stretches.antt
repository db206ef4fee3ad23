-- Laws of stretches, of revoked keys and of who accepts.
use Rattle.std.proofs.Common.{◌≡◌, ℕ, ◌+◌, ◌≤◌, ◌↔◌, Bool, true, false, cond, not, ◌&&◌, ◌||◌, List, [], ◌∷◌, ◌++◌, Option, None, Some, is_some, slice_get, refl, sym, ap, ◌∙◌}
use Rattle.std.specs.Prelude.{nat_le}
use Rattle.std.specs.List.{filter, find, list_all, list_any}
use Rattle.std.specs.Option.{option_map, option_map_or}
use Rattle.std.proofs.lemmas.Bool.{and_parts, leb-true, le-leb}
use Rattle.dns_model.specs.Records.{Rr}
use Rattle.dns_rules.specs.Validity.{is_good_by}
use Rattle.dns_anchor_roll.specs.FollowedKeys.{is_given}
use Rattle.dns_anchor_roll.specs.Sightings.{SightingValue}
use Rattle.dns_anchor_roll.specs.Facts.{Fact, accepting, is_good_by_any, judge_at, may_accept, original_ttl, tried}
use Rattle.dns_anchor_roll.specs.Trust.{Start, accepted, facts, hold_down, is_accepted, is_held, is_over, is_revoked_by, next_fact, oldest, stretch, trusted, trusted_by, was_held}
use Rattle.dns_anchor_roll.specs.Laws.{CameThrough, GapEndsStretch, IsTrustOfStretches, RevokedForGood, TrustedBeforeAccept}
use Rattle.dns_anchor_roll.proofs.Lists.{any_filter, is_some_find}
use Rattle.dns_anchor_roll.proofs.Steps.{stretch_cons}
use Rattle.dns_anchor_roll.proofs.Examined.{from_any}

-- ---- a revoked key

or_right : (a b : Bool) → b ≡ true → (a || b) ≡ true
or_right true b h = refl
or_right false b h = h

revoked_later : (start : Start) (later list : List SightingValue) (key : List ℕ) → is_revoked_by (facts start list) key ≡ true
    → is_revoked_by (facts start (later ++ list)) key ≡ true
unfolding facts
revoked_later start [] list key h = h
revoked_later start (s ∷ later) list key h =
    or_right ((next_fact start (facts start (later ++ list)) s).revokes key) (is_revoked_by (facts start (later ++ list)) key)
    (revoked_later start later list key h)

pub revoked_law : RevokedForGood
revoked_law start later list key h =
    ap (λ b. not b && (is_given start.given key || was_held key (accepted (facts start (later ++ list))))) (revoked_later start later list key h)

-- ---- who accepts

weaker_step : (a b c d : Bool) → (a ≡ true → b ≡ true) → (c ≡ true → d ≡ true) → (a || c) ≡ true → (b || d) ≡ true
weaker_step true b c d here later h = ap (λ x. x || d) (here refl)
weaker_step false b c d here later h = or_right b d (later h)

any_weaker : {X : Type 0} (p q : X → Bool) → ((x : X) → p x ≡ true → q x ≡ true) → (xs : List X) → list_any p xs ≡ true → list_any q xs ≡ true
any_weaker p q each [] h = h
any_weaker p q each (x ∷ xs) h = weaker_step (p x) (q x) (list_any p xs) (list_any q xs) (each x) (any_weaker p q each xs) h

some_map : {X Y : Type 0} (f : X → Y) (o : Option X) → is_some (option_map f o) ≡ is_some o
some_map f None = refl
some_map f (Some x) = refl

pub accept_law : TrustedBeforeAccept
accept_law start past s h =
    let j = judge_at start.answers s.moment in
    let may = may_accept start.zone (trusted start past) in
    let signs = is_good_by_any j s.set (filter may s.set.records) in
    let found : list_any signs (tried start.zone s.set) ≡ true =
    sym (is_some_find signs (tried start.zone s.set)) ∙ sym (some_map original_ttl (find signs (tried start.zone s.set))) ∙ h in
    from_any signs (list_any may s.set.records)
    (λ sig e. any_weaker (λ r. may r && is_good_by j s.set sig r) may (λ r k. (and_parts (may r) (is_good_by j s.set sig r) k).0) s.set.records
    (sym (any_filter (is_good_by j s.set sig) may s.set.records) ∙ e))
    (tried start.zone s.set) found

-- ---- stretches

-- a stretch ends before what doesn't show the key
stretch_gap : (key : List ℕ) (xs older : List Fact) (gap : Fact) → gap.shows key ≡ false → stretch key (xs ++ gap ∷ older) ≡ stretch key xs
stretch_gap key [] older gap h = stretch_cons key gap older ∙ ap (λ b. cond b (gap ∷ stretch key older) []) h
stretch_gap key (x ∷ xs) older gap h =
    stretch_cons key x (xs ++ gap ∷ older)
    ∙ ap (λ fs. cond (x.shows key) (x ∷ fs) []) (stretch_gap key xs older gap h)
    ∙ sym (stretch_cons key x xs)

or_again : (a b c : Bool) → (a || (b || c)) ≡ ((a || b) || c)
or_again true b c = refl
or_again false b c = refl

pub gap_law : GapEndsStretch
unfolding was_held
gap_law [] older gap key h =
    ap (λ fs. option_map_or (λ first. is_over first gap.moment) (oldest fs) false || was_held key older) (stretch_gap key [] older gap h)
gap_law (f ∷ later) older gap key h =
    ap (λ fs. option_map_or (λ first. is_over first f.moment) (oldest fs) false || was_held key (later ++ gap ∷ older))
    (stretch_gap key (f ∷ later) older gap h)
    ∙ ap (λ b. is_held key f later || b) (gap_law later older gap key h)
    ∙ or_again (is_held key f later) (was_held key later) (was_held key older)

-- ---- a stretch that ends a hold-down

-- the stretch at the front of a list, and what comes before it in time
record Fronts (key : List ℕ) (all : List Fact) : Type 0 where
  before : List Fact
  parts : all ≡ stretch key all ++ before
  shows : list_all (λ f. f.shows key) (stretch key all) ≡ true
  gap : option_map_or (λ f. f.shows key) (slice_get before 0) false ≡ false

front_step : (key : List ℕ) (f : Fact) (all : List Fact) (b : Bool) → f.shows key ≡ b → Fronts key all → Fronts key (f ∷ all)
front_step key f all true e fronts =
    let is : stretch key (f ∷ all) ≡ f ∷ stretch key all = stretch_cons key f all ∙ ap (λ c. cond c (f ∷ stretch key all) []) e in
    record {
      before = fronts.before;
      parts = ap (λ fs. f ∷ fs) fronts.parts ∙ sym (ap (λ fs. fs ++ fronts.before) is);
      shows = ap (list_all (λ g. g.shows key)) is ∙ ap (λ c. c && list_all (λ g. g.shows key) (stretch key all)) e ∙ fronts.shows;
      gap = fronts.gap;
    }
front_step key f all false e fronts =
    let is : stretch key (f ∷ all) ≡ [] = stretch_cons key f all ∙ ap (λ c. cond c (f ∷ stretch key all) []) e in
    record {
      before = f ∷ all;
      parts = sym (ap (λ fs. fs ++ f ∷ all) is);
      shows = ap (list_all (λ g. g.shows key)) is;
      gap = e;
    }

fronts_of : (key : List ℕ) (all : List Fact) → Fronts key all
fronts_of key [] = record { before = []; parts = refl; shows = refl; gap = refl }
fronts_of key (f ∷ all) = front_step key f all (f.shows key) refl (fronts_of key all)

-- the first in time of a stretch whose hold-down is over
record Over (moment : ℕ) (all : List Fact) : Type 0 where
  first : Fact
  begins : oldest all ≡ Some first
  over : first.moment + hold_down first ≤ moment

over_of : (moment : ℕ) (all : List Fact) (o : Option Fact) → oldest all ≡ o
    → option_map_or (λ first. is_over first moment) o false ≡ true → Over moment all
over_of moment all None e h = cc
over_of moment all (Some first) e h = record { first = first; begins = e; over = leb-true (first.moment + hold_down first) moment h }

newest_is : (key : List ℕ) (f : Fact) (all : List Fact) (b : Bool) → f.shows key ≡ b → (first : Fact)
    → oldest (stretch key (f ∷ all)) ≡ Some first → slice_get (stretch key (f ∷ all)) 0 ≡ Some f
newest_is key f all true e first h =
    ap (λ fs. slice_get fs 0) (stretch_cons key f all ∙ ap (λ c. cond c (f ∷ stretch key all) []) e)
newest_is key f all false e first h =
    let none : oldest (stretch key (f ∷ all)) ≡ None = ap oldest (stretch_cons key f all ∙ ap (λ c. cond c (f ∷ stretch key all) []) e) in
    cc

came_here : (key : List ℕ) (f : Fact) (older : List Fact) → is_held key f older ≡ true → CameThrough key (f ∷ older)
came_here key f older h =
    let fronts = fronts_of key (f ∷ older) in
    let over = over_of f.moment (stretch key (f ∷ older)) (oldest (stretch key (f ∷ older))) refl h in
    record {
      later = [];
      held = stretch key (f ∷ older);
      before = fronts.before;
      last = f;
      first = over.first;
      parts = fronts.parts;
      shows = fronts.shows;
      gap = fronts.gap;
      newest = newest_is key f older (f.shows key) refl over.first over.begins;
      begins = over.begins;
      over = over.over;
    }

came_before : (key : List ℕ) (f : Fact) (older : List Fact) → CameThrough key older → CameThrough key (f ∷ older)
came_before key f older came = record {
  later = f ∷ came.later;
  held = came.held;
  before = came.before;
  last = came.last;
  first = came.first;
  parts = ap (λ fs. f ∷ fs) came.parts;
  shows = came.shows;
  gap = came.gap;
  newest = came.newest;
  begins = came.begins;
  over = came.over;
}

came_step : (key : List ℕ) (f : Fact) (older : List Fact) (b c : Bool) → is_held key f older ≡ b → (b || c) ≡ true
    → (c ≡ true → CameThrough key older) → CameThrough key (f ∷ older)
came_step key f older true c e h later = came_here key f older e
came_step key f older false c e h later = came_before key f older (later h)

came : (key : List ℕ) (all : List Fact) → was_held key all ≡ true → CameThrough key all
unfolding was_held
came key [] h = cc
came key (f ∷ older) h = came_step key f older (is_held key f older) (was_held key older) refl h (came key older)

-- ---- and back

held_later : (key : List ℕ) (later rest : List Fact) → was_held key rest ≡ true → was_held key (later ++ rest) ≡ true
unfolding was_held
held_later key [] rest h = h
held_later key (f ∷ later) rest h = or_right (is_held key f (later ++ rest)) (was_held key (later ++ rest)) (held_later key later rest h)

stretch_before : (key : List ℕ) (before : List Fact) → option_map_or (λ f. f.shows key) (slice_get before 0) false ≡ false
    → stretch key before ≡ []
stretch_before key [] h = refl
stretch_before key (f ∷ before) h = stretch_cons key f before ∙ ap (λ c. cond c (f ∷ stretch key before) []) h

stretch_held : (key : List ℕ) (held before : List Fact) → list_all (λ f. f.shows key) held ≡ true
    → option_map_or (λ f. f.shows key) (slice_get before 0) false ≡ false → stretch key (held ++ before) ≡ held
stretch_held key [] before shows gap = stretch_before key before gap
stretch_held key (f ∷ held) before shows gap =
    let both = and_parts (f.shows key) (list_all (λ g. g.shows key) held) shows in
    stretch_cons key f (held ++ before)
    ∙ ap (λ c. cond c (f ∷ stretch key (held ++ before)) []) both.0
    ∙ ap (λ fs. f ∷ fs) (stretch_held key held before both.1 gap)

held_front : (key : List ℕ) (held before : List Fact) (last first : Fact) → slice_get held 0 ≡ Some last → oldest held ≡ Some first
    → stretch key (held ++ before) ≡ held → first.moment + hold_down first ≤ last.moment → was_held key (held ++ before) ≡ true
unfolding was_held
held_front key [] before last first newest begins whole over = cc
held_front key (f ∷ held) before last first newest begins whole over =
    let same : f ≡ last = cc in
    ap (λ fs. option_map_or (λ g. is_over g f.moment) (oldest fs) false || was_held key (held ++ before)) whole
    ∙ ap (λ o. option_map_or (λ g. is_over g f.moment) o false || was_held key (held ++ before)) begins
    ∙ ap (λ (g : Fact). nat_le (first.moment + hold_down first) g.moment || was_held key (held ++ before)) same
    ∙ ap (λ b. b || was_held key (held ++ before)) (le-leb (first.moment + hold_down first) last.moment over)

back : (key : List ℕ) (all : List Fact) → CameThrough key all → was_held key all ≡ true
back key all came =
    ap (was_held key) came.parts
    ∙ held_later key came.later (came.held ++ came.before)
    (held_front key came.held came.before came.last came.first came.newest came.begins
    (stretch_held key came.held came.before came.shows came.gap) came.over)

pub stretch_law : IsTrustOfStretches
stretch_law key all = (came key all, back key all)

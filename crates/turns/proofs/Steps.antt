-- Each step of taking turns keeps the rule.
use Rattle.std.proofs.Common.{◌≡◌, ◌≢◌, ℕ, ◌+◌, ◌≤◌, Bool, true, false, true≢false, List, [], ◌∷◌, ◌++◌, length, drop, set, Option, None, Some, sym, refl, ap, ◌∙◌, subst, inl, inr, ◌⊎◌, ⊎_elim, arith, zero, suc}
use mathlib.Core.Option.{some, some-injective, some-ne-none}
use lib.ListN.{get_elem?}
use Rattle.crossbeam_queue.specs.Fifo.{Pushes, Pops, Forks, Merges, Learns}
use Rattle.std.proofs.lemmas.Bool.{cases_eq}
use Rattle.crossbeam_queue.proofs.Lists.{at_longer, at_set, at_snoc, set_again, set_else}
use Rattle.turns.specs.Turns.{Held, Known, Begins, Agrees, either, Stands, Rises, Apart, has_place, placed_from, longer, founder, taken, given, newcomer, joined, spent, Fits, IsIn, IsOut, Kept, Takes, IsSound}
use Rattle.turns.proofs.Beginnings.{begins_itself, begins_none, begins_on, begins_length, rest_of, longer_begins, begins_longer, begins_longer_too}
use Rattle.turns.proofs.Places.{place_below, stands_on, stands_both, placed_stands, placed_has, placed_rises, rises_both, has_appended, merged_has, merged_stands, merged_rises}

module _ {E : Type 0} where
  apart_turned : (one other : List (ℕ × E)) → Apart one other → Apart other one
  apart_turned one other apart = λ place here there. apart place there here

module _ {S : Type 0} where
  pub agrees_on : (one mid other : Option S) → Agrees one mid → Agrees mid other → Agrees one other
  agrees_on None mid other is next = tt
  agrees_on (Some about) None other is next = cc
  agrees_on (Some about) (Some known) other is next = next ∙ is

  agrees_to : (one mid other : Option S) → Agrees one mid → mid ≡ other → Agrees one other
  agrees_to None mid other is same = tt
  agrees_to (Some about) mid other is same = sym same ∙ is

  agrees_itself : (one : Option S) → Agrees one one
  agrees_itself None = tt
  agrees_itself (Some about) = refl

  -- what two passes know agrees
  agrees_too : (one other known : Option S) → Agrees one known → Agrees other known → Agrees other (either one other)
  agrees_too None other known first second = agrees_itself other
  agrees_too (Some about) other known first second = subst (λ (a : Option S). Agrees other a) first second

  agrees_either : (one other known : Option S) → Agrees one known → Agrees other known → Agrees (either one other) known
  agrees_either None other known first second = second
  agrees_either (Some about) other known first second = first

module _ {S E : Type 0} where
  -- ---- views after a step

  abbrev pub All : (ℕ → Known S E → Type 0) → List (Known S E) → Type 0
  All F views = (seat : ℕ) (v : Known S E) → get_elem? views seat ≡ some v → F seat v

  all_set : (F : ℕ → Known S E → Type 0) (views : List (Known S E)) (pass : ℕ) (w : Known S E) → F pass w
      → ((seat : ℕ) (v : Known S E) → seat ≢ pass → get_elem? views seat ≡ some v → F seat v) → All F (set views pass w)
  all_set F views pass w mine others seat v at = ⊎_elim
      (λ (is : (seat ≡ pass) × (w ≡ v)). subst (λ (y : ℕ × Known S E). F y.0 y.1) (λ i. (sym is.0 i, is.1 i)) mine)
      (λ (is : (seat ≢ pass) × (get_elem? views seat ≡ some v)). others seat v is.0 is.1)
      (at_set views pass seat w v at)

  abbrev pub AllApart : List (Known S E) → Type 0
  AllApart views = (seat other : ℕ) (v w : Known S E) → seat ≢ other → get_elem? views seat ≡ some v
      → get_elem? views other ≡ some w → Apart v.own w.own

  -- one view is another, whose own events no other pass has
  apart_set : (views : List (Known S E)) (pass : ℕ) (w : Known S E) → AllApart views
      → ((seat : ℕ) (v : Known S E) → seat ≢ pass → get_elem? views seat ≡ some v → Apart w.own v.own)
      → AllApart (set views pass w)
  apart_set views pass w apart new seat other u v differ at there = ⊎_elim
      (λ (one : (seat ≡ pass) × (w ≡ u)). ⊎_elim
      (λ (two : (other ≡ pass) × (w ≡ v)). absurd (differ (one.0 ∙ sym two.0)))
      (λ (two : (other ≢ pass) × (get_elem? views other ≡ some v)). rw (sym one.1) (new other v two.0 two.1))
      (at_set views pass other w v there))
      (λ (one : (seat ≢ pass) × (get_elem? views seat ≡ some u)). ⊎_elim
      (λ (two : (other ≡ pass) × (w ≡ v)). rw (sym two.1) (apart_turned w.own u.own (new seat u one.0 one.1)))
      (λ (two : (other ≢ pass) × (get_elem? views other ≡ some v)). apart seat other u v differ one.1 two.1)
      (at_set views pass other w v there))
      (at_set views pass seat w u at)

  at_both : (views : List (Known S E)) (seat : ℕ) (v w : Known S E) → get_elem? views seat ≡ some v
      → get_elem? views seat ≡ some w → v ≡ w
  at_both views seat v w one other = some-injective v w (sym one ∙ other)

  at_end : (views : List (Known S E)) (v w : Known S E) (seat : ℕ) → (get_elem? views seat ≡ some w → ⊥)
      → get_elem? (views ++ v ∷ []) seat ≡ some w → seat ≡ length views
  at_end [] v w zero new at = refl
  at_end [] v w (suc seat) new at = absurd (some-ne-none w (sym at))
  at_end (x ∷ xs) v w zero new at = absurd (new at)
  at_end (x ∷ xs) v w (suc seat) new at = ap suc (at_end xs v w seat new at)

  below_end : (views : List (Known S E)) (w : Known S E) (seat : ℕ) → get_elem? views seat ≡ some w → seat ≡ length views → ⊥
  below_end [] w seat at is = some-ne-none w (sym at)
  below_end (x ∷ xs) w zero at is = omega (arith, is)
  below_end (x ∷ xs) w (suc seat) at is = below_end xs w seat at (omega (arith, is))

  -- ---- who has the turn

  -- a pass that has the value is the holder, which knows all of the journal
  pub record HasTurn (items : List (Held S E)) (views : List (Known S E)) (about : Option S) (journal : List E) (pass : ℕ)
      (v : Known S E) : Type 0 where
    pub empty : items ≡ []
    pub about_is : about ≡ v.about
    pub journal_is : journal ≡ v.journal
    pub only : (seat : ℕ) (w : Known S E) → get_elem? views seat ≡ some w → w.is_out ≡ true → seat ≡ pass

  out-case : (items : List (Held S E)) (views : List (Known S E)) (about : Option S) (journal : List E) (pass : ℕ)
      (v : Known S E) → get_elem? views pass ≡ some v → v.is_out ≡ true → IsOut items views about journal
      → HasTurn items views about journal pass v
  out-case items views about journal pass v at is_out out =
      let here : pass ≡ out.holder = out.only pass v at is_out in
      let same : out.known ≡ v = at_both views out.holder out.known v out.held (ap (λ n. get_elem? views n) (sym here) ∙ at) in
      record {
        empty = out.empty;
        about_is = out.about_is ∙ ap (λ (k : Known S E). k.about) same;
        journal_is = out.journal_is ∙ ap (λ (k : Known S E). k.journal) same;
        only = λ seat w there marked. out.only seat w there marked ∙ sym here;
      }

  has_turn : (items : List (Held S E)) (views : List (Known S E)) (pass : ℕ) (v : Known S E) (kept : Kept items views)
      → get_elem? views pass ≡ some v → v.is_out ≡ true → HasTurn items views kept.about kept.journal pass v
  has_turn items views pass v kept at is_out = ⊎_elim
      (λ (is : IsIn items views kept.about kept.journal). absurd (true≢false (sym is_out ∙ is.idle pass v at)))
      (λ (out : IsOut items views kept.about kept.journal). out-case items views kept.about kept.journal pass v at is_out out)
      kept.place

  -- who has the turn finds the queue empty
  pub finds_room : (pass : ℕ) (v : Known S E) → v.is_out ≡ true → Learns Kept pass v (λ items. items ≡ [])
  finds_room pass v is_out items views kept at = (has_turn items views pass v kept at is_out).empty

  -- ---- the first pass

  abbrev pub no_value : List (Held S E)
  no_value = []

  first-seat : (v : Known S E) (seat : ℕ) → get_elem? (founder ∷ []) seat ≡ some v → (seat ≡ 0) × (founder ≡ v)
  first-seat v zero at = (refl, some-injective founder v at)
  first-seat v (suc seat) at = absurd (some-ne-none v (sym at))

  first-fits : Fits {S = S} {E = E} None [] founder
  unfolding Stands Rises
  first-fits = record { about_is = tt; seen = refl; told = refl; heard = refl; agreed = tt; stands = tt; rises = tt }

  pub founds : Kept no_value (founder ∷ [])
  founds = record {
    about = None;
    journal = [];
    place = inr (record {
      empty = refl;
      holder = 0;
      known = founder;
      marked = refl;
      held = refl;
      about_is = refl;
      journal_is = refl;
      only = λ seat v at marked. (first-seat v seat at).0;
    });
    each = λ seat v at. rw (sym (first-seat v seat at).1) first-fits;
    apart = λ seat other v w differ at there. absurd (differ ((first-seat v seat at).0 ∙ sym (first-seat w other there).0));
  }

  -- ---- the value is taken

  in-case : (x : Held S E) (items : List (Held S E)) (views : List (Known S E)) (about : Option S) (journal : List E)
      → IsIn (x ∷ items) views about journal ⊎ IsOut (x ∷ items) views about journal → IsIn (x ∷ items) views about journal
  in-case x items views about journal (inl is) = is
  in-case x items views about journal (inr out) = absurd (not-empty out.empty)
    where
      not-empty : x ∷ items ≡ [] → ⊥
      not-empty is = cc

  one-value : (x y : Held S E) (items : List (Held S E)) → x ∷ items ≡ y ∷ [] → (y ≡ x) × (items ≡ [])
  one-value x y items is = (cc, cc)

  taken-fits : (about : Option S) (journal : List E) (v : Known S E) (x : Held S E) → Fits about journal v
      → about ≡ Some x.about → journal ≡ x.journal → Fits about journal (taken v x)
  taken-fits about journal v x fits about_is journal_is =
      let begun : Begins x.journal v.journal = subst (λ (j : List E). Begins j v.journal) journal_is fits.seen in
      record {
        about_is = about_is;
        seen = rw (sym journal_is) (begins_itself journal);
        told = begins_on x.journal v.journal v.told begun fits.told;
        heard = begins_on x.journal v.journal v.heard begun fits.heard;
        agreed = agrees_on v.heard_about v.about (Some x.about) fits.agreed
            (agrees_to v.about about (Some x.about) fits.about_is about_is);
        stands = stands_on x.journal v.journal v.own begun fits.stands;
        rises = fits.rises;
      }

  takes-at : (pass : ℕ) (v : Known S E) (x : Held S E) (items : List (Held S E)) (views : List (Known S E))
      (kept : Kept (x ∷ items) views) → get_elem? views pass ≡ some v → (is : IsIn (x ∷ items) views kept.about kept.journal)
      → (w : Known S E) × Kept items (set views pass w) × Takes v x w
  takes-at pass v x items views kept at is =
      let one = one-value x is.value items is.items_are in
      let about_is : kept.about ≡ Some x.about = is.about_is ∙ ap (λ (y : Held S E). Some y.about) one.0 in
      let journal_is : kept.journal ≡ x.journal = is.journal_is ∙ ap (λ (y : Held S E). y.journal) one.0 in
      let w : Known S E = taken v x in
      let fits : Fits kept.about kept.journal v = kept.each pass v at in (
        w,
        record {
          about = kept.about;
          journal = kept.journal;
          place = inr (record {
            empty = one.1;
            holder = pass;
            known = w;
            marked = refl;
            held = set_at views pass v w at;
            about_is = about_is;
            journal_is = journal_is;
            only = all_set (λ seat u. u.is_out ≡ true → seat ≡ pass) views pass w (λ marked. refl)
                (λ seat u differ there marked. absurd (true≢false (sym marked ∙ is.idle seat u there)));
          });
          each = all_set (λ seat u. Fits kept.about kept.journal u) views pass w
              (taken-fits kept.about kept.journal v x fits about_is journal_is)
              (λ seat u differ there. kept.each seat u there);
          apart = apart_set views pass w kept.apart
              (λ seat u differ there. kept.apart pass seat v u (λ same. differ (sym same)) at there);
        },
        (
          subst (λ (j : List E). Begins j v.journal) journal_is fits.seen,
          agrees_to v.about kept.about (Some x.about) fits.about_is about_is,
          refl,
        ),
      )
    where
      set_at : (views : List (Known S E)) (pass : ℕ) (v w : Known S E) → get_elem? views pass ≡ some v
          → get_elem? (set views pass w) pass ≡ some w
      set_at [] pass v w at = absurd (some-ne-none v (sym at))
      set_at (u ∷ views) zero v w at = refl
      set_at (u ∷ views) (suc pass) v w at = set_at views pass v w at

  pub takes : (pass : ℕ) (v : Known S E) → Pops Kept pass v (Takes v)
  takes pass v x items views kept at =
      takes-at pass v x items views kept at (in-case x items views kept.about kept.journal kept.place)

  -- ---- the value is given back

  idle-case : (v : Known S E) (b : Bool) → v.is_out ≡ b → (v.is_out ≡ true → ⊥) → v.is_out ≡ false
  idle-case v true is marked = absurd (marked is)
  idle-case v false is marked = is

  is_idle : (v : Known S E) → (v.is_out ≡ true → ⊥) → v.is_out ≡ false
  is_idle v marked = idle-case v v.is_out refl marked

  -- what other passes know still fits
  fits-still : (v u : Known S E) (x : Held S E) (about : Option S) (journal : List E) → about ≡ v.about → journal ≡ v.journal
      → Begins x.journal v.journal → Agrees v.about (Some x.about) → Fits about journal u → Fits (Some x.about) x.journal u
  fits-still v u x about journal about_is journal_is begun agrees fits = record {
    about_is = agrees_on u.about v.about (Some x.about) (subst (λ (a : Option S). Agrees u.about a) about_is fits.about_is) agrees;
    seen = begins_on x.journal v.journal u.journal begun (subst (λ (j : List E). Begins j u.journal) journal_is fits.seen);
    told = fits.told;
    heard = fits.heard;
    agreed = fits.agreed;
    stands = fits.stands;
    rises = fits.rises;
  }

  given-fits : (v : Known S E) (x : Held S E) (about : Option S) (journal : List E) → Begins x.journal v.journal
      → Agrees v.about (Some x.about) → Fits about journal v → Fits (Some x.about) x.journal (given v x)
  given-fits v x about journal begun agrees fits =
      let before = length v.journal in
      let new : List (ℕ × E) = placed_from before (drop before x.journal) in
      let stand : Stands x.journal new = subst (λ (j : List E). Stands j new) (sym (rest_of x.journal v.journal begun))
      (placed_stands v.journal (drop before x.journal)) in
      record {
        about_is = refl;
        seen = begins_itself x.journal;
        told = begins_on x.journal v.journal v.told begun fits.told;
        heard = begins_on x.journal v.journal v.heard begun fits.heard;
        agreed = agrees_on v.heard_about v.about (Some x.about) fits.agreed agrees;
        stands = stands_both x.journal v.own new (stands_on x.journal v.journal v.own begun fits.stands) stand;
        rises = rises_both 0 before v.own new (omega arith) fits.rises
            (λ place has. place_below v.journal v.own place fits.stands has)
            (placed_rises before before (drop before x.journal) (omega arith));
      }

  -- no other pass has the new events
  given-apart : (v u : Known S E) (x : Held S E) (journal : List E) (about : Option S) → journal ≡ v.journal → Fits about journal u
      → Apart v.own u.own → Apart (given v x).own u.own
  given-apart v u x journal about journal_is fits apart = λ place mine theirs.
      let before = length v.journal in
      let new : List (ℕ × E) = placed_from before (drop before x.journal) in
      let seen : length u.journal ≤ length journal = begins_length journal u.journal fits.seen in
      let whole : length journal ≡ length v.journal = ap length journal_is in
      ⊎_elim
      (λ (here : has_place place v.own ≡ true). apart place here theirs)
      (λ (here : has_place place new ≡ true).
      let low : before ≤ place = placed_has place before (drop before x.journal) here in
      let high : place + 1 ≤ length u.journal = omega (arith, place_below u.journal u.own place fits.stands theirs) in
      omega (arith, low, high, seen, whole))
      (has_appended place v.own new mine)

  pub gives : (n pass : ℕ) (v : Known S E) (x : Held S E) → v.is_out ≡ true → Begins x.journal v.journal
      → Agrees v.about (Some x.about) → Pushes Kept n pass v x (λ w. w ≡ given v x)
  gives n pass v x is_out begun agrees items views room kept at =
      let turn = has_turn items views pass v kept at is_out in
      let w : Known S E = given v x in (
        w,
        record {
          about = Some x.about;
          journal = x.journal;
          place = inl (record {
            value = x;
            items_are = ap (λ (xs : List (Held S E)). xs ++ x ∷ []) turn.empty;
            about_is = refl;
            journal_is = refl;
            idle = all_set (λ seat u. u.is_out ≡ false) views pass w refl
                (λ seat u differ there. is_idle u (λ marked. differ (turn.only seat u there marked)));
          });
          each = all_set (λ seat u. Fits (Some x.about) x.journal u) views pass w
              (given-fits v x kept.about kept.journal begun agrees (kept.each pass v at))
              (λ seat u differ there. fits-still v u x kept.about kept.journal turn.about_is turn.journal_is begun agrees
              (kept.each seat u there));
          apart = apart_set views pass w kept.apart
              (λ seat u differ there. given-apart v u x kept.journal kept.about turn.journal_is (kept.each seat u there)
              (kept.apart pass seat v u (λ same. differ (sym same)) at there));
        },
        refl,
      )

  -- ---- a pass is split

  newcomer-fits : (about : Option S) (journal : List E) (v : Known S E) → Fits about journal v → Fits about journal (newcomer v)
  unfolding Stands Rises
  newcomer-fits about journal v fits = record {
    about_is = fits.about_is;
    seen = fits.seen;
    told = fits.told;
    heard = fits.heard;
    agreed = fits.agreed;
    stands = tt;
    rises = tt;
  }

  all_more : (F : Known S E → Type 0) (views : List (Known S E)) (new : Known S E)
      → ((seat : ℕ) (v : Known S E) → get_elem? views seat ≡ some v → F v) → F new
      → (seat : ℕ) (v : Known S E) → get_elem? (views ++ new ∷ []) seat ≡ some v → F v
  all_more F views new old here seat v at = ⊎_elim
      (λ (is : get_elem? views seat ≡ some v). old seat v is)
      (λ (is : new ≡ v). subst F is here)
      (at_snoc views new v seat at)

  split-place : (items : List (Held S E)) (views : List (Known S E)) (about : Option S) (journal : List E) (new : Known S E)
      → new.is_out ≡ false → IsIn items views about journal ⊎ IsOut items views about journal
      → IsIn items (views ++ new ∷ []) about journal ⊎ IsOut items (views ++ new ∷ []) about journal
  split-place items views about journal new idle (inl is) = inl (record {
    value = is.value;
    items_are = is.items_are;
    about_is = is.about_is;
    journal_is = is.journal_is;
    idle = all_more (λ v. v.is_out ≡ false) views new is.idle idle;
  })
  split-place items views about journal new idle (inr out) = inr (record {
    empty = out.empty;
    holder = out.holder;
    known = out.known;
    marked = out.marked;
    held = at_longer views (new ∷ []) out.holder out.known out.held;
    about_is = out.about_is;
    journal_is = out.journal_is;
    only = λ seat v at marked. ⊎_elim
        (λ (is : get_elem? views seat ≡ some v). out.only seat v is marked)
        (λ (is : new ≡ v). absurd (true≢false (sym marked ∙ ap (λ (u : Known S E). u.is_out) (sym is) ∙ idle)))
        (at_snoc views new v seat at);
  })

  no-own : (place : ℕ) (v w : Known S E) → newcomer v ≡ w → has_place place w.own ≡ true → ⊥
  no-own place v w is has = nothing (ap (λ (u : Known S E). has_place place u.own) is ∙ has)
    where
      nothing : false ≡ true → ⊥
      nothing is = cc

  split-apart : (views : List (Known S E)) (v : Known S E) → AllApart views → AllApart (views ++ newcomer v ∷ [])
  split-apart views v apart seat other u w differ at there = λ place here too. ⊎_elim
      (λ (one : get_elem? views seat ≡ some u). ⊎_elim
      (λ (two : get_elem? views other ≡ some w). apart seat other u w differ one two place here too)
      (λ (two : newcomer v ≡ w). no-own place v w two too)
      (at_snoc views (newcomer v) w other there))
      (λ (one : newcomer v ≡ u). no-own place v u one here)
      (at_snoc views (newcomer v) u seat at)

  pub splits : (pass : ℕ) (v : Known S E) → v.is_out ≡ false → Forks Kept pass v v (newcomer v)
  splits pass v idle items views kept at =
      let more : Kept items (views ++ newcomer v ∷ []) = record {
        about = kept.about;
        journal = kept.journal;
        place = split-place items views kept.about kept.journal (newcomer v) idle kept.place;
        each = all_more (λ u. Fits kept.about kept.journal u) views (newcomer v) kept.each
            (newcomer-fits kept.about kept.journal v (kept.each pass v at));
        apart = split-apart views v kept.apart;
      } in
      subst (λ (vs : List (Known S E)). Kept items (vs ++ newcomer v ∷ [])) (sym (set_again views pass v at)) more

  -- ---- two passes are joined

  joined-fits : (about : Option S) (journal : List E) (v w : Known S E) → Fits about journal v → Fits about journal w
      → Apart v.own w.own → Fits about journal (joined v w)
  joined-fits about journal v w one two apart =
      let all : List E = longer v.journal w.journal in
      let first : Begins all v.journal = begins_longer journal v.journal w.journal one.seen two.seen in
      let second : Begins all w.journal = begins_longer_too journal v.journal w.journal one.seen two.seen in
      record {
        about_is = agrees_either v.about w.about about one.about_is two.about_is;
        seen = longer_begins journal v.journal w.journal one.seen two.seen;
        told = first;
        heard = second;
        agreed = agrees_too v.about w.about about one.about_is two.about_is;
        stands = merged_stands all v.own w.own (stands_on all v.journal v.own first one.stands)
            (stands_on all w.journal w.own second two.stands);
        rises = merged_rises 0 v.own w.own one.rises two.rises apart;
      }

  spent-fits : (about : Option S) (journal : List E) → Fits {S = S} {E = E} about journal spent
  unfolding Stands Rises
  spent-fits about journal = record {
    about_is = tt;
    seen = begins_none journal;
    told = refl;
    heard = refl;
    agreed = tt;
    stands = tt;
    rises = tt;
  }

  module _ (items : List (Held S E)) (views : List (Known S E)) (pass other : ℕ) (v w : Known S E) (kept : Kept items views)
      (at : get_elem? views pass ≡ some v) (differ : other ≢ pass) (there : get_elem? views other ≡ some w)
      (idle : v.is_out ≡ false) (idle_too : w.is_out ≡ false) where
    abbrev now : List (Known S E)
    now = set (set views pass (joined v w)) other spent

    all_joined : (F : Known S E → Type 0) → F (joined v w) → F spent
        → ((seat : ℕ) (u : Known S E) → get_elem? views seat ≡ some u → F u)
        → (seat : ℕ) (u : Known S E) → get_elem? now seat ≡ some u → F u
    all_joined F both rest old = all_set (λ seat u. F u) (set views pass (joined v w)) other spent rest
        (λ seat u apart is. all_set (λ seat u. F u) views pass (joined v w) both (λ seat u apart is. old seat u is) seat u is)

    join-place : IsIn items views kept.about kept.journal ⊎ IsOut items views kept.about kept.journal
        → IsIn items now kept.about kept.journal ⊎ IsOut items now kept.about kept.journal
    join-place (inl is) = inl (record {
      value = is.value;
      items_are = is.items_are;
      about_is = is.about_is;
      journal_is = is.journal_is;
      idle = all_joined (λ u. u.is_out ≡ false) refl refl is.idle;
    })
    join-place (inr out) =
        let marked : out.known.is_out ≡ true = out.marked in
        let not_pass : out.holder ≢ pass = λ same. true≢false (sym marked ∙ ap (λ (u : Known S E). u.is_out)
        (at_both views pass out.known v (ap (λ n. get_elem? views n) (sym same) ∙ out.held) at) ∙ idle) in
        let not_other : out.holder ≢ other = λ same. true≢false (sym marked ∙ ap (λ (u : Known S E). u.is_out)
        (at_both views other out.known w (ap (λ n. get_elem? views n) (sym same) ∙ out.held) there) ∙ idle_too) in
        inr (record {
          empty = out.empty;
          holder = out.holder;
          known = out.known;
          marked = out.marked;
          held = set_else (set views pass (joined v w)) other out.holder spent not_other
              ∙ set_else views pass out.holder (joined v w) not_pass ∙ out.held;
          about_is = out.about_is;
          journal_is = out.journal_is;
          only = all_set (λ seat u. u.is_out ≡ true → seat ≡ out.holder) (set views pass (joined v w)) other spent
              (λ marked. absurd (true≢false (sym marked)))
              (λ seat u apart is. all_set (λ seat u. u.is_out ≡ true → seat ≡ out.holder) views pass (joined v w)
              (λ marked. absurd (true≢false (sym marked))) (λ seat u apart is marked. out.only seat u is marked) seat u is);
        })

    -- whose event a pass has after the join
    record Owner (place seat : ℕ) : Type 0 where
      pub from : ℕ
      pub known : Known S E
      pub stood : get_elem? views from ≡ some known
      pub has : has_place place known.own ≡ true
      pub apart : seat ≢ other
      pub whose : (from ≡ seat) ⊎ ((from ≡ other) × (seat ≡ pass))

    nobody : (place : ℕ) → has_place {E = E} place [] ≡ true → ⊥
    nobody place has = cc

    owner : (place seat : ℕ) (u : Known S E) → get_elem? now seat ≡ some u → has_place place u.own ≡ true → Owner place seat
    owner place = all_set (λ seat u. has_place place u.own ≡ true → Owner place seat) (set views pass (joined v w)) other spent
        (λ has. absurd (nobody place has))
        (λ seat u apart is. all_set (λ seat u. seat ≢ other → has_place place u.own ≡ true → Owner place seat) views pass (joined v w)
        (λ apart has. ⊎_elim
        (λ (mine : has_place place v.own ≡ true). record
        { from = pass; known = v; stood = at; has = mine; apart = apart; whose = inl refl })
        (λ (theirs : has_place place w.own ≡ true). record
        { from = other; known = w; stood = there; has = theirs; apart = apart; whose = inr (refl, refl) })
        (merged_has place v.own w.own has))
        (λ seat u differs is apart has. record
        { from = seat; known = u; stood = is; has = has; apart = apart; whose = inl refl })
        seat u is apart)

    same_owner : (place seat other' : ℕ) → Owner place seat → Owner place other' → seat ≡ other'
    same_owner place seat other' one two = ⊎_elim
        (λ (same : one.from ≡ two.from). both-seats one.whose two.whose same)
        (λ (apart : one.from ≡ two.from
        → ⊥). absurd (kept.apart one.from two.from one.known two.known apart one.stood two.stood place one.has two.has))
        (cases_eq one.from two.from)
      where
        both-seats : (one.from ≡ seat) ⊎ ((one.from ≡ other) × (seat ≡ pass))
            → (two.from ≡ other') ⊎ ((two.from ≡ other) × (other' ≡ pass)) → one.from ≡ two.from → seat ≡ other'
        both-seats (inl a) (inl b) same = sym a ∙ same ∙ b
        both-seats (inl a) (inr b) same = absurd (one.apart (sym a ∙ same ∙ b.0))
        both-seats (inr a) (inl b) same = absurd (two.apart (sym b ∙ sym same ∙ a.0))
        both-seats (inr a) (inr b) same = a.1 ∙ sym b.1

    pub kept_joined : Kept items now
    kept_joined = record {
      about = kept.about;
      journal = kept.journal;
      place = join-place kept.place;
      each = all_joined (λ u. Fits kept.about kept.journal u)
          (joined-fits kept.about kept.journal v w (kept.each pass v at) (kept.each other w there)
          (kept.apart pass other v w (λ same. differ (sym same)) at there))
          (spent-fits kept.about kept.journal) kept.each;
      apart = λ seat far u x distinct here yonder place mine theirs.
          distinct (same_owner place seat far (owner place seat u here mine) (owner place far x yonder theirs));
    }

  pub joins : (pass : ℕ) (v : Known S E) (other : ℕ) (w : Known S E) → v.is_out ≡ false → w.is_out ≡ false
      → Merges Kept pass v other w (joined v w) spent
  joins pass v other w idle idle_too items views kept at differ at_other =
      let there : get_elem? views other ≡ some w = ⊎_elim
      (λ (is : (other ≡ pass) × (joined v w ≡ w)). absurd (differ is.0))
      (λ (is : (other ≢ pass) × (get_elem? views other ≡ some w)). is.1)
      (at_set views pass other (joined v w) w at_other) in
      kept_joined items views pass other v w kept at differ there idle idle_too

  -- ---- what a pass learns of itself

  pub learns : (pass : ℕ) (v : Known S E) → Learns Kept pass v (λ items. IsSound v)
  learns pass v items views kept at =
      let fits = kept.each pass v at in
      record {
        told = fits.told;
        heard = fits.heard;
        agreed = fits.agreed;
        stands = fits.stands;
        rises = fits.rises;
      }

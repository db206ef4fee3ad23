-- What one call on a shared exchange leaves, and what calls one behind the other leave.
use Rattle.std.proofs.Common.{◌≡◌, ℕ, zero, suc, ◌+◌, ◌<◌, Bool, false, cond, List, [], ◌∷◌, ◌++◌, length, take, drop, reverse, slice_get, Option, None, Some, refl, sym, ap, ◌∙◌, subst, append_assoc, append-nil, arith}
use Rattle.std.proofs.lemmas.List.Sums.{sum_by-append}
use Rattle.std.proofs.Math.Seq.{take-append_seam, drop-append_seam, drop-length}
use Rattle.turns.specs.Turns.{Held, Known, Begins, Agrees, placed_from, given, taken}
use Rattle.turns.proofs.Beginnings.{begins_itself, begins_on, get_begins, get_behind, get_below}
use Rattle.turns.proofs.Steps.{agrees_on}
use Rattle.dns_multiplexer.specs.Events.{Pending, TakenValue}
use Rattle.dns_multiplexer.specs.Machine.{Settings}
use Rattle.dns_journal.specs.declared.entry.Found.{Found}
use Rattle.dns_journal.specs.Entries.{Entry, Take}
use Rattle.dns_journal.specs.Calls.{with_entry}
use Rattle.dns_journal.specs.Histories.{taken_at}
use Rattle.dns_shared_exchange.specs.Tokens.{TokenValue, IsKnown}
use Rattle.dns_shared_upstream.specs.Calls.{Called, FoundNone, IsAmong, Gave, HadNoRoom, arrives_in, is_arrive}

abbrev Seen : Type 0
Seen = Known Settings Entry

abbrev Value : Type 0
Value = Held Settings Entry

-- ---- one turn

-- a call stands behind what was found
pub record One (e : Entry) (found : Value) (before now : Seen) : Type 0 where
  pub about : now.about ≡ Some found.about
  pub agreed : Agrees before.about (Some found.about)
  pub begun : Begins found.journal before.journal
  pub journal : now.journal ≡ found.journal ++ e ∷ []
  pub own : now.own ≡ before.own ++ (length found.journal, e) ∷ []

-- what was found was seen, and no call was made
pub record Sight (found : Value) (before now : Seen) : Type 0 where
  pub about : now.about ≡ Some found.about
  pub agreed : Agrees before.about (Some found.about)
  pub begun : Begins found.journal before.journal
  pub journal : now.journal ≡ found.journal
  pub own : now.own ≡ before.own

placed_one : (n : ℕ) (e : Entry) → placed_from n (e ∷ []) ≡ (n, e) ∷ []
unfolding placed_from
placed_one n e = refl

placed_none : (n : ℕ) (left : List Entry) → left ≡ [] → placed_from n left ≡ []
unfolding placed_from
placed_none n [] is = refl
placed_none n (e ∷ left) is = cc

placed_behind : (found left : List Entry) (e : Entry) → left ≡ found ++ e ∷ []
    → placed_from (length found) (drop (length found) left) ≡ (length found, e) ∷ []
placed_behind found left e is =
    ap (λ (j : List Entry). placed_from (length found) (drop (length found) j)) is
    ∙ ap (λ (j : List Entry). placed_from (length found) j) (drop-append_seam found (e ∷ []))
    ∙ placed_one (length found) e

module _ (before now : Seen) (found left : Value) (begun : Begins found.journal before.journal)
    (agreed : Agrees before.about (Some found.about)) (is : now ≡ given (taken before found) left) where
  pub given_one : (e : Entry) → left ≡ with_entry e found → One e found before now
  given_one e added = record {
    about = ap (λ (k : Seen). k.about) is ∙ ap (λ (h : Value). Some h.about) added;
    agreed = agreed;
    begun = begun;
    journal = ap (λ (k : Seen). k.journal) is ∙ ap (λ (h : Value). h.journal) added;
    own = ap (λ (k : Seen). k.own) is
        ∙ ap (λ (more : List (ℕ × Entry)). before.own ++ more)
        (placed_behind found.journal left.journal e (ap (λ (h : Value). h.journal) added));
  }

  pub given_none : left ≡ found → Sight found before now
  given_none same =
      let none : drop (length found.journal) left.journal ≡ [] =
      ap (λ (h : Value). drop (length found.journal) h.journal) same ∙ drop-length found.journal in
      record {
        about = ap (λ (k : Seen). k.about) is ∙ ap (λ (h : Value). Some h.about) same;
        agreed = agreed;
        begun = begun;
        journal = ap (λ (k : Seen). k.journal) is ∙ ap (λ (h : Value). h.journal) same;
        own = ap (λ (k : Seen). k.own) is
            ∙ ap (λ (more : List (ℕ × Entry)). before.own ++ more) (placed_none (length found.journal) _ none)
            ∙ append-nil before.own;
      }

begins_same : (one other : List Entry) → one ≡ other → Begins one other
begins_same one other is = subst (λ (j : List Entry). Begins j other) (sym is) (begins_itself other)

module _ (before now : TokenValue) (found : Value) (line : now.line ≡ before.line) (known : IsKnown now.known) where
  pub called_one : (e : Entry) → One e found before.known now.known → Called ((length found.journal, e) ∷ []) before now
  called_one e one = record {
    line = line;
    own = one.own;
    seen = begins_on now.known.journal found.journal before.known.journal
        (subst (λ (j : List Entry). Begins j found.journal) (sym one.journal) (take-append_seam found.journal (e ∷ [])))
        one.begun;
    about = subst (λ (a : Option Settings). Agrees before.known.about a) (sym one.about) one.agreed;
    known = λ _. known;
  }

  pub called_none : Sight found before.known now.known → Called [] before now
  called_none same = record {
    line = line;
    own = same.own ∙ sym (append-nil before.known.own);
    seen = begins_on now.known.journal found.journal before.known.journal
        (begins_same now.known.journal found.journal same.journal) same.begun;
    about = subst (λ (a : Option Settings). Agrees before.known.about a) (sym same.about) same.agreed;
    known = λ _. known;
  }

-- there was no room in what was found
pub no_room : (fits : Value → Bool) (before now : Seen) (found : Value) → Sight found before now → fits found ≡ false
    → HadNoRoom fits before now
no_room fits before now found same full = record {
  found = found;
  about = same.about;
  begun = same.begun;
  seen = begins_same now.journal found.journal same.journal;
  full = full;
}

-- a take stands behind what was found, and gave what it names there
pub gave_one : (number : ℕ) (take_found : Found) (before now : Seen) (found : Value) (given : TakenValue)
    → One (Take number take_found) found before now → given ≡ taken_at (reverse found.journal) take_found
    → Gave ((length found.journal, Take number take_found) ∷ []) now.journal number given
gave_one number take_found before now found given one gives = record {
  place = length found.journal;
  found = take_found;
  among = record { before = []; behind = []; parted = refl };
  stands = ap (λ (j : List Entry). slice_get j (length found.journal)) one.journal
      ∙ get_behind found.journal (Take number take_found) [];
  gives = gives ∙ ap (λ (j : List Entry). taken_at (reverse j) take_found)
      (sym (ap (λ (j : List Entry). take (length found.journal) j) one.journal
      ∙ take-append_seam found.journal (Take number take_found ∷ [])));
}

-- ---- one call behind the other

pub agrees_itself : (about : Option Settings) → Agrees about about
agrees_itself None = tt
agrees_itself (Some settings) = refl

pub called_itself : (now : TokenValue) → Called [] now now
called_itself now = record {
  line = refl;
  own = sym (append-nil now.known.own);
  seen = begins_itself now.known.journal;
  about = agrees_itself now.known.about;
  known = λ known. known;
}

pub called_on : (a b : List (ℕ × Entry)) (x y z : TokenValue) → Called a x y → Called b y z → Called (a ++ b) x z
called_on a b x y z first second = record {
  line = second.line ∙ first.line;
  own = second.own ∙ ap (λ (own : List (ℕ × Entry)). own ++ b) first.own ∙ append_assoc x.known.own a b;
  seen = begins_on z.known.journal y.known.journal x.known.journal second.seen first.seen;
  about = agrees_on x.known.about y.known.about z.known.about first.about second.about;
  known = λ known. second.known (first.known known);
}

pub among_before : (a b : List (ℕ × Entry)) (call : ℕ × Entry) → IsAmong call b → IsAmong call (a ++ b)
among_before a b call is = record {
  before = a ++ is.before;
  behind = is.behind;
  parted = ap (λ (l : List (ℕ × Entry)). a ++ l) is.parted ∙ sym (append_assoc a is.before (call ∷ is.behind));
}

pub among_behind : (a b : List (ℕ × Entry)) (call : ℕ × Entry) → IsAmong call a → IsAmong call (a ++ b)
among_behind a b call is = record {
  before = is.before;
  behind = is.behind ++ b;
  parted = ap (λ (l : List (ℕ × Entry)). l ++ b) is.parted ∙ append_assoc is.before (call ∷ is.behind) b;
}

head-same : (x y : Entry) (xs ys : List Entry) → x ∷ xs ≡ y ∷ ys → x ≡ y
head-same x y xs ys is = cc

tail-same : (x y : Entry) (xs ys : List Entry) → x ∷ xs ≡ y ∷ ys → xs ≡ ys
tail-same x y xs ys is = cc

take_begins : (whole start : List Entry) (n : ℕ) → Begins whole start → n < length start → take n whole ≡ take n start
take_begins whole [] n begun below = absurd (omega (arith, below))
take_begins [] (s ∷ start) n begun below = cc
take_begins (w ∷ whole) (s ∷ start) zero begun below = refl
take_begins (w ∷ whole) (s ∷ start) (suc n) begun below =
    let head : w ≡ s = head-same w s (take (length start) whole) start begun in
    let tail : take (length start) whole ≡ start = tail-same w s (take (length start) whole) start begun in
    rw head (ap (λ (l : List Entry). s ∷ l) (take_begins whole start n tail (omega (arith, below))))

module _ (a b : List (ℕ × Entry)) where
  -- the calls that come first change nothing of what a later one gave
  pub gave_before : (journal : List Entry) (number : ℕ) (given : TakenValue) → Gave b journal number given
      → Gave (a ++ b) journal number given
  gave_before journal number given gave = record {
    place = gave.place;
    found = gave.found;
    among = among_before a b _ gave.among;
    stands = gave.stands;
    gives = gave.gives;
  }

  -- nor do those behind it, by which the journal grows
  pub gave_behind : (journal later : List Entry) (number : ℕ) (given : TakenValue) → Begins later journal
      → Gave a journal number given → Gave (a ++ b) later number given
  gave_behind journal later number given begun gave =
      let below = get_below journal gave.place (Take number gave.found) gave.stands in
      record {
        place = gave.place;
        found = gave.found;
        among = among_behind a b _ gave.among;
        stands = get_begins later journal gave.place (Take number gave.found) begun gave.stands;
        gives = gave.gives ∙ ap (λ (j : List Entry). taken_at (reverse j) gave.found)
            (sym (take_begins later journal gave.place begun below));
      }

-- ---- a take that found nothing

pub arrives_both : (a b : List (ℕ × Entry)) → arrives_in (a ++ b) ≡ arrives_in a + arrives_in b
arrives_both a b = sum_by-append (λ (call : ℕ × Entry). cond (is_arrive call.1) 1 0) a b

pub none_one : (number : ℕ) (take_found : Found) (before now : Seen) (found : Value)
    → One (Take number take_found) found before now → Pending ≡ taken_at (reverse found.journal) take_found
    → FoundNone ((length found.journal, Take number take_found) ∷ []) now.journal number
none_one number take_found before now found one gives = record {
  before = [];
  behind = [];
  place = length found.journal;
  found = take_found;
  parted = refl;
  last = refl;
  stands = ap (λ (j : List Entry). slice_get j (length found.journal)) one.journal
      ∙ get_behind found.journal (Take number take_found) [];
  gives = gives ∙ ap (λ (j : List Entry). taken_at (reverse j) take_found)
      (sym (ap (λ (j : List Entry). take (length found.journal) j) one.journal
      ∙ take-append_seam found.journal (Take number take_found ∷ [])));
}

module _ (a b : List (ℕ × Entry)) where
  pub none_before : (journal : List Entry) (number : ℕ) → FoundNone b journal number → FoundNone (a ++ b) journal number
  none_before journal number none = record {
    before = a ++ none.before;
    behind = none.behind;
    place = none.place;
    found = none.found;
    parted = ap (λ (l : List (ℕ × Entry)). a ++ l) none.parted
        ∙ sym (append_assoc a none.before ((none.place, Take number none.found) ∷ none.behind));
    last = none.last;
    stands = none.stands;
    gives = none.gives;
  }

  -- calls that come behind hand no message over
  pub none_behind : (journal later : List Entry) (number : ℕ) → arrives_in b ≡ 0 → Begins later journal
      → FoundNone a journal number → FoundNone (a ++ b) later number
  none_behind journal later number quiet begun none =
      let below = get_below journal none.place (Take number none.found) none.stands in
      let both = arrives_both none.behind b in
      let last = none.last in
      record {
        before = none.before;
        behind = none.behind ++ b;
        place = none.place;
        found = none.found;
        parted = ap (λ (l : List (ℕ × Entry)). l ++ b) none.parted
            ∙ append_assoc none.before ((none.place, Take number none.found) ∷ none.behind) b;
        last = omega (arith, both, last, quiet);
        stands = get_begins later journal none.place (Take number none.found) begun none.stands;
        gives = none.gives ∙ ap (λ (j : List Entry). taken_at (reverse j) none.found)
            (sym (take_begins later journal none.place begun below));
      }

module _ (fits : Value → Bool) (x y z : TokenValue) where
  pub no_room_before : (a : List (ℕ × Entry)) → Called a x y → HadNoRoom fits y.known z.known
      → HadNoRoom fits x.known z.known
  no_room_before a first none = record {
    found = none.found;
    about = none.about;
    begun = begins_on none.found.journal y.known.journal x.known.journal none.begun first.seen;
    seen = none.seen;
    full = none.full;
  }

  pub no_room_behind : (b : List (ℕ × Entry)) → HadNoRoom fits x.known y.known → Called b y z
      → HadNoRoom fits x.known z.known
  no_room_behind b none second = record {
    found = none.found;
    about = agrees_some y.known.about z.known.about none.found.about second.about none.about;
    begun = none.begun;
    seen = begins_on z.known.journal y.known.journal none.found.journal second.seen none.seen;
    full = none.full;
  }
    where
      agrees_some : (one other : Option Settings) (settings : Settings) → Agrees one other → one ≡ Some settings
          → other ≡ Some settings
      agrees_some None other settings agrees is = cc
      agrees_some (Some about) other settings agrees is = agrees ∙ is

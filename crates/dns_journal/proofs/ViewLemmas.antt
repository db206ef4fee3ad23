-- What contracts see of a core and its journal: whether there is room, and what one entry more makes of it.
use Rattle.std.proofs.Common.{◌≡◌, ℕ, ◌+◌, ◌≤◌, ◌<◌, Bool, true, false, List, [], ◌∷◌, ◌++◌, length, Option, None, Some, refl, sym, ap, ◌∙◌, subst, arith, reverse, if◌then◌else◌}
use Rattle.std.specs.Prelude.{◌&&◌, nat_le}
use Rattle.std.proofs.lemmas.List.{length-reverse}
use Rattle.std.proofs.lemmas.Bool.{le-leb, lt-leb, true≢false}
use Rattle.turns.specs.Turns.{Held}
use Rattle.dns_multiplexer.specs.Machine.{Settings}
use Rattle.dns_multiplexer.specs.Brought.{TracedCore}
use Rattle.dns_multiplexer.specs.Draws.{CoreValue}
use Rattle.dns_journal.specs.declared.refusal.Refusal.{Refusal}
use Rattle.dns_journal.specs.declared.refusal.Refusal.TheVariants.{HistoryFull, NoMemory}
use Rattle.dns_journal.specs.Entries.{Entry}
use Rattle.dns_journal.specs.Histories.{is_closed, machine_after}
use Rattle.dns_journal.specs.Limits.{most_entries, most_bytes, bytes_in, kept_in, places_in, has_places, has_bytes, was_closed, send_fits, arrival_fits, call_fits, close_fits, request_len}
use Rattle.dns_journal.specs.Calls.{IsJournal, IsAdded, IsRefused, with_entry}
use Rattle.dns_journal.specs.Replays.{IsReplay, IsNoRoom}

abbrev pub held : Settings → List Entry → Held Settings Entry
held about journal = record { about = about; journal = journal }

module _ (about : Settings) (journal : List Entry) (core : TracedCore) (bytes room : ℕ)
    (told : IsReplay about journal core bytes room) where
  pub is_journal : IsJournal (held about journal)
  is_journal = record {
    legal = told.legal;
    places = omega (arith, told.fits, ap kept_in told.machine, length-reverse journal);
    bytes = omega (arith, told.light, told.counted);
  }

  pub closed_is : was_closed (held about journal) ≡ core.machine.is_shutdown
  closed_is = sym (ap (λ (m : CoreValue). m.is_shutdown) told.machine)

  pub places_fit : (more : ℕ) → length journal + kept_in core.machine + more ≤ most_entries
      → has_places more (held about journal) ≡ true
  places_fit more fits = le-leb (places_in about (reverse journal) + more) most_entries
      (omega (arith, fits, ap kept_in told.machine, length-reverse journal))

  pub places_miss : (more : ℕ) → most_entries < length journal + kept_in core.machine + more
      → has_places more (held about journal) ≡ false
  places_miss more misses = lt-leb (places_in about (reverse journal) + more) most_entries
      (omega (arith, misses, ap kept_in told.machine, length-reverse journal))

  pub bytes_fit : (more sum : ℕ) → sum ≡ bytes + more → sum ≤ most_bytes → has_bytes more (held about journal) ≡ true
  bytes_fit more sum is fits = le-leb (bytes_in (reverse journal) + more) most_bytes
      (omega (arith, fits, is, told.counted))

  pub bytes_miss : (more : ℕ) → most_bytes < bytes + more → has_bytes more (held about journal) ≡ false
  bytes_miss more misses = lt-leb (bytes_in (reverse journal) + more) most_bytes (omega (arith, misses, told.counted))

  -- a call that asks for one place is refused for want of room
  pub refused_call : (refusal : Refusal) → IsNoRoom (length journal + kept_in core.machine + 1) refusal
      → IsRefused (call_fits (held about journal)) (held about journal) (held about journal) refusal
  refused_call HistoryFull misses = (places_miss 1 misses, refl)
  refused_call NoMemory fits = (places_fit 1 fits, refl)

pub entry_added : (fits : Bool) (about now : Settings) (journal items : List Entry) (e : Entry) → fits ≡ true
    → now ≡ about → items ≡ journal ++ e ∷ [] → IsAdded fits (held about journal) e (held now items)
entry_added fits about now journal items e fitted same is =
    record { fitted = fitted; added = ap (λ (s : Settings). held s items) same ∙ ap (held about) is }

-- ---- by what contracts saw before

-- a call that asks for one place, and finds none
pub call_refused : (old : Held Settings Entry) (about : Settings) (journal items : List Entry) (core : TracedCore)
    (bytes room : ℕ)
    (refusal : Refusal) → IsReplay about journal core bytes room → held about journal ≡ old → items ≡ journal
    → IsNoRoom (length journal + kept_in core.machine + 1) refusal
    → IsRefused (call_fits old) old (held about items) refusal
call_refused old about journal items core bytes room refusal told was same why =
    subst (λ (xs : List Entry). IsRefused (call_fits old) old (held about xs) refusal) (sym same)
    (subst (λ (o : Held Settings Entry). IsRefused (call_fits o) o (held about journal) refusal) was
    (refused_call about journal core bytes room told refusal why))

-- a call that asks for one place, and leaves its entry there
pub call_added : (old : Held Settings Entry) (about now : Settings) (journal items : List Entry) (core : TracedCore)
    (bytes room : ℕ) (e : Entry) → IsReplay about journal core bytes room → held about journal ≡ old → now ≡ about
    → length journal + kept_in core.machine + 1 ≤ most_entries → items ≡ journal ++ e ∷ []
    → IsAdded (call_fits old) old e (held now items)
call_added old about now journal items core bytes room e told was same fits is =
    subst (λ (o : Held Settings Entry). IsAdded (call_fits o) o e (held now items)) was
    (entry_added (call_fits (held about journal)) about now journal items e
    (places_fit about journal core bytes room told 1 fits)
    same is)

-- ---- calls that keep bytes

both : (a b : Bool) → a ≡ true → b ≡ true → (a && b) ≡ true
both true b one other = other
both false b one other = one

first_no : (a b : Bool) → a ≡ false → (a && b) ≡ false
first_no true b is = absurd (true≢false is)
first_no false b is = refl

second_no : (a b : Bool) → b ≡ false → (a && b) ≡ false
second_no true b is = is
second_no false b is = refl

-- so many bytes and entries more
abbrev pub weighs : ℕ → ℕ → Held Settings Entry → Bool
weighs len more old = has_bytes len old && has_places more old

pub heavy_refused : (old : Held Settings Entry) (about : Settings) (journal : List Entry) (core : TracedCore)
    (bytes room len more : ℕ)
    (refusal : Refusal) → IsReplay about journal core bytes room → held about journal ≡ old → most_bytes < bytes + len
    → refusal ≡ HistoryFull → IsRefused (weighs len more old) old old refusal
heavy_refused old about journal core bytes room len more refusal told was misses is =
    let heavy : has_bytes len old ≡ false =
    subst (λ (o : Held Settings Entry). has_bytes len o ≡ false) was
    (bytes_miss about journal core bytes room told len misses) in
    subst (λ (r : Refusal). IsRefused (weighs len more old) old old r) (sym is)
    (first_no (has_bytes len old) (has_places more old) heavy, refl)

weighed-case : (old : Held Settings Entry) (about : Settings) (journal : List Entry) (core : TracedCore)
    (bytes room len more : ℕ)
    (refusal : Refusal) → IsReplay about journal core bytes room → held about journal ≡ old → has_bytes len old ≡ true
    → IsNoRoom (length journal + kept_in core.machine + more) refusal → IsRefused (weighs len more old) old old refusal
weighed-case old about journal core bytes room len more HistoryFull told was light why = (
  second_no (has_bytes len old) (has_places more old)
      (subst (λ (o : Held Settings Entry). has_places more o ≡ false) was
      (places_miss about journal core bytes room told more why)),
  refl,
)
weighed-case old about journal core bytes room len more NoMemory told was light why = (
  both (has_bytes len old) (has_places more old) light
      (subst (λ (o : Held Settings Entry). has_places more o ≡ true) was
      (places_fit about journal core bytes room told more why)),
  refl,
)

pub weighed_fits : (old : Held Settings Entry) (about : Settings) (journal : List Entry) (core : TracedCore)
    (bytes sum room len more : ℕ) → IsReplay about journal core bytes room → held about journal ≡ old
    → sum ≡ bytes + len
    → sum ≤ most_bytes → length journal + kept_in core.machine + more ≤ most_entries → weighs len more old ≡ true
weighed_fits old about journal core bytes sum room len more told was counted light fits =
    both (has_bytes len old) (has_places more old)
    (subst (λ (o : Held Settings Entry). has_bytes len o ≡ true) was
    (bytes_fit about journal core bytes room told len sum counted light))
    (subst (λ (o : Held Settings Entry). has_places more o ≡ true) was
    (places_fit about journal core bytes room told more fits))

module _ (old : Held Settings Entry) (about : Settings) where
  pub weighed_refused : (journal items : List Entry) (core : TracedCore)
      (bytes sum room len more : ℕ) (refusal : Refusal) → IsReplay about journal core bytes room
      → held about journal ≡ old
      → items ≡ journal → sum ≡ bytes + len → sum ≤ most_bytes
      → IsNoRoom (length journal + kept_in core.machine + more) refusal
      → IsRefused (weighs len more old) old (held about items) refusal
  weighed_refused journal items core bytes sum room len more refusal told was same counted light why =
      let now : held about items ≡ old = ap (held about) same ∙ was in
      subst (λ (n : Held Settings Entry). IsRefused (weighs len more old) old n refusal) (sym now)
      (weighed-case old about journal core bytes room len more refusal told was
      (subst (λ (o : Held Settings Entry). has_bytes len o ≡ true) was
      (bytes_fit about journal core bytes room told len sum counted light)) why)

-- the entry of such a call
module _ (old : Held Settings Entry) (about now : Settings) where
  pub weighed_added : (journal items : List Entry) (core : TracedCore)
      (bytes sum room len more : ℕ) (e : Entry) → IsReplay about journal core bytes room → held about journal ≡ old
      → now ≡ about
      → sum ≡ bytes + len → sum ≤ most_bytes → length journal + kept_in core.machine + more ≤ most_entries
      → items ≡ journal ++ e ∷ [] → IsAdded (weighs len more old) old e (held now items)
  weighed_added journal items core bytes sum room len more e told was same counted light fits is =
      let fitted : weighs len more old ≡ true =
      weighed_fits old about journal core bytes sum room len more told was counted light fits in
      record {
        fitted = fitted;
        added = ap (λ (s : Settings). held s items) same ∙ ap (held about) is ∙ ap (with_entry e) was;
      }

-- what a send asks for, by whether a close came before it
pub send_weighs : (old : Held Settings Entry) (request : Option (List ℕ)) (closed : Bool) → was_closed old ≡ closed
    → send_fits request old ≡ weighs (request_len request) (if closed then 1 else 2) old
send_weighs old request closed is =
    ap (λ (b : Bool). weighs (request_len request) (if b then 1 else 2) old) is

pub closed_before : (old : Held Settings Entry) (about : Settings) (journal : List Entry) (core : TracedCore)
    (bytes room : ℕ)
    → IsReplay about journal core bytes room → held about journal ≡ old → was_closed old ≡ core.machine.is_shutdown
closed_before old about journal core bytes room told was =
    subst (λ (o : Held Settings Entry). was_closed o ≡ core.machine.is_shutdown) was
    (closed_is about journal core bytes room told)

-- ---- a close

abbrev first_place : Bool → ℕ
first_place b = if b then 0 else 1

close-case : (old : Held Settings Entry) (b : Bool) → was_closed old ≡ b → (b ≡ true → has_places 1 old ≡ true)
    → close_fits old ≡ true
close-case old true is fits = ap (λ (c : Bool). if c then has_places 1 old else true) is ∙ fits refl
close-case old false is fits = ap (λ (c : Bool). if c then has_places 1 old else true) is

pub close_added : (old : Held Settings Entry) (about now : Settings) (journal items : List Entry) (core : TracedCore)
    (bytes room : ℕ) (e : Entry) → IsReplay about journal core bytes room → held about journal ≡ old → now ≡ about
    → length journal + length core.machine.state.outbound + 1 ≤ most_entries → items ≡ journal ++ e ∷ []
    → IsAdded (close_fits old) old e (held now items)
close_added old about now journal items core bytes room e told was same fits is =
    record {
      fitted = close-case old core.machine.is_shutdown (closed_before old about journal core bytes room told was)
          (λ shut. subst (λ (o : Held Settings Entry). has_places 1 o ≡ true) was
          (places_fit about journal core bytes room told 1
          (let none : first_place core.machine.is_shutdown ≡ first_place true = ap first_place shut in
          omega (arith, fits, none))));
      added = ap (λ (s : Settings). held s items) same ∙ ap (held about) is ∙ ap (with_entry e) was;
    }

refused-close : (old : Held Settings Entry) (refusal : Refusal) → was_closed old ≡ true
    → IsRefused (call_fits old) old old refusal → IsRefused (close_fits old) old old refusal
refused-close old HistoryFull is why = (ap (λ (c : Bool). if c then has_places 1 old else true) is ∙ why.0, why.1)
refused-close old NoMemory is why = (ap (λ (c : Bool). if c then has_places 1 old else true) is ∙ why.0, why.1)

pub close_refused : (old : Held Settings Entry) (about : Settings) (journal items : List Entry) (core : TracedCore)
    (bytes room : ℕ) (refusal : Refusal) → IsReplay about journal core bytes room → held about journal ≡ old
    → items ≡ journal → core.machine.is_shutdown ≡ true → IsNoRoom (length journal + kept_in core.machine + 1) refusal
    → IsRefused (close_fits old) old (held about items) refusal
close_refused old about journal items core bytes room refusal told was same shut why =
    let now : held about items ≡ old = ap (held about) same ∙ was in
    subst (λ (n : Held Settings Entry). IsRefused (close_fits old) old n refusal) (sym now)
    (refused-close old refusal (closed_before old about journal core bytes room told was ∙ shut)
    (subst (λ (n : Held Settings Entry). IsRefused (call_fits old) old n refusal) was
    (call_refused old about journal journal core bytes room refusal told was refl why)))

-- What a token knows stays sound through a turn, a split and a join.
use Rattle.std.proofs.Common.{◌≡◌, ℕ, ◌≤◌, List, [], length, drop, Option, None, Some, sym, refl, ap}
use Rattle.std.proofs.Common.{subst, ⊎_elim, arith}
use Rattle.turns.specs.Turns.{Held, Known, Begins, Agrees, either, Stands, Rises, placed_from}
use Rattle.turns.specs.Turns.{longer, given, newcomer}
use Rattle.turns.specs.Turns.{joined, founder, Takes, IsSound}
use Rattle.turns.proofs.Beginnings.{begins_on, rest_of, longer_cases}
use Rattle.turns.proofs.Steps.{agrees_on}
use Rattle.turns.proofs.Places.{place_below, stands_on, stands_both, placed_stands, placed_rises, rises_both}
use Rattle.dns_multiplexer.specs.Machine.{Settings}
use Rattle.dns_journal.specs.Entries.{Entry}
use Rattle.dns_journal.specs.Calls.{IsJournal}
use Rattle.dns_shared_exchange.specs.Tokens.{IsKnown, first_known}

abbrev Seen : Type 0
Seen = Known Settings Entry

abbrev Value : Type 0
Value = Held Settings Entry

-- the value is taken
pub taken_sound : (before mid : Seen) (found : Value) → Takes before found mid → IsSound before → IsSound mid
taken_sound before mid found took sound = subst (λ (k : Seen). IsSound k) (sym took.2) (record {
  told = begins_on found.journal before.journal before.told took.0 sound.told;
  heard = begins_on found.journal before.journal before.heard took.0 sound.heard;
  agreed = agrees_on before.heard_about before.about (Some found.about) sound.agreed took.1;
  stands = stands_on found.journal before.journal before.own took.0 sound.stands;
  rises = sound.rises;
})

given-sound : (mid : Seen) (left : Value) → Begins left.journal mid.journal → Agrees mid.about (Some left.about)
    → IsSound mid → IsSound (given mid left)
given-sound mid left begun agrees sound =
    let n = length mid.journal in
    let new : List (ℕ × Entry) = placed_from n (drop n left.journal) in
    let stand : Stands left.journal new = subst (λ (j : List Entry). Stands j new)
    (sym (rest_of left.journal mid.journal begun)) (placed_stands mid.journal (drop n left.journal)) in
    let stood : Stands left.journal mid.own = stands_on left.journal mid.journal mid.own begun sound.stands in
    record {
      told = begins_on left.journal mid.journal mid.told begun sound.told;
      heard = begins_on left.journal mid.journal mid.heard begun sound.heard;
      agreed = agrees_on mid.heard_about mid.about (Some left.about) sound.agreed agrees;
      stands = stands_both left.journal mid.own new stood stand;
      rises = rises_both 0 n mid.own new (omega arith) sound.rises
          (λ place has. place_below mid.journal mid.own place sound.stands has)
          (placed_rises n n (drop n left.journal) (omega arith));
    }

-- it is given back
pub given_known : (mid now : Seen) (left : Value) → now ≡ given mid left → Begins left.journal mid.journal
    → Agrees mid.about (Some left.about) → IsSound mid → IsJournal left → IsKnown now
given_known mid now left gave begun agrees sound legal = subst (λ (k : Seen). IsKnown k) (sym gave) (record {
  settings = left.about;
  founded = refl;
  journal = legal;
  sound = given-sound mid left begun agrees sound;
})

-- ---- the first token

pub founder_sound : IsSound {S = Settings} {E = Entry} founder
unfolding Stands Rises
founder_sound = record { told = refl; heard = refl; agreed = tt; stands = tt; rises = tt }

pub first_is : (core : Value) (settings : Settings) → core ≡ record { about = settings; journal = [] }
    → given founder core ≡ first_known settings
unfolding placed_from
first_is core settings is = ap (λ (h : Value). given founder h) is

-- ---- two tokens

pub newcomer_known : (known : Seen) → IsKnown known → IsKnown (newcomer known)
unfolding Stands Rises
newcomer_known known is = record {
  settings = is.settings;
  founded = is.founded;
  journal = is.journal;
  sound = record {
    told = is.sound.told;
    heard = is.sound.heard;
    agreed = is.sound.agreed;
    stands = tt;
    rises = tt;
  };
}

some-same : (one other : Settings) → Some one ≡ Some other → one ≡ other
some-same one other is = cc

-- both know the same settings
same-settings : (one other : Option Settings) (first second : Settings) → one ≡ Some first → other ≡ Some second
    → Agrees other (either one other) → second ≡ first
same-settings (Some about) (Some too) first second is also agrees = cc
same-settings None other first second is also agrees = cc
same-settings (Some about) None first second is also agrees = cc

founded-too : (one other : Option Settings) (first : Settings) → one ≡ Some first → either one other ≡ Some first
founded-too None other first is = cc
founded-too (Some about) other first is = is

-- a journal that can be
abbrev CanBe : Settings → List Entry → Type 0
CanBe settings journal = IsJournal (record { about = settings; journal = journal })

longer-can : (settings : Settings) (one other : List Entry) → CanBe settings one → CanBe settings other
    → CanBe settings (longer one other)
longer-can settings one other first second = ⊎_elim
    (λ (is : (longer one other ≡ one) × (length other ≤ length one)). subst (CanBe settings) (sym is.0) first)
    (λ (is : (longer one other ≡ other) × (length one ≤ length other)). subst (CanBe settings) (sym is.0) second)
    (longer_cases one other)

pub joined_known : (one other : Seen) → IsKnown one → IsKnown other → IsSound (joined one other)
    → IsKnown (joined one other)
joined_known one other first second sound =
    let same = same-settings one.about other.about first.settings second.settings first.founded second.founded sound.agreed in
    record {
      settings = first.settings;
      founded = founded-too one.about other.about first.settings first.founded;
      journal = longer-can first.settings one.journal other.journal first.journal
          (subst (λ (s : Settings). CanBe s other.journal) same second.journal);
      sound = sound;
    }

-- Zones that are asked one after another, as a loop asks them.
use Rattle.std.proofs.Common.{◌≡◌, ◌∙◌, ℕ, List, [], ◌∷◌, ◌++◌, length, Result, Ok, Err, refl, sym, ap, subst}
use Rattle.std.proofs.Common.{append_assoc, append-nil}
use Rattle.dns_model.specs.Names.{Labels}
use Rattle.dns_model.specs.Records.{Rr}
use Rattle.dns_handle.specs.declared.handle.DnsHandle as handle
use Rattle.dns_anchor_keys.specs.Asking.{AsksZones, FailsZone, FailsZones, Failed, Heard, HearsKeys}
use Rattle.dns_anchor_keys.specs.Asking.{keys_before, keys_in}
use Rattle.dns_anchor_keys.specs.declared.fault.AnchorsFault.{AnchorsFault}
use Rattle.dns_anchor_keys.specs.declared.fault.AnchorsFault.TheVariants as fault

before_none : (later : Result (List Rr) AnchorsFault) → keys_before [] later ≡ later
before_none (Ok more) = refl
before_none (Err error) = refl

before_end : (seen : List Rr) → keys_before seen (Ok []) ≡ Ok seen
before_end seen = ap Ok (append-nil seen)

before_more : (seen found : List Rr) (later : Result (List Rr) AnchorsFault)
    → keys_before seen (keys_before found later) ≡ keys_before (seen ++ found) later
before_more seen found (Ok more) = ap Ok (sym (append_assoc seen found more))
before_more seen found (Err error) = refl

pub none_left : {X : Type 0} (left : List X) → length left ≡ 0 → left ≡ []
none_left [] none = refl
none_left (x ∷ rest) none = cc

module _ {H : Type 0} (meanings : handle.Ghosts H) (now : ℕ) where
  -- what the zones that are left answer is, behind these keys, what all answer
  abbrev pub Continues : List Labels → H → List Rr → List Labels → H → Type 0
  Continues zones first keys rest at =
      (new : H) (later : Result (List Rr) AnchorsFault) → AsksZones meanings now rest at new later
      → AsksZones meanings now zones first new (keys_before keys later)

  pub continues_first : (zones : List Labels) (first : H) → Continues zones first [] zones first
  continues_first zones first new later asks =
      subst (AsksZones meanings now zones first new) (sym (before_none later)) asks

  pub continues_more : (zones : List Labels) (first : H) (had : List Rr) (zone : Labels) (rest : List Labels)
      (at mid : H) (keys : List Rr) → Continues zones first had (zone ∷ rest) at
      → HearsKeys meanings now zone at had mid keys → Continues zones first keys rest mid
  unfolding AsksZones
  continues_more zones first had zone rest at mid keys so heard new later asks =
      let found = keys_in zone heard.0.message.answers in
      subst (AsksZones meanings now zones first new)
      (before_more had found later ∙ ap (λ k. keys_before k later) (sym heard.2))
      (so new (keys_before found later) (Heard heard.0 mid later heard.1 asks refl))

  pub continues_end : (zones : List Labels) (first : H) (keys : List Rr) (at : H) → Continues zones first keys [] at
      → AsksZones meanings now zones first at (Ok keys)
  unfolding AsksZones
  continues_end zones first keys at so =
      subst (AsksZones meanings now zones first at) (before_end keys) (so at (Ok []) (refl, refl))

  pub continues_failed : (zones : List Labels) (first : H) (had : List Rr) (zone : Labels) (rest : List Labels)
      (at new : H) (error : AnchorsFault) → Continues zones first had (zone ∷ rest) at
      → FailsZone meanings now zone at new error → FailsZones meanings now zones first new error
  unfolding AsksZones
  continues_failed zones first had zone rest at new (fault.Unanswered asked error) so heard =
      so new (Err (fault.Unanswered asked error))
      (Failed error heard.1 (ap (λ z. Err (fault.Unanswered z error)) heard.0))
  continues_failed zones first had zone rest at new fault.NoKey so heard = absurd heard
  continues_failed zones first had zone rest at new fault.NoMemory so heard = tt

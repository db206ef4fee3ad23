-- Waits for a datagram, one behind the other.
use Rattle.std.proofs.Common.{◌≡◌, ℕ, ◌-◌, ◌<◌, ◌≤◌, List, [], Option, None, Some, refl, sym, ap, ◌∙◌, append-nil, arith}
use Rattle.dns_model.specs.Counts.{one_more}
use Rattle.dns_link.specs.Counts.{CountsValue, with_quiet}
use Rattle.dns_link.specs.Moved.{DatagramValue, and_then}
use Rattle.dns_listener.specs.Datagrams.{WasQuiet}

pub quiet_none : (met : CountsValue) → WasQuiet 0 met met
quiet_none met = record { quiet = omega arith; kept = refl }

-- one wait more
pub quiet_on : (left : ℕ) (met now later : CountsValue) → 0 < left → left ≤ 600 → WasQuiet (600 - left) met now
    → later ≡ with_quiet now → WasQuiet (600 - (left - 1)) met later
quiet_on left met now later some most was is =
    let before = was.quiet in
    let count : later.quiet ≡ one_more now.quiet = ap (λ (c : CountsValue). c.quiet) is in
    record {
      quiet = omega (arith, before, count, some, most);
      kept = is ∙ ap (λ (c : CountsValue). with_quiet c) was.kept
          ∙ ap (λ (q : ℕ). record met { quiet = q }) (sym count);
    }

pub quiet_some : (n : ℕ) (met now : CountsValue) → WasQuiet n met now → WasQuiet 0 met now
quiet_some n met now was = let more = was.quiet in record { quiet = omega (arith, more); kept = was.kept }

pub told_none : (told : Option (List DatagramValue)) → and_then told [] ≡ told
told_none None = refl
told_none (Some all) = ap Some (append-nil all)

-- Calls that are told, one behind the other.
use Rattle.std.proofs.Common.{◌≡◌, List, [], ◌++◌, Option, None, Some, refl, sym, ap, ◌∙◌, append-nil, append_assoc}
use Rattle.dns_handle.specs.declared.io_kind.IoKind.{IoKind}
use Rattle.dns_link.specs.Calls.{IsToldWith, IsToldWithThose, NetCalls, Tells, and_calls, last_fault, no_calls}

-- no call behind calls
pub calls_none : (calls : NetCalls) → and_calls calls no_calls ≡ calls
calls_none calls = ap (λ made. record calls { made = made }) (append-nil calls.made)

last_first : (fault : Option IoKind) → last_fault None fault ≡ fault
last_first None = refl
last_first (Some kind) = refl

-- calls behind none
pub none_calls : (calls : NetCalls) → and_calls no_calls calls ≡ calls
none_calls calls = ap (λ fault. record calls { fault = fault }) (last_first calls.fault)

last_last : (a b c : Option IoKind) → last_fault (last_fault a b) c ≡ last_fault a (last_fault b c)
last_last a b None = refl
last_last a b (Some kind) = refl

pub calls_shift : (a b c : NetCalls) → and_calls (and_calls a b) c ≡ and_calls a (and_calls b c)
calls_shift a b c =
    ap (λ made. record { made = made; fault = last_fault (last_fault a.fault b.fault) c.fault }) (append_assoc a.made b.made c.made)
    ∙ ap (λ fault. record { made = a.made ++ (b.made ++ c.made); fault = fault }) (last_last a.fault b.fault c.fault)

-- what is told now, with calls that come to the same
pub told_same : (before now : Option NetCalls) (more other : NetCalls) → more ≡ other → IsToldWith before more now
    → IsToldWith before other now
told_same before now more other e h = rw (← e) h

pub told_none : (before : Option NetCalls) → IsToldWith before no_calls before
told_none None = tt
told_none (Some calls) = sym (calls_none calls)

pub told_then : (before mid now : Option NetCalls) (one other : NetCalls) → IsToldWith before one mid → IsToldWith mid other now
    → IsToldWith before (and_calls one other) now
told_then before mid None one other h k = tt
told_then before None (Some now) one other h k = absurd k
told_then None (Some mid) (Some now) one other h k = absurd h
told_then (Some before) (Some mid) (Some now) one other h k =
    k ∙ ap (λ calls. and_calls calls other) h ∙ calls_shift before one other

-- an object that tells its calls, after more
pub tells_then : (told now : Option NetCalls) (one other : NetCalls) → Tells told one → IsToldWith told other now
    → Tells now (and_calls one other)
tells_then told None one other h k = tt
tells_then None (Some now) one other h k = absurd k
tells_then (Some told) (Some now) one other h k = k ∙ ap (λ calls. and_calls calls other) h

-- with the calls of an object that is given back
pub told_those : (before mid those now : Option NetCalls) (one other : NetCalls) → IsToldWith before one mid → Tells those other
    → IsToldWithThose mid those now → IsToldWith before (and_calls one other) now
told_those before mid those None one other h tells k = tt
told_those before mid None (Some now) one other h tells k = absurd k
told_those before mid (Some calls) (Some now) one other h tells k =
    told_then before mid (Some now) one other h (told_same mid (Some now) calls other tells k)

-- an object that tells its calls, after its first ones
pub tells_first : (told now : Option NetCalls) (calls : NetCalls) → Tells told no_calls → IsToldWith told calls now → Tells now calls
tells_first told None calls h k = tt
tells_first None (Some now) calls h k = absurd k
tells_first (Some told) (Some now) calls h k = k ∙ ap (λ c. and_calls c calls) h ∙ none_calls calls

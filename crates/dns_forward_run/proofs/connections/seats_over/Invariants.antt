use Rattle.std.proofs.Common.{◌≡◌, ◌+◌, map, length, vec_len}
use Rattle.dns_handle.specs.declared.protocol.Protocol.TheVariants.{Tcp}
use Rattle.dns_forward_run.specs.Settings.{JudgeAlike, judging_in, seats_judging}
use Rattle.dns_forward_run.proofs.connections.seats_over.Given as goal

-- as many holders are left as ports, and the seats so far judge by what the setting trusts
abbrev pub invariant-loop-port : goal.invariant-loop-port
invariant-loop-port g l =
    (map (λ s. s.port) l.seats.items ≡ l.yielded) × (vec_len l.holders + length l.yielded ≡ vec_len l.fn.ports)
    × JudgeAlike (judging_in l.setting.trust Tcp) (seats_judging l.seats.items)

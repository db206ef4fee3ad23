-- What contracts see of a multiplexer: its machine and its generator.
use Rattle.dns_multiplexer.specs.Draws.{CoreValue}
use Rattle.dns_multiplexer.specs.declared.multiplexer.DnsMultiplexer.{DnsMultiplexer}

-- the settings, the requests and what is to be sent, and whether it was shut down
abbrev pub machine_of : {R : Type 0} → DnsMultiplexer R → CoreValue
machine_of multiplexer = multiplexer.core.machine

-- the generator of ids
abbrev pub draws_of : {R : Type 0} → DnsMultiplexer R → R
draws_of multiplexer = multiplexer.draws

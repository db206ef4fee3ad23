use Rattle.dns_listener.proofs.stream_port.send.Goals as goal

pub returns-in-Err : goal.returns-in-Err
returns-in-Err g c = record { error = c.in-Err.error; written = c.in-Err.ensures; told = c.kind_of.ensures }

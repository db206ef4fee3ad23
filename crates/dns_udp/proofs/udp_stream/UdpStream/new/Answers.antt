use Rattle.std.proofs.Common.{Ok, Err}
use Rattle.std.proofs.lemmas.Result.{err_from_is_err_and}
use Rattle.dns_udp.proofs.udp_stream.UdpStream.new.Goals as goal

pub returns-clause-made : goal.returns-clause-made
returns-clause-made g c = record {
  binding = c.binding_for-binding.result;
  chosen = c.binding_for-binding.ensures;
  attempted = c.bind.new.attempted;
  socket = Ok c.in_ok-socket.socket;
  bound = c.in_ok-socket.ensures.bound;
  over = (c.with_bound.ensures.socket, c.with_bound.ensures.queue, c.with_bound.ensures.handle);
}

pub returns-in_err-socket-clause-made : goal.returns-in_err-socket-clause-made
returns-in_err-socket-clause-made g c =
    let p = err_from_is_err_and c.from_residual.result c.from_residual.ensures.1 in
    rw p.1 (record {
      binding = c.binding_for-binding.result;
      chosen = c.binding_for-binding.ensures;
      attempted = c.bind.new.attempted;
      socket = Err _;
      bound = c.in_err-socket.ensures.bound;
      over = p.2;
    })

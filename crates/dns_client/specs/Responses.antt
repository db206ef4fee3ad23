-- What comes for a request that was sent, as a future of the first response, or as a stream of each (RFC 1035, 4.2.1).
use Rattle.std.specs.Prelude.{Option}
use Rattle.dns_mux.specs.FirstAnswers.{stream_in}
use Rattle.dns_client.specs.declared.responses.ClientResponse.{ClientResponse}
use Rattle.dns_client.specs.declared.responses.ClientStreamingResponse.{ClientStreamingResponse}

-- the stream that is read for its first item, until that came
abbrev pub awaited_of : {S : Type 0} → ClientResponse S → Option S
awaited_of response = stream_in response.first

-- the stream whose items are given
abbrev pub read_from : {S : Type 0} → ClientStreamingResponse S → S
read_from response = response.stream

use Rattle.dns_polled_exchange.proofs.background.DnsExchangeBackground.+run.Given as goal

abbrev pub decreases-run : goal.decreases-run
decreases-run g l = l.left

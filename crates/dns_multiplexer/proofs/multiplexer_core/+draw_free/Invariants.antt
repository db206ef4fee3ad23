use Rattle.dns_multiplexer.proofs.multiplexer_core.+draw_free.Given as goal

abbrev pub decreases-draw_free : goal.decreases-draw_free
decreases-draw_free g l = l.left

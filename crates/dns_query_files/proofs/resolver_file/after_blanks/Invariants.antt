use Rattle.std.proofs.Common.{◌≡◌, length}
use Rattle.dns_query_files.specs.ResolverFiles.{after_blanks}
use Rattle.dns_query_files.proofs.resolver_file.after_blanks.Given as goal

abbrev pub invariant-blanks : goal.invariant-blanks
invariant-blanks l = after_blanks l.rest ≡ after_blanks l.bytes

abbrev pub decreases-blanks : goal.decreases-blanks
decreases-blanks l = length l.rest

use Rattle.std.proofs.Common.{◌≡◌, ◌+◌, ◌≤◌, length}
use Rattle.dns_query_files.specs.ResolverFiles.{word_size}
use Rattle.dns_query_files.proofs.resolver_file.word_size.Given as goal

-- the bytes that were passed and those that are left of the word are the word
abbrev pub invariant-bytes : goal.invariant-bytes
invariant-bytes l =
    (word_size l.rest + length l.bytes ≡ word_size l.bytes + length l.rest) ×
    (length l.rest ≤ length l.bytes)

abbrev pub decreases-bytes : goal.decreases-bytes
decreases-bytes l = length l.rest

use Rattle.std.proofs.Common.{◌≡◌, ◌-◌, ◌≤◌, vec_len}
use Rattle.std.specs.Io.KnownBytes.{Consumes}
use Rattle.dns_io.proofs.source.read_all.Given as goal

-- what was read so far is kept, and is no more than the limit and one byte
abbrev pub invariant-loop-all : goal.invariant-loop-all
invariant-loop-all g l = record {
  piece : vec_len l.piece ≡ 65536;
  bound : vec_len l.all ≤ 16777217;
  later : g.S.Source.faults l.fn.source ≤ g.S.Source.faults l.source;
  read : Consumes (g.S.Source.left l.fn.source) (g.S.Source.left l.source) l.all.items;
}

-- the bytes that may still be read
abbrev pub decreases-loop-all : goal.decreases-loop-all
decreases-loop-all g l = 16777217 - vec_len l.all

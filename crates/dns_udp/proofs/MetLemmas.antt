-- What is met adds up.
use Rattle.std.proofs.Common.{◌≡◌, ℕ, ◌+◌, Option, None, Some, Result, Ok, Err, arith}
use Rattle.std.specs.declared.net.socket_addr.SocketAddr.{SocketAddr}
use Rattle.dns_model.specs.Counts.{one_more}
use Rattle.dns_handle.specs.declared.io_kind.IoKind.{IoKind}
use Rattle.dns_link.specs.Counts.{CountsValue, after_receive, no_counts, sum_counted, with_counts, with_end, with_fault}
use Rattle.dns_udp.specs.Met.{Meets, RisesBy, one_met, sum_met}
use Rattle.dns_udp.specs.Bindings.{only_faults}

-- ---- one count

rises_none : (b : ℕ) → RisesBy b 0 b
rises_none b = omega arith

rises_then : (a b c m n : ℕ) → RisesBy a m b → RisesBy b n c → RisesBy a (m + n) c
rises_then a b c m n h k = omega arith

rises_one : (b : ℕ) → RisesBy b 1 (one_more b)
rises_one b = omega arith

rises_sum : (a b m s n : ℕ) → RisesBy a m b → RisesBy 0 n s → RisesBy a (m + n) (sum_counted b s)
rises_sum a b m s n h k = omega arith

-- ---- four counts

pub meets_none : (c : CountsValue) → Meets c c no_counts
meets_none c = record {
  faults = rises_none c.faults;
  ends = rises_none c.ends;
  gots = rises_none c.gots;
  quiet = rises_none c.quiet;
}

pub meets_then : (a b c m n : CountsValue) → Meets a b m → Meets b c n → Meets a c (sum_met m n)
meets_then a b c m n h k = record {
  faults = rises_then a.faults b.faults c.faults m.faults n.faults h.faults k.faults;
  ends = rises_then a.ends b.ends c.ends m.ends n.ends h.ends k.ends;
  gots = rises_then a.gots b.gots c.gots m.gots n.gots h.gots k.gots;
  quiet = rises_then a.quiet b.quiet c.quiet m.quiet n.quiet h.quiet k.quiet;
}

pub meets_fault : (c : CountsValue) → Meets c (with_fault c) (only_faults 1)
meets_fault c = record {
  faults = rises_one c.faults;
  ends = rises_none c.ends;
  gots = rises_none c.gots;
  quiet = rises_none c.quiet;
}

pub meets_end : (c : CountsValue) → Meets c (with_end c) (record { faults = 0; ends = 1; gots = 0; quiet = 0 })
meets_end c = record {
  faults = rises_none c.faults;
  ends = rises_one c.ends;
  gots = rises_none c.gots;
  quiet = rises_none c.quiet;
}

-- a socket that is given back
pub meets_back : (a b m s n : CountsValue) → Meets a b m → Meets no_counts s n → Meets a (with_counts b s) (sum_met m n)
meets_back a b m s n h k = record {
  faults = rises_sum a.faults b.faults m.faults s.faults n.faults h.faults k.faults;
  ends = rises_sum a.ends b.ends m.ends s.ends n.ends h.ends k.ends;
  gots = rises_sum a.gots b.gots m.gots s.gots n.gots h.gots k.gots;
  quiet = rises_sum a.quiet b.quiet m.quiet s.quiet n.quiet h.quiet k.quiet;
}

-- a wait for a datagram
pub meets_receive : (c : CountsValue) (result : Result (Option (ℕ × SocketAddr)) IoKind)
    → Meets c (after_receive result c) (one_met result)
meets_receive c (Ok None) = record {
  faults = rises_none c.faults;
  ends = rises_none c.ends;
  gots = rises_none c.gots;
  quiet = rises_one c.quiet;
}
meets_receive c (Ok (Some came)) = record {
  faults = rises_none c.faults;
  ends = rises_none c.ends;
  gots = rises_one c.gots;
  quiet = rises_none c.quiet;
}
meets_receive c (Err kind) = meets_fault c

-- ---- sums

abbrev four : ℕ → ℕ → ℕ → ℕ → CountsValue
four f e g q = record { faults = f; ends = e; gots = g; quiet = q }

counts_same : (f e g q a b c d : ℕ) → f ≡ a → e ≡ b → g ≡ c → q ≡ d
    → four f e g q ≡ four a b c d
counts_same f e g q a b c d h i j k = cc

pub sum_none : (m : CountsValue) → m ≡ sum_met no_counts m
sum_none m = counts_same (m.faults) (m.ends) (m.gots) (m.quiet)
    (0 + m.faults) (0 + m.ends) (0 + m.gots) (0 + m.quiet)
    (omega arith) (omega arith) (omega arith) (omega arith)

pub sum_none_last : (m : CountsValue) → m ≡ sum_met m no_counts
sum_none_last m = counts_same (m.faults) (m.ends) (m.gots) (m.quiet)
    (m.faults + 0) (m.ends + 0) (m.gots + 0) (m.quiet + 0)
    (omega arith) (omega arith) (omega arith) (omega arith)

pub sum_shift : (a b c : CountsValue) → sum_met (sum_met a b) c ≡ sum_met a (sum_met b c)
sum_shift a b c = counts_same (a.faults + b.faults + c.faults) (a.ends + b.ends + c.ends) (a.gots + b.gots + c.gots)
    (a.quiet + b.quiet + c.quiet)
    (a.faults + (b.faults + c.faults)) (a.ends + (b.ends + c.ends)) (a.gots + (b.gots + c.gots))
    (a.quiet + (b.quiet + c.quiet))
    (omega arith) (omega arith) (omega arith) (omega arith)

pub sum_swap : (a b c : CountsValue) → sum_met (sum_met a b) c ≡ sum_met (sum_met a c) b
sum_swap a b c = counts_same (a.faults + b.faults + c.faults) (a.ends + b.ends + c.ends) (a.gots + b.gots + c.gots)
    (a.quiet + b.quiet + c.quiet)
    (a.faults + c.faults + b.faults) (a.ends + c.ends + b.ends) (a.gots + c.gots + b.gots) (a.quiet + c.quiet + b.quiet)
    (omega arith) (omega arith) (omega arith) (omega arith)

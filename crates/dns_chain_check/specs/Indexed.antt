-- For private functions of this crate only: the rdatas of a link's set, in an index.
use Rattle.std.specs.Prelude.{ℕ, ◌≡◌, List, []}
use Rattle.std.specs.Borrow.{Bor}
use Rattle.std.specs.declared.cmp.Ordering.{Ordering}
use Rattle.std.specs.Ordering.{nat_cmp}
use Rattle.std.specs.Cmp.Lexicographic.{slice_cmp}
use Rattle.std.specs.BTreeSet.{BTreeSet, contains}
use Rattle.dns_model.specs.Chains.{LinkValue, KeySet, Signed, has_bytes}

-- by the bytes that references show
abbrev pub by_bytes : Bor (List ℕ) → Bor (List ℕ) → Ordering
by_bytes a b = slice_cmp nat_cmp a.now b.now

-- the index has these rdatas and no others
abbrev pub Holds : BTreeSet (Bor (List ℕ)) → List (List ℕ) → Type 0
Holds index rdatas = (q : Bor (List ℕ)) → contains by_bytes index q ≡ has_bytes rdatas q.now

-- the rdatas of a link's set
abbrev pub members_in : LinkValue → List (List ℕ)
members_in (KeySet owner class keys links) = keys
members_in (Signed owner class rtype rdatas sig key_link key) = rdatas
members_in _ = []

-- the index has those of a link
abbrev pub IndexesLink : BTreeSet (Bor (List ℕ)) → LinkValue → Type 0
IndexesLink index link = Holds index (members_in link)

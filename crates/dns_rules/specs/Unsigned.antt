-- Sets and answers without a signature that counts: whether their zone is signed at all (RFC 4035, 4.3 and 5.2).
use Rattle.std.specs.Prelude.{ℕ, Bool, not, ◌==◌, ◌&&◌, ◌++◌, None, if◌then◌else◌}
use Rattle.std.specs.List.{list_any}
use Rattle.dns_model.specs.declared.proof.Proof.TheVariants as proof
use Rattle.dns_model.specs.Names.{Labels, name_eq, parent}
use Rattle.dns_model.specs.Types.{type_ns, type_ds, type_nsec3}
use Rattle.dns_model.specs.Records.{Rr, RrSet, Question}
pub use Rattle.dns_model.specs.Sections.{is_empty}
use Rattle.dns_model.specs.SoundAnswers.{Told, PlacedSet}
use Rattle.dns_rules.specs.MarkedSets.{MarkedSet}
use Rattle.dns_rules.specs.Marks.{Mark}
use Rattle.dns_rules.specs.Delegations.{ZoneVerdict, Signed, Insecure, Bogus}

-- the question for the NS records of a name, by which the zone of a name is searched
abbrev pub ns_question : ℕ → Labels → Question
ns_question class name = record { owner = name; rtype = type_ns; class = class }

-- the records that were heard hold an NS record of the name, in whatever section
abbrev pub is_ns_of : Labels → Rr → Bool
is_ns_of name r = name_eq name r.owner && (r.rtype == type_ns)

abbrev pub has_ns : Labels → Told → Bool
has_ns name told = list_any (is_ns_of name) (told.answers ++ told.authorities ++ told.additionals)

-- where the search for a set's zone begins: an NSEC3 stands right below its zone (RFC 5155, 3)
abbrev pub set_start : RrSet → Labels
set_start set = if set.rtype == type_nsec3 then parent set.owner else set.owner

-- where that for a question's zone begins: a DS stands in the zone above (RFC 4035, 2.4)
abbrev pub question_start : Question → Labels
question_start q = if q.rtype == type_ds then parent q.owner else q.owner

-- no signature covers the set, and it isn't DS: its zone decides. A DS set without a signature never is excused
abbrev pub needs_zone : RrSet → Bool
needs_zone set = is_empty set.signatures && not (set.rtype == type_ds)

-- an unsigned set is Insecure where its zone is, and else Bogus
abbrev pub unsigned_mark : ZoneVerdict → Mark
unsigned_mark (Signed ds) = record { mark = proof.Bogus; sig = None }
unsigned_mark (Insecure kind) = record { mark = proof.Insecure; sig = None }
unsigned_mark (Bogus kind) = record { mark = proof.Bogus; sig = None }

-- an unsigned set that isn't DNSKEY, judged by the verdict on its zone
unfoldable pub unsigned_by : PlacedSet → ZoneVerdict → MarkedSet
unsigned_by placed zone = record {
  section = placed.section;
  set = placed.set;
  mark = (unsigned_mark zone).mark;
  sig = (unsigned_mark zone).sig;
}

-- For the crates that search the zone of a name, and for no promise of theirs: what a plain ask comes to.
use Rattle.dns_rules.specs.Probes as probes
use Rattle.dns_trust.specs.declared.searching.NsProbe.{NsProbe}
use Rattle.dns_trust.specs.declared.searching.NsProbe.TheVariants.{Found, Absent, Failed}

-- a probe, as the definitions have it
abbrev pub probe_value : NsProbe → probes.NsProbe
probe_value Found = probes.Found
probe_value Absent = probes.Absent
probe_value Failed = probes.Failed

-- What a plain ask comes to, in the search for the zone of a name (RFC 4035, 4.3 and 5.2).

-- the NS records of the name are there, they aren't, or the ask met a fault or was refused
pub data NsProbe : Type 0 where
  Found : NsProbe
  Absent : NsProbe
  Failed : NsProbe

-- Update messages (RFC 2136, 2): a zone, what must hold of it, and what is to be changed.
use Rattle.std.specs.Prelude.{ℕ, Bool, List, [], ◌∷◌, ◌++◌, map, if◌then◌else◌}
use Rattle.dns_model.specs.Names.{Labels}
use Rattle.dns_model.specs.Types.{type_any, type_soa, class_any}
use Rattle.dns_model.specs.Records.{Rr, RrSet, MessageValue}
use Rattle.dns_update.specs.Parts.{op_update, class_none, message_of, empty_record}

-- the zone stands as the question for its SOA, what must hold among the answers, the changes among the authorities (RFC 2136, 2.3)
abbrev pub update_message : Labels → ℕ → List Rr → List Rr → Bool → MessageValue
update_message zone class prerequisites updates use_edns =
    message_of op_update (record { owner = zone; rtype = type_soa; class = class }) prerequisites updates use_edns

-- there is such a record in the zone, whatever its ttl (RFC 2136, 2.4.2)
abbrev pub must_be : Rr → Rr
must_be r = record r { ttl = 0 }

-- the record is deleted (RFC 2136, 2.5.4)
abbrev pub deletion_of : Rr → Rr
deletion_of r = record r { class = class_none; ttl = 0 }

-- the records are added where there is no set of their name and type (RFC 2136, 2.4.3, 2.5.1)
abbrev pub create_message : RrSet → Labels → Bool → MessageValue
create_message set zone use_edns =
    update_message zone set.class (empty_record set.owner set.rtype class_none ∷ []) set.records use_edns

-- there is a set of that name and type, if that is asked for (RFC 2136, 2.4.1)
abbrev pub some_of : RrSet → Bool → List Rr
some_of set must_exist = if must_exist then empty_record set.owner set.rtype class_any ∷ [] else []

-- the records are added, if it is asked for only to a set that is there (RFC 2136, 2.4.1, 2.5.1)
abbrev pub append_message : RrSet → Labels → Bool → Bool → MessageValue
append_message set zone must_exist use_edns = update_message zone set.class (some_of set must_exist) set.records use_edns

-- where the set is exactly the first one, its records are deleted and those of the other added (RFC 2136, 2.4.2, 2.5.4, 2.5.1)
abbrev pub swap_message : RrSet → RrSet → Labels → Bool → MessageValue
swap_message current new zone use_edns =
    update_message zone current.class (map must_be current.records) (map deletion_of current.records ++ new.records) use_edns

-- the records are deleted, each where it is there (RFC 2136, 2.5.4)
abbrev pub delete_records_message : RrSet → Labels → Bool → MessageValue
delete_records_message set zone use_edns = update_message zone set.class [] (map deletion_of set.records) use_edns

-- all records of the name and type are deleted (RFC 2136, 2.5.2)
abbrev pub delete_set_message : Rr → Labels → Bool → MessageValue
delete_set_message first zone use_edns =
    update_message zone first.class [] (empty_record first.owner first.rtype class_any ∷ []) use_edns

-- all records of the name are deleted (RFC 2136, 2.5.3)
abbrev pub delete_name_message : Labels → Labels → ℕ → Bool → MessageValue
delete_name_message name zone class use_edns =
    update_message zone class [] (empty_record name type_any class_any ∷ []) use_edns

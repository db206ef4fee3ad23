-- Which errors say that there are no records, that a connection is gone, that memory ran out, or that something failed.
use Rattle.std.specs.Prelude.{Bool, true, false, ◌==◌, Option, None}
use Rattle.dns_model.specs.Types.{code_nx_domain}
use Rattle.dns_model.specs.Records.{Rr}
use Rattle.dns_handle.specs.Errors.{ErrorValue, Dns, Io, NoMemory, NoRecordsFound}
use Rattle.dns_handle.specs.declared.io_kind.IoKind.{IoKind}
use Rattle.dns_handle.specs.declared.io_kind.IoKind.TheVariants.{ConnectionReset, ConnectionAborted, NotConnected, BrokenPipe, UnexpectedEof}

-- the name doesn't exist: no records, by code NXDOMAIN (RFC 2308, 2.1)
abbrev pub is_nx_domain : ErrorValue → Bool
is_nx_domain (Dns (NoRecordsFound missing)) = missing.response_code == code_nx_domain
is_nx_domain _ = false

-- there are no records
abbrev pub is_no_records_found : ErrorValue → Bool
is_no_records_found (Dns (NoRecordsFound missing)) = true
is_no_records_found _ = false

-- a connection was there and is gone
abbrev pub is_closed_by : IoKind → Bool
is_closed_by ConnectionReset = true
is_closed_by ConnectionAborted = true
is_closed_by NotConnected = true
is_closed_by BrokenPipe = true
is_closed_by UnexpectedEof = true
is_closed_by _ = false

abbrev pub is_connection_closed : ErrorValue → Bool
is_connection_closed (Io kind) = is_closed_by kind
is_connection_closed _ = false

-- memory ran out
abbrev pub is_no_memory : ErrorValue → Bool
is_no_memory NoMemory = true
is_no_memory _ = false

-- the SOA that came with no records
abbrev pub soa_of : ErrorValue → Option Rr
soa_of (Dns (NoRecordsFound missing)) = missing.soa
soa_of _ = None

-- something failed: each error but want of memory and no records
abbrev pub is_fault : ErrorValue → Bool
is_fault (Dns (NoRecordsFound missing)) = false
is_fault NoMemory = false
is_fault _ = true

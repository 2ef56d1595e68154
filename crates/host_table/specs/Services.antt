-- The entries of a round with no further epoch as services: each of them serves a request.
use Rattle.std.specs.Prelude.{false, List, map, Option, Some, None}
use Rattle.lamport_clocks.specs.Reading.{Reading}
use Rattle.record_text.specs.declared.request.Request.{Request}
use Rattle.host_epochs.specs.declared.told.Entry.{Entry}
use Rattle.host_epochs.specs.declared.told.Meeting.{Meeting}
use Rattle.host_epochs.specs.declared.told.Stop as rounds
use Rattle.host_epochs.specs.declared.views.Row as round_rows
use Rattle.host_table.specs.declared.views.Row.{Row}
use Rattle.host_table.specs.declared.told.Service.{Service}
use Rattle.host_table.specs.declared.told.Stop.{Stop}

-- a scan, of which there is none, stands as a get of key 0
abbrev pub request_in : Option Request → Request
request_in (Some request) = request
request_in None = record { put = false; key = 0; value = None }

abbrev pub service_of : Entry → Service
service_of entry = record {
  place = entry.place;
  worker = entry.worker;
  clock = entry.clock;
  before = entry.before;
  request = request_in entry.request;
  plan = entry.plan;
  after = entry.after;
  later = entry.later;
}

abbrev pub services_of : List Entry → List Service
services_of entries = map service_of entries

-- where a clock ended: at the request for which the worker took the place
abbrev pub end_at : Reading → Meeting → Option Request → Option Stop
end_at clock met (Some request) = Some (record { place = met.place; clock = clock; content = met.content; request = request })
end_at clock met None = None

abbrev pub end_of : Reading → Option Meeting → Option Stop
end_of clock (Some met) = end_at clock met met.request
end_of clock None = None

abbrev pub stop_of : Option rounds.Stop → Option Stop
stop_of (Some stop) = end_of stop.clock stop.met
stop_of None = None

abbrev pub row_of : round_rows.Row → Row
row_of row = record { list = services_of row.list; stop = stop_of row.stop }

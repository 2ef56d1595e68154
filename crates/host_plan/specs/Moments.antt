-- The clock of a worker as it takes an element in and hands it out.
use Rattle.std.specs.Prelude.{◌+◌}
use Rattle.lamport_clocks.specs.declared.stamp.Stamp.{Stamp}
use Rattle.lamport_clocks.specs.Reading.{Reading}
use Rattle.lamport_clocks.specs.Clock.{greater_counter}

-- the clock once an element of this stamp was taken in
abbrev pub taking : Reading → Stamp → Reading
taking clock stamp = record clock { at = record { epoch = clock.at.epoch; counter = 1 + greater_counter clock.at stamp } }

-- the clock once an element was handed out with the next counter
abbrev pub giving : Reading → Reading
giving clock = record clock { at = record { epoch = clock.at.epoch; counter = 1 + clock.at.counter } }

-- the clock once an element of this stamp was taken in and handed out again
abbrev pub renewing : Reading → Stamp → Reading
renewing clock stamp = giving (taking clock stamp)

-- How the clock moves with what a command did (Lamport 1978).
use Rattle.std.specs.Prelude.{◌≡◌, Ok}
use Rattle.lamport_clocks.specs.Reading.{Reading}
use Rattle.lamport_clocks.specs.Clock.{received, sent, advanced}
use Rattle.verifier_commands.specs.Change.{Change, did_add_m, did_evict_m, did_add_b, did_evict_b, did_evict_bm, did_get, did_put, did_next_epoch}

-- With a change the clock stands, takes in the stamp of what came, goes to the stamp of what went, or turns.
abbrev pub Ticks : Reading → Reading → Change → Type 0
Ticks old new (did_add_m parent after child) = new ≡ old
Ticks old new (did_evict_m parent after child) = new ≡ old
Ticks old new (did_add_b child element) = received old element.stamp ≡ Ok new
Ticks old new (did_evict_b child element) = sent old element.stamp ≡ Ok new
Ticks old new (did_evict_bm parent after child element) = sent old element.stamp ≡ Ok new
Ticks old new (did_get entry) = new ≡ old
Ticks old new (did_put before after) = new ≡ old
Ticks old new (did_next_epoch sealed) = advanced old ≡ Ok (sealed, new)

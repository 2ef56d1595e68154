-- No script asks for a key that is out of range. So all events are as they are where no seat owns such a key.
use Rattle.std.proofs.Common.{◌≡◌, ℕ, ◌^◌, Bool, List, [], ◌∷◌, Option, inl, inr, refl, sym, ◌∙◌, ap, subst}
use Rattle.std.specs.Prelude.{◌&&◌}
use Rattle.std.proofs.lemmas.Bool.{lt-ltb}
use Rattle.tree_keys.specs.Path.{key_bits}
use Rattle.lamport_clocks.specs.Reading.{Reading}
use Rattle.record_text.specs.declared.element.Element.{Element}
use Rattle.record_text.specs.declared.request.Request.{Request}
use Rattle.record_text.specs.Tree.{wide_of}
use Rattle.host_shard.specs.Content.{Content}
use Rattle.host_core.specs.Host.{Host}
use Rattle.host_core.specs.World.{World, shard_at}
use Rattle.host_core.specs.WorldEvent.{WorldEvent, takes, loses, serves, gives, advances, moves, opens, raises, enters, scans, finishes, stops, step, IsServing, IsRolling, HasEnded, IsEnabled, AreEnabled, run_events}
use Rattle.shipped_host.specs.Ranges.{AreInRange}
use Rattle.shipped_host.proofs.RangeLaws.{next_in_range}
use Rattle.host_fits.proofs.Keeping.{Setting, host_in, ranged}

module _ (setting : Setting) (keys : AreInRange setting.settings.header setting.script) where
  abbrev host : Host Content Request
  host = host_in setting

  abbrev near : Host Content Request
  near = ranged setting

  -- ---- events

  step_same : (world : World Content) (event : WorldEvent Request) → step near world event ≡ step host world event
  step_same world (takes i place) = refl
  step_same world (loses i place) = refl
  step_same world (serves i place request) = refl
  step_same world (gives i place) = refl
  step_same world (advances i) = refl
  step_same world (moves i s) = refl
  step_same world opens = refl
  step_same world (raises i) = refl
  step_same world (enters i) = refl
  step_same world (scans i place) = refl
  step_same world (finishes i) = refl
  step_same world (stops i found) = refl

  serving : (world : World Content) (i : ℕ) → IsServing host world i → IsServing near world i
  serving world i is = record { going = is.going; phase = is.phase; there = is.there }

  rolling : (world : World Content) (i : ℕ) → IsRolling host world i → IsRolling near world i
  rolling world i is = record { serving = serving world i is.serving; rolling = is.rolling; running = is.running }

  ended : (world : World Content) (clock : Reading) (found : Option Element) → HasEnded host world clock found → HasEnded near world clock found
  ended world clock found (inl last) = inl last
  ended world clock found (inr (inl past)) = inr (inl past)
  ended world clock found (inr (inr at)) = inr (inr (record {
    element = at.element;
    is = at.is;
    of_epoch = at.of_epoch;
    had = record { there = at.had.there; come = at.had.come };
    ends = at.ends;
  }))

  pub enabled : (world : World Content) (event : WorldEvent Request) → IsEnabled host world event → IsEnabled near world event
  enabled world (takes i place) may = record {
    serving = serving world i may.serving;
    there = may.there;
    free = may.free;
    empty = may.empty;
    running = may.running;
  }
  enabled world (loses i place) may = record { serving = serving world i may.serving; held = may.held; empty = may.empty }
  enabled world (serves i place request) may = record {
    serving = serving world i may.serving;
    there = may.there;
    holds = may.holds;
    due = record { phase = may.due.phase; next = may.due.next; begun = may.due.begun; reached = may.due.reached };
    owns = ap (λ (b : Bool). b && host.owns place.shard (shard_at world place.shard).contents place.seat request)
        (lt-ltb request.key (2 ^ key_bits (wide_of setting.settings.header))
        (next_in_range setting.functions setting.settings setting.script keys _ i may.due.phase request may.due.next))
        ∙ may.owns;
  }
  enabled world (gives i place) may = record { serving = serving world i may.serving; holds = may.holds }
  enabled world (advances i) may = record { going = may.going; there = may.there; through = may.through; settled = may.settled; turns = may.turns }
  enabled world (moves i s) may = record {
    going = may.going;
    closing = may.closing;
    there = may.there;
    shard = may.shard;
    turned = may.turned;
    running = may.running;
    own = may.own;
    still = may.still;
    in_order = may.in_order;
  }
  enabled world opens may = record { going = may.going; through = may.through; turned = may.turned; moved = may.moved; more = may.more }
  enabled world (raises i) may = record { rolling = rolling world i may.rolling; wanted = may.wanted; more = may.more; scanned = may.scanned }
  enabled world (enters i) may = record { rolling = rolling world i may.rolling; newer = may.newer; more = may.more }
  enabled world (scans i place) may = record {
    rolling = rolling world i may.rolling;
    shard = may.shard;
    first = may.first;
    holds = may.holds;
    own = may.own;
    before = may.before;
    turned = may.turned;
    earlier = may.earlier;
  }
  enabled world (finishes i) may = record { rolling = rolling world i may.rolling; reached = may.reached }
  enabled world (stops i found) may = record { rolling = rolling world i may.rolling; ended = ended world _ found may.ended }

  pub are_enabled : (world : World Content) (events : List (WorldEvent Request)) → AreEnabled host world events → AreEnabled near world events
  are_enabled world [] all = tt
  are_enabled world (event ∷ events) all = (
    enabled world event all.0,
    subst (λ (w : World Content). AreEnabled near w events) (sym (step_same world event)) (are_enabled (step host world event) events all.1),
  )

  pub run_same : (world : World Content) (events : List (WorldEvent Request)) → run_events near world events ≡ run_events host world events
  run_same world [] = refl
  run_same world (event ∷ events) =
      ap (λ (w : World Content). run_events near w events) (step_same world event) ∙ run_same (step host world event) events

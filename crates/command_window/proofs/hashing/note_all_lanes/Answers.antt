use Rattle.std.proofs.Common.{slice_index, sym, ap, ◌∙◌}
use Rattle.command_window.proofs.GoesOnLemmas.{goes_on-then}
use Rattle.command_window.proofs.hashing.note_all_lanes.Goals as goal

pub places-preserved : goal.places-preserved
places-preserved c = λ functions known.
    let j = c.places.j in
    let so_far = c.places.invariant functions known in
    goes_on-then functions c.args.asked.now c.places.asked c.note_lanes.new.asked so_far
    (c.note_lanes.ensures.goes_on functions
    (known j c.places-test.true ∙ ap functions.lanes (sym (so_far.texts (slice_index c.args.places.now j)))))

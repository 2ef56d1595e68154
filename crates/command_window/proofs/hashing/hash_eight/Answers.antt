use Rattle.std.proofs.Common.{ap, ◌∙◌}
use Rattle.command_window.proofs.hashing.hash_eight.Goals as goal

pub returns-in-Digests : goal.returns-in-Digests
returns-in-Digests g c =
    let functions = g.D.Digests.functions c.args.d.now in
    record {
      goes_on = c.note_digests.ensures.goes_on functions
          (λ j below. c.text_digests-digests.ensures.value j below ∙ ap functions.digest (c.eight_texts.ensures.texts j below));
    }

pub returns-in-Lanes : goal.returns-in-Lanes
returns-in-Lanes g c =
    let functions = g.D.Digests.functions c.args.d.now in
    record {
      goes_on = c.note_all_lanes.ensures.goes_on functions
          (λ j below. c.lanes_of_eight-lanes.ensures.value j below ∙ ap functions.lanes (c.eight_texts-in-Lanes.ensures.texts j below));
    }

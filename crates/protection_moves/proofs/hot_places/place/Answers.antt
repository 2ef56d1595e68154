use Rattle.std.proofs.Common.{map, sym, ap, ◌∙◌}
use Rattle.std.specs.Prelude.{slice_set}
use Rattle.host_shard.specs.declared.content.HotRecord.{HotRecord}
use Rattle.host_shard.specs.Content.{hot}
use Rattle.host_shard.specs.Shown.{shown_content}
use Rattle.protection_moves.proofs.PlaceLemmas.{map_set}
use Rattle.protection_moves.proofs.hot_places.place.Goals as goal

pub returns-in-Some : goal.returns-in-Some
returns-in-Some c = record {
  placed = map_set shown_content c.args.places.now c.in-Some.index _
      ∙ ap (λ (new : HotRecord). slice_set (map shown_content c.args.places.now) c.in-Some.index (hot new)) c.copy.ensures.value
      ∙ sym (c.in-Some.ensures.found.1 c.args.new.now);
}

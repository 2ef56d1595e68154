use Rattle.std.proofs.Common.{◌≡◌, map}
use Rattle.std.specs.Option.{option_copied}
use Rattle.host_shard.specs.Shown.{shown_content}
use Rattle.protection_moves.specs.Places.{content_of}
use Rattle.protection_moves.proofs.PlaceLemmas.{replaced_front}
use Rattle.protection_moves.proofs.hot_places.replace.Given as goal

abbrev pub invariant-loop-content : goal.invariant-loop-content
invariant-loop-content l =
    map shown_content l.places ≡ replaced_front l.content-index l.key (content_of (option_copied l.new)) (map shown_content l.initial.places)

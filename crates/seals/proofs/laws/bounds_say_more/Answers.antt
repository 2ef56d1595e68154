use Rattle.std.proofs.Common.{None}
use Rattle.std.proofs.lemmas.Bool.{leb-true, eqb-true}
use Rattle.verifier_cache.specs.Listed.{entries_in}
use Rattle.verifier_cache.proofs.AlikeLaws.{AreDistinct-from_rises}
use Rattle.seals.specs.Run.{bounds_of}
use Rattle.seals.proofs.MeaningLaws.{clock-says, entries-by_path, entries-by_slot, sums-within, parts-say, parts-small, operations-open, operations-rise}
use Rattle.seals.proofs.laws.bounds_say_more.Goals as goal

pub returns : goal.returns
returns c = record {
  clock = λ header certified taken number run good. clock-says header certified taken run.at run.accepted good.clock;
  few_entries = λ header certified taken number run good. leb-true _ _ good.within;
  by_path = λ header certified taken number run good by_path. entries-by_path (bounds_of header certified number run) run.entries by_path good.entries_stand;
  distinct = λ header certified taken number run good by_path. AreDistinct-from_rises (entries_in run.entries) (entries-by_path (bounds_of header certified number run) run.entries by_path good.entries_stand).rises;
  by_slot = λ header certified taken number run good by_slot. entries-by_slot (bounds_of header certified number run) run.entries by_slot good.entries_stand;
  sums = sums-within;
  parts = λ header certified taken number run good. parts-say (bounds_of header certified number run) run.parts good.parts_stand;
  each_sealed = λ header certified taken number run good. eqb-true _ _ good.each_sealed;
  small_parts = λ header certified taken number run good. parts-small (bounds_of header certified number run) run.parts good.parts;
  operations = λ header certified taken number run good. operations-open header certified number run None run.operations good.operations_stand;
  rising = λ header certified taken number run good. operations-rise (bounds_of header certified number run) None run.operations good.operations_stand;
}

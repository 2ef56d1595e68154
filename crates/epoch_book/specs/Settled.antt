-- What the passes of a book say of its epoch, once all have come together.
use Rattle.std.specs.Prelude.{ℕ, List, Option, find, is_none}
use Rattle.std.specs.Option.{option_map}
use Rattle.epoch_gather.specs.declared.outcome.Verdict.{Verdict}
use Rattle.epoch_gather.specs.Parts.{total}
use Rattle.epoch_gather.specs.Verdict.{verdict_by}
use Rattle.epoch_book.specs.declared.pass.Pass.{Pass}
use Rattle.epoch_book.specs.Passes.{number_of, part_of, parts_of}

-- the first of these that has no part
abbrev pub first_without : List Pass → Option ℕ
first_without passes = option_map number_of (find (λ pass. is_none (part_of pass)) passes)

-- the verdict on what was handed in: the lowest pass with no part, or else whether the joined sums are equal
abbrev pub settled : List Pass → Verdict
settled passes =
    verdict_by (first_without passes) (total (λ part. part.added) (parts_of passes)) (total (λ part. part.evicted) (parts_of passes))

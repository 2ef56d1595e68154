use Rattle.std.proofs.Common.{◌∙◌, None, subst, sym, ℕ, eq-eqb}
use Rattle.record_text.specs.Reading.{u32_at}
use Rattle.seals.specs.Combined.{exactly, row_at}
use Rattle.seals.specs.Answer.{Reads}
use Rattle.seals.specs.Bounds.{sealed_count, part_follows}
use Rattle.seals.specs.Sum.{part_at}
use Rattle.seals.specs.Run.{parts_at}
use Rattle.seals.proofs.RowLaws.{counted_read}
use Rattle.seals.proofs.runs.read_parts.Goals as goal

pub returns : goal.returns
unfolding parts_at
returns c =
    let bounds = c.args.bounds.now in
    let P : ℕ → _ = λ n. Reads (λ made. made.items) c.read_row.result c.read_row.new.reader (row_at (part_follows c.args.bounds.now) (part_at c.args.bounds.now) None n c.u32.new.self) in record {
      reads = counted_read (λ made. made.items) u32_at (exactly (sealed_count c.args.bounds.now)) (part_follows c.args.bounds.now) (part_at c.args.bounds.now) c.args.reader.now c.u32.new.self c.read_row.new.reader c.in-Ok.count c.read_row.result c.in-Ok.ensures.takes
          (eq-eqb c.in-Ok.count (sealed_count c.args.bounds.now) (sym c.from.ensures ∙ (c.if-from-sealed_count.false ∙ c.sealed_count.ensures.value))) (subst P c.from-2.ensures c.read_row.ensures.reads);
    }

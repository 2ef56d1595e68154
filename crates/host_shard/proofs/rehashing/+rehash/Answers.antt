use Rattle.std.proofs.Common.{false, List, sym, ◌∙◌, ap}
use Rattle.host_shard.specs.declared.link.Link.{Link}
use Rattle.host_shard.specs.Chain.{closed_records}
use Rattle.host_shard.specs.Records.{Kept, record_at, values_in, values_of, touches_in}
use Rattle.host_shard.proofs.RehashLemmas.{rehashed_values, rehashed_touches, unless_new, undone_if_new}
use Rattle.host_shard.proofs.rehashing.+rehash.Goals as goal
use Rattle.host_shard.proofs.rehashing.+rehash.Goals.{then-new, else-new}

pub returns-in-Ok-clause-records : goal.returns-in-Ok-clause-records
returns-in-Ok-clause-records g t c =
    let digest = (g.D.Digests.functions c.args.d.now).digest in
    let link : Link = c.in-Some.parts.0.now in
    let rest : List Link = c.in-Some.parts.1.now in
    ap values_in c.set.ensures.set
    ∙ rehashed_values digest (record_at c.args.records.now) (record_at c.rehash.new.records) link rest c.args.last c.in-Ok.becomes
    (c.in-Ok.ensures.records ∙ ap (λ (kept : Kept). closed_records digest false (values_in kept) rest c.args.last) c.in_ok-new.ensures.opened)
    c.in-Ok.ensures.value
    ∙ ap (λ (links : List Link). closed_records digest false (values_of c.args.records.now) links c.args.last) (sym c.in-Some.ensures.cases.0)

pub returns-in-Ok-clause-touches : goal.returns-in-Ok-clause-touches
returns-in-Ok-clause-touches g t c =
    let link : Link = c.in-Some.parts.0.now in
    ap touches_in c.set.ensures.set
    ∙ rehashed_touches (record_at c.args.records.now) (record_at c.rehash.new.records) link.path c.in-Ok.becomes
    (c.in-Ok.ensures.touches ∙ ap touches_in c.in_ok-new.ensures.opened)

pub returns-after-new-clause-as_before : goal.returns-after-new-clause-as_before
returns-after-new-clause-as_before g t c = elim c.if-new.branch [
  | then-new w ↦
      ap record_at w.records-is ∙ w.remove.ensures.removed
      ∙ undone_if_new (record_at c.args.records.now) (record_at c.rehash.new.records) c.in-Some.parts.0.now.path c.in_ok-new.new
      (c.in-Err.ensures.as_before ∙ c.in_ok-new.ensures.opened) c.in_ok-new.ensures.new w.if-new.true
  | else-new w ↦
      ap record_at w.records-is
      ∙ unless_new (record_at c.args.records.now) (record_at c.rehash.new.records) c.in-Some.parts.0.now.path c.in_ok-new.new
      (c.in-Err.ensures.as_before ∙ c.in_ok-new.ensures.opened) c.in_ok-new.ensures.new w.if-new.false
]

use Rattle.std.proofs.Common.{ℕ, List, Option, IsSome, sym, ◌∙◌, subst}
use Rattle.record_text.specs.declared.value.Value.TheVariants as values
use Rattle.record_text.specs.Value.{IsOf}
use Rattle.record_text.specs.Longest.{longest_blob}
use Rattle.host_shard.specs.declared.shard.Shard as code
use Rattle.host_shard.specs.Shard.{key_path_in, touched}
use Rattle.host_shard.specs.Mirrors.{IsShard}
use Rattle.host_shard.specs.Shown.{shown}
use Rattle.host_shard.proofs.ShardLaws.{rehashed_is}
use Rattle.host_plan.proofs.OwnLemmas.{other_touches, read_there}
use Rattle.host_plan.proofs.TypedLemmas.{rehashed_there}
use Rattle.host_plan.proofs.serving.leave.Goals as goal
use Rattle.host_plan.proofs.serving.leave.Goals.{then-not-reads+in_ok-rehash, else-not-reads}

pub touch-requires : goal.touch-requires
touch-requires g c =
    let key = c.args.request.now.key in
    record {
      there = elim c.if-not-reads.branch [
        | then-not-reads+in_ok-rehash w ↦
            subst (λ (shard : code.Shard). IsSome ((shown shard).records (key_path_in (shown shard) key))) (sym w.shard-is)
            (rehashed_there (g.D.Digests.functions c.args.d.now).digest (shown c.args.shard.now) (shown w.rehash.new.self) key c.args.links.now (values.Blob w.copy.result)
            c.requires.own.1.below c.requires.chain w.in_ok-rehash.ensures.rehashed)
        | else-not-reads w ↦
            subst (λ (shard : code.Shard). IsSome ((shown shard).records (key_path_in (shown shard) key))) (sym w.shard-is)
            (read_there (shown c.args.shard.now) c.args.request.now (sym c.reads.ensures.read ∙ w.if-not-reads.false))
      ];
    }

pub returns-clause-fits : goal.returns-clause-fits
returns-clause-fits g c =
    let key = key_path_in (shown c.args.shard.now) c.args.request.now.key in
    let before : IsShard longest_blob (shown c.if-not-reads.shard) = elim c.if-not-reads.branch [
      | then-not-reads+in_ok-rehash w ↦
          subst (λ (shard : code.Shard). IsShard longest_blob (shown shard)) (sym w.shard-is)
          (subst (IsShard longest_blob) (sym w.in_ok-rehash.ensures.rehashed)
          (rehashed_is longest_blob (g.D.Digests.functions c.args.d.now).digest (shown c.args.shard.now) key c.args.links.now (values.Blob w.copy.result)
          (λ text. (g.met.D.Digests.text_digest_shape c.args.d.now text).size) c.requires.own.0 c.requires.own.1
          (subst (λ (blob : Option (List ℕ)). IsOf longest_blob key (values.Blob blob)) (sym w.copy.ensures.value) c.requires.kind) c.requires.chain))
      | else-not-reads w ↦
          subst (λ (shard : code.Shard). IsShard longest_blob (shown shard)) (sym w.shard-is) c.requires.own.0
    ] in
    subst (IsShard longest_blob) (sym c.touch.ensures.touched)
    (other_touches longest_blob (shown c.if-not-reads.shard) (touched (shown c.if-not-reads.shard).touches (key_path_in (shown c.if-not-reads.shard) c.args.request.now.key)) before)

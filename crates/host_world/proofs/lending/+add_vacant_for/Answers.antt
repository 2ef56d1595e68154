use Rattle.std.proofs.Common.{◌≡◌, ℕ, ◌+◌, ◌++◌, length, map, replicate, ◌∙◌, ap, arith}
use Rattle.host_shard.specs.Content.{vacant}
use Rattle.host_shard.specs.Shown.{shown_content}
use Rattle.host_world.proofs.LendLemmas.{vacant_added}
use Rattle.host_world.proofs.lending.+add_vacant_for.Goals as goal

pub returns : goal.returns
returns t c =
    let many : c.len.result ≡ length c.in-Some.seats.now.hot.items = omega (arith, c.len.ensures, c.in-Some.seats.now.hot.ok) in
    record {
      added = vacant_added c.add_vacant_for.result c.in-Some.seats.now c.in-Some.others.now c.args.shards.now (map shown_content c.args.contents.now.items)
          (map shown_content c.add_vacant.new.contents.items) (map shown_content c.add_vacant_for.new.contents.items)
          c.in-Some.ensures.cases.0
          (c.in_ok-add_vacant.ensures.added ∙ ap (λ (n : ℕ). map shown_content c.args.contents.now.items ++ replicate (n + 1) vacant) many)
          c.add_vacant_for.ensures.added;
    }

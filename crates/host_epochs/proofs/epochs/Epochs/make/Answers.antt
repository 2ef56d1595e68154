use Rattle.std.proofs.Common.{◌≡◌, suc, ◌+◌, List, length, replicate, ap, sym, subst, ◌∙◌, arith, rules}
use Rattle.atomic_table.specs.Table.{opening}
use Rattle.host_shard.specs.declared.content.Content.{Content}
use Rattle.host_epochs.specs.Made.{terms_of, first_rows}
use Rattle.host_epochs.specs.Plays.{rack}
use Rattle.host_epochs.specs.Rule.{IsKept}
use Rattle.host_epochs.specs.Terms.{Terms, IsMaking}
use Rattle.host_epochs.specs.Words.{word_count}
use Rattle.host_epochs.proofs.EndLemmas.{opens}
use Rattle.host_epochs.proofs.epochs.Epochs.make.Goals as goal

pub new-requires : goal.new-requires
new-requires g c =
    let terms : Terms = terms_of g.D.Digests.functions (record { digests = c.of.result; header = c.args.header.now; contents = c.of-2.result; workers = c.args.workers; absent = c.args.absent; more = c.args.more }) in
    let same : c.of-2.result.value.items ≡ c.args.contents.items = ap (λ v. v.items) c.of-2.ensures in
    let places : c.len-places.result ≡ length c.of-2.result.value.items = search rules in
    let workers : c.from.result ≡ c.args.workers = search rules in
    let count : c.len-places.result + 2 + c.from.result ≡ word_count terms = omega (arith, places, workers) in
    let zeros : c.in-Ok.words.items ≡ replicate (c.len-places.result + 2 + c.from.result) 0 = c.in-Ok.ensures.items_if_clones_equal (λ y h. search rules) in
    subst (λ (xs : List Content). IsKept terms (opening c.as_slice.result.now xs (rack 0 (first_rows c.args.workers)))) same
    (opens terms c.as_slice.result.now (subst (IsMaking c.args.header.now c.args.workers) (sym same) c.requires.making) (c.as_slice.ensures.value ∙ (zeros ∙ ap (λ n. replicate n 0) count)))

use Rattle.std.proofs.Common.{ℕ, suc, ◌≤◌, Bool, List, length, subst, sym, ◌∙◌, arith}
use Rattle.std.proofs.lemmas.Bool.{true≢false}
use Rattle.tree_keys.specs.Path.{key_bits, IsBelow}
use Rattle.tree_keys.proofs.PathLaws.{is_prefix-length}
use Rattle.record_text.specs.Longest.{longest_blob}
use Rattle.host_shard.specs.Chain.{IsChain}
use Rattle.host_shard.specs.Shard.{wide_in, tree_of}
use Rattle.host_shard.specs.Shown.{shown}
use Rattle.host_shard.proofs.ChainLaws.{frontier_kind}
use Rattle.host_shard.proofs.ChainLemmas.{begun_with, begun_tree, begun_next, next_with, begun_end, begun_few, length_of_key}
use Rattle.host_shard.proofs.chains.chain.Goals as goal

pub loop-end-init : goal.loop-end-init
loop-end-init c =
    begun_with longest_blob (tree_of (shown c.args.shard.now)) c.path_of-end.result c.args.shard.now.frontier c.args.shard.now.value c.in_ok-links.links.items c.toward-ahead.result
    c.in_ok-links.ensures.items c.toward-ahead.ensures.value (frontier_kind longest_blob (shown c.args.shard.now) c.requires.fits.kinds)
    (subst (λ (end : List Bool). IsBelow c.args.shard.now.frontier end) (sym c.path_of-end.ensures.path) c.requires.own.below)

pub next_link-link-requires : goal.next_link-link-requires
next_link-link-requires c = record {
  one_tree = begun_tree (tree_of (shown c.args.shard.now)) c.path_of-end.result c.args.shard.now.frontier c.args.shard.now.value c.loop-end.links.items c.loop-end.at c.loop-end.ahead c.loop-end.invariant
      (λ same. true≢false (sym (c.is_same.ensures.same.1 same) ∙ c.loop-end-test.true));
}

pub loop-end-smaller : goal.loop-end-smaller
loop-end-smaller c =
    let next = begun_next longest_blob (tree_of (shown c.args.shard.now)) c.path_of-end.result c.args.shard.now.frontier c.args.shard.now.value c.loop-end.links.items c.loop-end.at c.loop-end.ahead
    c.next_link-link.result c.path_of-end.ensures.whole c.requires.fits.kinds c.loop-end.invariant (λ same. true≢false (sym (c.is_same.ensures.same.1 same) ∙ c.loop-end-test.true)) c.next_link-link.ensures.value in
    let longer = next.1 in
    let end : length c.next_link-link.result.path ≤ suc (key_bits (wide_in (shown c.args.shard.now))) = subst (λ (n : ℕ). length c.next_link-link.result.path ≤ n) (length_of_key (wide_in (shown c.args.shard.now)) c.path_of-end.result c.args.key c.path_of-end.ensures.path) (is_prefix-length c.next_link-link.result.path c.path_of-end.result next.0.toward) in
    omega arith

pub loop-end-preserved : goal.loop-end-preserved
loop-end-preserved c =
    next_with longest_blob (tree_of (shown c.args.shard.now)) c.path_of-end.result c.args.shard.now.frontier c.args.shard.now.value c.loop-end.links.items c.push.new.self.items c.loop-end.at
    c.loop-end.ahead c.toward-ahead-in-loop-end.result c.next_link-link.result c.path_of-end.ensures.whole c.requires.fits.kinds c.loop-end.invariant
    (λ same. true≢false (sym (c.is_same.ensures.same.1 same) ∙ c.loop-end-test.true)) c.next_link-link.ensures.value c.in_ok-push.ensures.items c.toward-ahead-in-loop-end.ensures.value

pub returns-clause-few : goal.returns-clause-few
returns-clause-few c =
    subst (λ (n : ℕ). n ≤ key_bits (wide_in (shown c.args.shard.now))) (sym c.loop-end.links.ok.0)
    (begun_few (tree_of (shown c.args.shard.now)) c.path_of-end.result c.args.shard.now.frontier c.args.shard.now.value c.loop-end.links.items c.loop-end.at c.loop-end.ahead (wide_in (shown c.args.shard.now)) c.args.key c.loop-end.invariant
    (c.is_same.ensures.same.0 c.loop-end-test.false) c.path_of-end.ensures.path c.requires.fits.below_root)

pub returns-clause-chain : goal.returns-clause-chain
returns-clause-chain c =
    subst (λ (end : List Bool). IsChain (tree_of (shown c.args.shard.now)) end c.args.shard.now.frontier c.args.shard.now.value c.loop-end.links.items) c.path_of-end.ensures.path
    (begun_end (tree_of (shown c.args.shard.now)) c.path_of-end.result c.args.shard.now.frontier c.args.shard.now.value c.loop-end.links.items c.loop-end.at c.loop-end.ahead c.loop-end.invariant
    (c.is_same.ensures.same.0 c.loop-end-test.false))

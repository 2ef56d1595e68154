use Rattle.std.proofs.Common.{List, Bool, subst}
use Rattle.tree_keys.specs.Path.{key_path}
use Rattle.record_text.specs.declared.value.Value.TheVariants as values
use Rattle.record_text.specs.Longest.{longest_blob}
use Rattle.host_shard.specs.Mirrors.{IsKeyOf}
use Rattle.host_shard.specs.Records.{record_at}
use Rattle.host_shard.specs.Shard.{Shard}
use Rattle.host_shard.specs.Shown.{shown}
use Rattle.host_shard.specs.Content.{hot_path}
use Rattle.protection_moves.proofs.SavingLemmas.{no_touches}
use Rattle.protection_moves.proofs.DescentLemmas.{own_tree, own_way, back_typed, returned_is, returning_of, saved_of}
use Rattle.protection_moves.proofs.demoting.rehash_back.Goals as goal

pub chain-requires-clause-own : goal.chain-requires-clause-own
chain-requires-clause-own g c =
    let now : Shard = shown c.args.shard.now in
    subst (λ (wide : Bool). IsKeyOf now (key_path wide c.args.found.now.key)) (own_tree longest_blob now c.args.found.now c.requires.fits c.requires.own) c.requires.own

pub returns-clause-back : goal.returns-clause-back
returns-clause-back g c old is =
    let now : Shard = shown c.args.shard.now in
    let path : List Bool = hot_path c.args.found.now in
    returning_of (g.D.Digests.functions c.args.d.now).digest c.args.found.now old now (shown c.rehash.new.self) c.as_slice-along.result.now c.args.commands.now.items c.log_descent.new.commands.items
    c.pending.result c.copy.result is
    (own_way longest_blob now c.args.found.now c.as_slice-along.result.now c.in_ok-links.links.items c.requires.fits c.requires.own c.as_slice-along.ensures.value c.in_ok-links.ensures.chain)
    c.in_ok-log_descent.ensures.logged c.pending.ensures.value c.in_ok-rehash.ensures.rehashed c.copy.ensures.value

pub returns-clause-saved : goal.returns-clause-saved
returns-clause-saved g c =
    let digest = (g.D.Digests.functions c.args.d.now).digest in
    saved_of digest (shown c.args.shard.now) (shown c.rehash.new.self) c.as_slice-along.result.now c.as_slice-along.result.now (values.Blob c.copy.result) c.in_ok-saved.saved
    c.in_ok-saved.ensures.value c.in_ok-saved.ensures.records (λ path none. no_touches (record_at c.args.shard.now.records) path none)
    (λ k all. all) c.in_ok-rehash.ensures.rehashed

pub returns-clause-typed : goal.returns-clause-typed
returns-clause-typed g c =
    let now : Shard = shown c.args.shard.now in
    let path : List Bool = hot_path c.args.found.now in
    back_typed longest_blob now path c.as_slice-along.result.now c.pending.result c.args.commands.now.items c.log_descent.new.commands.items
    c.requires.fits c.requires.own.whole
    (own_way longest_blob now c.args.found.now c.as_slice-along.result.now c.in_ok-links.links.items c.requires.fits c.requires.own c.as_slice-along.ensures.value c.in_ok-links.ensures.chain)
    c.pending.ensures.kind c.pending.ensures.stamp c.pending.ensures.verifier c.in_ok-log_descent.ensures.logged

pub returns-clause-fits : goal.returns-clause-fits
returns-clause-fits g c =
    let now : Shard = shown c.args.shard.now in
    let path : List Bool = hot_path c.args.found.now in
    returned_is (g.D.Digests.functions c.args.d.now).digest c.args.found.now now (shown c.rehash.new.self) c.as_slice-along.result.now c.pending.result c.copy.result
    (λ text. (g.met.D.Digests.text_digest_shape c.args.d.now text).size) c.requires.fits c.requires.own
    (own_way longest_blob now c.args.found.now c.as_slice-along.result.now c.in_ok-links.links.items c.requires.fits c.requires.own c.as_slice-along.ensures.value c.in_ok-links.ensures.chain)
    c.pending.ensures.value c.pending.ensures.kind c.in_ok-rehash.ensures.rehashed c.copy.ensures.value

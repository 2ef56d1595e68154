use Rattle.std.proofs.Common.{rules, ◌≡◌, ℕ, List, Bool, Option, sym, subst, ap, ◌∙◌, false}
use Rattle.std.specs.List.{AllByRecursion}
use Rattle.tree_keys.specs.Path.{same_path}
use Rattle.record_text.specs.Longest.{longest_blob}
use Rattle.host_shard.specs.declared.link.Link.{Link}
use Rattle.host_shard.specs.declared.content.HotRecord.{HotRecord}
use Rattle.host_shard.specs.Chain.{IsChain, last_value}
use Rattle.host_shard.specs.Records.{record_at}
use Rattle.host_shard.specs.Shard.{key_path_in, wide_in, Shard, tree_of}
use Rattle.host_shard.specs.Shown.{shown}
use Rattle.protection_moves.specs.Descent.{data_of}
use Rattle.protection_moves.specs.Turn.{last_path, deferring}
use Rattle.protection_moves.proofs.SavingLemmas.{no_touches}
use Rattle.protection_moves.proofs.DescentLemmas.{hot_typed, saved_of, lent_shard, lent_is, front_of}
use Rattle.protection_moves.proofs.promoting.promote.Goals as goal

pub returns-clause-lending : goal.returns-clause-lending
returns-clause-lending g c =
    let digest = (g.D.Digests.functions c.args.d.now).digest in
    let path : List Bool = key_path_in (shown c.args.shard.now) c.args.key in
    let now : Shard = shown c.args.shard.now in
    let along : List Link = c.as_slice-along.result.now in
    let way = subst (λ (ls : List Link). IsChain (tree_of now) path now.frontier now.value ls) (sym c.as_slice-along.ensures.value) c.in_ok-links.ensures.chain in
    record {
      links = along;
      way = way;
      commands = c.in_ok-log_descent.ensures.logged;
      record' = ap (λ (wide : Bool). let hot : HotRecord = record { wide = wide; key = c.args.key; value = c.data_of-value.result; stamp = c.args.stamp; evictor = c.args.worker; touches = 0 } in hot)
          c.is_wide.ensures.value
          ∙ ap (λ (value : Option (List ℕ)). let hot : HotRecord = record { wide = wide_in now; key = c.args.key; value = value; stamp = c.args.stamp; evictor = c.args.worker; touches = 0 } in hot)
          (c.data_of-value.ensures.value ∙ ap data_of c.last_value.ensures.value);
      shard = lent_shard digest now (shown c.lend.new.shard) c.args.key along way c.in_ok-lend.ensures.lent;
    }

pub returns-clause-saved : goal.returns-clause-saved
returns-clause-saved g c =
    let digest = (g.D.Digests.functions c.args.d.now).digest in
    let now : Shard = shown c.args.shard.now in
    let lent = c.in_ok-lend.ensures.lent in
    saved_of digest now (shown c.lend.new.shard) c.as_slice-along.result.now lent.above
    (deferring digest (last_path now.frontier lent.above) (last_value now.value lent.above) lent.link) c.in_ok-saved.saved
    c.in_ok-saved.ensures.value c.in_ok-saved.ensures.records (λ path none. no_touches (record_at c.args.shard.now.records) path none)
    (λ k all. front_of (λ (link : Link). same_path k link.path ≡ false) lent.above lent.link (subst (AllByRecursion (λ (link : Link). same_path k link.path ≡ false)) lent.parts all)) lent.rehashed

pub returns-clause-typed : goal.returns-clause-typed
returns-clause-typed g c =
    let now : Shard = shown c.args.shard.now in
    let path : List Bool = key_path_in (shown c.args.shard.now) c.args.key in
    hot_typed longest_blob now path c.as_slice-along.result.now c.args.stamp c.args.commands.now.items c.log_descent.new.commands.items
    c.requires.fits c.requires.own.whole
    (subst (λ (ls : List Link). IsChain (tree_of now) path now.frontier now.value ls) (sym c.as_slice-along.ensures.value) c.in_ok-links.ensures.chain)
    (search rules) c.in_ok-log_descent.ensures.logged

pub returns-clause-fits : goal.returns-clause-fits
returns-clause-fits g c =
    let digest = (g.D.Digests.functions c.args.d.now).digest in
    let now : Shard = shown c.args.shard.now in
    let path : List Bool = key_path_in (shown c.args.shard.now) c.args.key in
    lent_is longest_blob digest now (shown c.lend.new.shard) path c.as_slice-along.result.now (λ text. (g.met.D.Digests.text_digest_shape c.args.d.now text).size)
    c.requires.fits c.requires.own.whole
    (subst (λ (ls : List Link). IsChain (tree_of now) path now.frontier now.value ls) (sym c.as_slice-along.ensures.value) c.in_ok-links.ensures.chain)
    c.in_ok-lend.ensures.lent

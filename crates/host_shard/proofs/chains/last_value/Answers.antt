use Rattle.std.proofs.Common.{sym, ◌∙◌, ap}
use Rattle.std.specs.Option.{option_copied}
use Rattle.host_shard.proofs.ChainLemmas.{last_of}
use Rattle.host_shard.proofs.chains.last_value.Goals as goal

pub returns-in-Some : goal.returns-in-Some
returns-in-Some c = record {
  value = last_of c.args.value.now c.args.links.now c.in-Some.link.now (sym c.last.ensures.value ∙ ap option_copied c.in-Some.is);
}

use Rattle.std.proofs.Common.{sym, ◌∙◌, ap}
use Rattle.std.specs.Option.{option_copied}
use Rattle.host_shard.proofs.ChainLemmas.{end_of}
use Rattle.host_shard.proofs.chains.end_path.Goals as goal

pub returns-in-Some : goal.returns-in-Some
returns-in-Some c = record {
  path = end_of c.args.at.now c.args.links.now c.in-Some.link.now (sym c.last.ensures.value ∙ ap option_copied c.in-Some.is);
}

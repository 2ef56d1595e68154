use Rattle.std.proofs.Common.{sym, ◌∙◌, ap}
use Rattle.std.specs.Option.{option_copied}
use Rattle.protection_moves.proofs.DescentLemmas.{last_path_of}
use Rattle.protection_moves.proofs.promoting.last_path.Goals as goal

pub returns-in-Some : goal.returns-in-Some
returns-in-Some c = record {
  value = last_path_of c.args.at.now c.args.links.now c.in-Some.link.now (sym c.last.ensures.value ∙ ap option_copied c.in-Some.is);
}

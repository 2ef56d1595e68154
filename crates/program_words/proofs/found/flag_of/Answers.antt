use Rattle.std.proofs.Common.{◌∙◌, ap}
use Rattle.clap.proofs.WalkLemmas.{one_text-rows}
use Rattle.clap.specs.Words.{found_of}
use Rattle.program_words.specs.Found.{is_set}
use Rattle.program_words.proofs.FlagLemmas.{flag_read}
use Rattle.program_words.proofs.found.flag_of.Goals as goal

pub returns : goal.returns
returns c = record {
  value = c.unwrap_or.ensures ∙ flag_read _ _ c.get_one.result c.get_one.ensures.none c.get_one.ensures.value
      ∙ ap is_set (one_text-rows (found_of c.args.found.now) c.args.name.now);
}

use Rattle.std.proofs.Common.{◌∙◌, ap}
use Rattle.script_text.specs.Lines.{words_of}
use Rattle.script_text.proofs.SplittingLaws.{words_of-at, words_of-last}
use Rattle.script_text.proofs.splitting.split_word.Goals as goal

pub returns-in-Some : goal.returns-in-Some
returns-in-Some c = record { words = ap words_of c.in-Some.ensures.parts.0 ∙ words_of-at _ _ c.in-Some.ensures.parts.1 }

pub returns-in-None : goal.returns-in-None
returns-in-None c = record { words = words_of-last c.args.line.now c.in-None.ensures.parts }

use Rattle.std.proofs.Common.{◌∙◌, ap}
use Rattle.script_text.specs.Lines.{lines_of}
use Rattle.script_text.proofs.SplittingLaws.{lines_of-at, lines_of-whole}
use Rattle.script_text.proofs.splitting.split_line.Goals as goal

pub returns-in-Some-clause-lines : goal.returns-in-Some-clause-lines
returns-in-Some-clause-lines c = ap lines_of c.in-Some.ensures.parts.0 ∙ lines_of-at _ _ c.in-Some.ensures.parts.1

pub returns-in-None-clause-lines : goal.returns-in-None-clause-lines
returns-in-None-clause-lines c = lines_of-whole c.args.script.now c.requires.some c.in-None.ensures.parts

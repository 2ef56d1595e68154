use Rattle.seals.proofs.HeaderLaws.{all_bytes_fit}
use Rattle.seals.proofs.RunLaws.{codec-run}
use Rattle.seals.proofs.laws.runs_are_read_back.Goals as goal

pub returns : goal.returns
returns c = record {
  read = λ header certified taken number run rest good. (codec-run header certified taken number).again run rest good;
  spelled = λ header certified taken number bytes run rest fits is.
      let f = (codec-run header certified taken number).begins bytes run rest (all_bytes_fit bytes fits) is in
      (f.0.parts, f.1);
}

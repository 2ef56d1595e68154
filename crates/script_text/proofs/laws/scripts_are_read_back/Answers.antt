use Rattle.script_text.proofs.WrittenLemmas.{script-written}
use Rattle.script_text.proofs.SpelledLemmas.{script-spelled}
use Rattle.script_text.proofs.laws.scripts_are_read_back.Goals as goal

pub returns : goal.returns
returns c = record {
  written = script-written;
  spelled = λ verifiers bytes phases few is. (script-spelled verifiers bytes phases few is).0;
  tasks = λ verifiers bytes phases few is. (script-spelled verifiers bytes phases few is).1;
}

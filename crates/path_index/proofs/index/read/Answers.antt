use Rattle.std.proofs.Common.{arith}
use Rattle.path_index.proofs.IndexLemmas.{seen-read}
use Rattle.path_index.proofs.index.read.Goals as goal

pub returns : goal.returns
returns c = record { value = seen-read _ _ _ _ _ c.lies.ensures.value (omega (arith, c.lies.ensures.within, c.requires.blocks)) c.index-marks-lies.is }

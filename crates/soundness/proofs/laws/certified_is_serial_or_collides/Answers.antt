use Rattle.soundness.proofs.SoundLaws.{histories_sound, sound}
use Rattle.soundness.proofs.WholeLaws.{certified_sound}
use Rattle.soundness.proofs.laws.certified_is_serial_or_collides.Goals as goal

pub returns : goal.returns
returns c = record { histories = histories_sound; sound = sound; certified = certified_sound }

-- What a fault says of the bytes that were read so far.
use Rattle.record_text.specs.declared.reader.TextFault.TheVariants.{Malformed, Truncated}
use Rattle.seals.specs.declared.fault.Fault.{Fault}
use Rattle.seals.specs.declared.fault.Fault.TheVariants.{Text, Memory}
use Rattle.seals.specs.declared.answer.SealFront.{SealFront}
use Rattle.seals.specs.declared.answer.SealFront.TheVariants as fronts

abbrev pub front_of : Fault → SealFront
front_of (Text Truncated) = fronts.Open
front_of (Text Malformed) = fronts.BadSeal
front_of Memory = fronts.Memory

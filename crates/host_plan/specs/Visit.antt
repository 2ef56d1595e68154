-- The commands along a chain, and those round an element that is taken in and handed out again.
use Rattle.std.specs.Prelude.{Bool, List, [], ◌∷◌, ◌++◌}
use Rattle.lamport_clocks.specs.declared.stamp.Stamp.{Stamp}
use Rattle.record_text.specs.declared.element.Element.{Element}
use Rattle.log_codec.specs.declared.command.Command.{Command}
use Rattle.log_codec.specs.declared.command.Command.TheVariants.{AddM, EvictM, AddB, EvictB}
use Rattle.host_shard.specs.declared.link.Link.{Link}

-- The commands that add the paths of a chain, each under the one before, do what is to be done at its end, and evict
-- them in reverse.
abbrev pub visit : List Bool → List Link → List Command → List Command
visit at [] inner = inner
visit at (link ∷ links) inner =
    AddM link.path link.value at ∷ (visit link.path links inner ++ EvictM link.path at ∷ [])

-- Taking an element in, doing something, and handing its path out with this stamp.
abbrev pub between : Element → Stamp → List Command → List Command
between element stamp inner =
    AddB element.path element.value element.stamp element.verifier ∷ (inner ++ EvictB element.path stamp ∷ [])

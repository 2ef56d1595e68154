-- Want of memory, the one value of its type.
use Rattle.base_words.specs.declared.memory.Memory.{Memory}

-- the one value of the error
abbrev pub memory : Memory
memory = record {}

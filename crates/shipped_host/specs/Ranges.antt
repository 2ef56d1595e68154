-- What a script may ask of the shipped host.
use Rattle.std.specs.Prelude.{◌^◌, ◌<◌, List}
use Rattle.std.specs.List.{AllByRecursion}
use Rattle.tree_keys.specs.Path.{key_bits}
use Rattle.lamport_clocks.specs.declared.header.Header.{Header}
use Rattle.record_text.specs.Longest.{longest_of}
use Rattle.record_text.specs.Value.{IsBlob}
use Rattle.record_text.specs.Tree.{wide_of}
use Rattle.script_text.specs.declared.task.Task.{Task}

-- each key that the script asks for has no more bits than those of a bundle with this header
abbrev pub AreInRange : Header → List (List Task) → Type 0
AreInRange header script = AllByRecursion (λ phase. AllByRecursion (λ task. task.request.key < 2 ^ key_bits (wide_of header)) phase) script

-- each value that the script asks for has no more bytes than a data value of a bundle with this header
abbrev pub HaveShortValues : Header → List (List Task) → Type 0
HaveShortValues header script = AllByRecursion (λ phase. AllByRecursion (λ task. IsBlob (longest_of header) task.request.value) phase) script

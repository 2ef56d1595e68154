-- What phases are written as: the one spelling of a script, each line with its end.
use Rattle.std.specs.Prelude.{◌≡◌, ◌⊎◌, ℕ, ◌<◌, ◌≤◌, ◌^◌, Bool, true, false, List, [], ◌∷◌, ◌++◌, length, Option, Some, None, codes}
use Rattle.std.specs.Fmt.{decimal}
use Rattle.std.specs.List.{flat_map, AllByRecursion}
use Rattle.std.specs.Option.{ForSome}
use Rattle.hex.specs.Hex.{encode_lower, IsBytes}
use Rattle.tree_keys.specs.Path.{key_bits}
use Rattle.lamport_clocks.specs.declared.header.Header.{Header}
use Rattle.record_text.specs.Longest.{longest_of}
use Rattle.record_text.specs.Tree.{wide_of}
use Rattle.script_text.specs.declared.task.Task.{Task}

-- the bytes of a data value as a word: a point for none of them, else two digits each
abbrev pub value_word : List ℕ → List ℕ
value_word [] = codes "."
value_word (byte ∷ bytes) = encode_lower (byte ∷ bytes)

-- the words behind the number of a worker
abbrev pub request_words : Bool → ℕ → Option (List ℕ) → List ℕ
request_words false key value = codes " get " ++ decimal key
request_words true key None = codes " del " ++ decimal key
request_words true key (Some bytes) = codes " put " ++ decimal key ++ codes " " ++ value_word bytes

-- the line of a task
unfoldable pub task_line : Task → List ℕ
task_line task = decimal task.worker ++ request_words task.request.put task.request.key task.request.value

-- the same with its end
abbrev pub task_text : Task → List ℕ
task_text task = task_line task ++ codes "\n"

-- the lines of a phase
abbrev pub phase_text : List Task → List ℕ
phase_text phase = flat_map task_text phase

-- the lines of phases behind a first one, each behind the close of an epoch
abbrev pub behind_text : List (List Task) → List ℕ
behind_text phases = flat_map (λ phase. codes "epoch\n" ++ phase_text phase) phases

-- the script of these phases
unfoldable pub script_text : List (List Task) → List ℕ
script_text [] = []
script_text (phase ∷ phases) = phase_text phase ++ behind_text phases

-- what a line can ask in a script for this header: one of its workers, a key of its tree, no longer a value than it allows,
-- and of a get no value
pub record IsTask (header : Header) (task : Task) : Type 0 where
  pub worker : task.worker < header.verifiers
  pub key : task.request.key < 2 ^ key_bits (wide_of header)
  pub size : ForSome task.request.value (λ bytes. length bytes ≤ longest_of header)
  pub bytes : ForSome task.request.value IsBytes
  pub get : task.request.put ≡ false → task.request.value ≡ None

-- each task of each phase is one that a line can ask
abbrev pub AreTasks : Header → List (List Task) → Type 0
AreTasks header phases = AllByRecursion (λ phase. AllByRecursion (IsTask header) phase) phases

-- bytes are the script of these phases, but that the last line may lack its end
abbrev pub IsScriptOf : List (List Task) → List ℕ → Type 0
IsScriptOf phases bytes = (bytes ≡ script_text phases) ⊎ (bytes ++ codes "\n" ≡ script_text phases)

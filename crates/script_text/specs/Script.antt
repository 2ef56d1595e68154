-- What bytes mean as a script.
use Rattle.std.specs.Prelude.{◌≡◌, ℕ, ◌+◌, nat_lt, Bool, true, false, List, [], ◌∷◌, ◌++◌, length, Option, Some, None, Result, Ok, Err, codes, if◌then◌else◌}
use Rattle.std.specs.List.{onto_first}
use Rattle.std.specs.Option.{option_map}
use Rattle.std.specs.Str.{bytes_eq}
use Rattle.base_words.specs.Steps.{need, and_then}
use Rattle.lamport_clocks.specs.declared.header.Header.{Header}
use Rattle.record_text.specs.declared.cause.Cause.{Cause}
use Rattle.record_text.specs.declared.request.Request.{Request}
use Rattle.record_text.specs.declared.cause.Cause.TheVariants.{Shape, Worker, Key, Hex}
use Rattle.record_text.specs.Longest.{longest_of}
use Rattle.record_text.specs.Tree.{wide_of}
use Rattle.script_text.specs.declared.fault.ScriptFault.{ScriptFault}
use Rattle.script_text.specs.declared.fault.ScriptFault.TheVariants.{BadScript, Memory}
use Rattle.script_text.specs.declared.task.Task.{Task}
use Rattle.script_text.specs.declared.task.Line.{Line}
use Rattle.script_text.specs.declared.task.Line.TheVariants as said
use Rattle.script_text.specs.Lines.{lines_of, words_of}
use Rattle.script_text.specs.Words.{worker_in, key_in, value_in}

-- ---- one line

-- the most bytes of a line, without its end: 256 in versions 1 and 2, and 640 in version 3
abbrev pub longest_line : Header → ℕ
longest_line header = if nat_lt header.version 3 then 256 else 640

-- what words ask for: a get or a put, the word of its key, and what is put, where the word of that is a data value
pub record Asked : Type 0 where
  pub put : Bool
  pub key : List ℕ
  pub value : Option (Option (List ℕ))

abbrev pub asking : Bool → List ℕ → Option (Option (List ℕ)) → Asked
asking put key value = record { put = put; key = key; value = value }

-- the forms of words, from the one on that says what is asked, by their number and that word
abbrev pub asked_by : ℕ → List (List ℕ) → Option Asked
asked_by longest (verb ∷ key ∷ []) =
    if bytes_eq verb (codes "get") then Some (asking false key (Some None))
    else if bytes_eq verb (codes "del") then Some (asking true key (Some None))
    else None
asked_by longest (verb ∷ key ∷ value ∷ []) =
    if bytes_eq verb (codes "put") then Some (asking true key (option_map Some (value_in longest value))) else None
asked_by longest words = None

-- the request that is asked, its key and then its value tested, and what is made of it
abbrev pub request_then : {A : Type 0} → Bool → Asked → (Request → Result A Cause) → Result A Cause
request_then wide asked made =
    need (key_in wide asked.key) Key (λ key. need asked.value Hex (λ value. made (record { put = asked.put; key = key; value = value })))

-- the task of a worker, tested in this order
unfoldable pub task_in : Header → List ℕ → Asked → Result Line Cause
task_in header worker asked =
    need (worker_in header.verifiers worker) Worker (λ w.
    request_then (wide_of header) asked (λ request.
    Ok (said.Task (record { worker = w; request = request }))))

-- what the words of a line say: one closes an epoch, and behind a worker's stands what is asked
unfoldable pub words_say : Header → List (List ℕ) → Result Line Cause
words_say header [] = Err Shape
words_say header (word ∷ []) = if bytes_eq word (codes "epoch") then Ok said.Epoch else Err Shape
words_say header (worker ∷ verb ∷ words) = need (asked_by (longest_of header) (verb ∷ words)) Shape (task_in header worker)

-- What a line says in a script for this header, or the first cause for which it is refused.
unfoldable pub line_says : Header → List ℕ → Result Line Cause
line_says header line = if nat_lt (longest_line header) (length line) then Err Shape else words_say header (words_of line)

-- ---- all lines

-- a line that is refused, by its number and cause
pub record BadLine : Type 0 where
  pub line : ℕ
  pub cause : Cause

-- a refused line by its number
abbrev pub at_line : {A : Type 0} → ℕ → Result A Cause → Result A BadLine
at_line number (Ok value) = Ok value
at_line number (Err cause) = Err (record { line = number; cause = cause })

-- what lines say, the first of which has this number, or the first of them that is refused
unfoldable pub lines_say : Header → ℕ → List (List ℕ) → Result (List Line) BadLine
lines_say header number [] = Ok []
lines_say header number (line ∷ lines) =
    and_then (at_line number (line_says header line)) (λ first.
    and_then (lines_say header (number + 1) lines) (λ more.
    Ok (first ∷ more)))

-- a line in front of phases: a task is the first of the first phase, and the close of an epoch ends a phase before it
abbrev pub with_line : Line → List (List Task) → List (List Task)
with_line said.Epoch phases = [] ∷ phases
with_line (said.Task task) phases = onto_first task phases

-- the phases of a script: what is asked between the closes of epochs
unfoldable pub phases_of : List Line → List (List Task)
phases_of [] = [] ∷ []
phases_of (line ∷ lines) = with_line line (phases_of lines)

-- What bytes mean as a script for this header: its phases, or the first line outside the grammar, counted from 1.
abbrev pub script_of : Header → List ℕ → Result (List (List Task)) BadLine
script_of header bytes = and_then (lines_say header 1 (lines_of bytes)) (λ lines. Ok (phases_of lines))

-- ---- the same line by line

-- phases with one more line behind them: a task is the last of the last phase, and the close of an epoch opens another
abbrev pub then_line : List (List Task) → Line → List (List Task)
then_line phases said.Epoch = phases ++ [] ∷ []
then_line [] (said.Task task) = (task ∷ []) ∷ []
then_line (phase ∷ []) (said.Task task) = (phase ++ task ∷ []) ∷ []
then_line (phase ∷ next ∷ phases) (said.Task task) = phase ∷ then_line (next ∷ phases) (said.Task task)

-- a fault that names a line names the one that is refused
abbrev pub IsFaultOf : {A : Type 0} → Result A BadLine → ScriptFault → Type 0
IsFaultOf script (BadScript line cause) = script ≡ Err (record { line = line; cause = cause })
IsFaultOf script Memory = Unit {0}

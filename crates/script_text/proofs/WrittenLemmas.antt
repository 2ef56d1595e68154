-- What is written as a line is read of it, and what is written as a script.
use Rattle.std.proofs.Common.{◌≡◌, ℕ, ◌+◌, ◌*◌, ◌<◌, ◌≤◌, ◌^◌, ◌==◌, not, nat_lt, Bool, true, false, List, [], ◌∷◌, ◌++◌, length, map, Option, Some, None, Ok, append_assoc, length-append, codes, if◌then◌else◌, lit<, lit≤, refl, ap, ◌∙◌, arith}
use Rattle.std.specs.Prelude.{decimal}
use Rattle.std.specs.List.{AllByRecursion, list_all, onto_first}
use Rattle.std.specs.Option.{ForSome, option_map}
use Rattle.std.proofs.lemmas.Bool.{and_parts}
use Rattle.std.proofs.lemmas.Fmt.{length-decimal-le_wide}
use Rattle.std.proofs.lemmas.List.Elements.{All-nil, All-cons, All-append}
use Rattle.hex.specs.Hex.{IsBytes}
use Rattle.base_words.specs.Steps.{and_then}
use Rattle.tree_keys.specs.Path.{key_bits}
use Rattle.lamport_clocks.specs.declared.header.Header.{Header}
use Rattle.record_text.specs.Longest.{longest_blob, longest_of}
use Rattle.record_text.specs.Tree.{wide_of}
use Rattle.script_text.specs.declared.task.Task.{Task}
use Rattle.script_text.specs.declared.task.Line.{Line}
use Rattle.script_text.specs.declared.task.Line.TheVariants as said
use Rattle.script_text.specs.Lines.{line_feed, blank, lines_of, words_of}
use Rattle.script_text.specs.Words.{value_in}
use Rattle.script_text.specs.Script.{asking, longest_line, task_in, words_say, line_says, at_line, lines_say, phases_of, script_of}
use Rattle.script_text.specs.Text.{value_word, request_words, task_line, task_text, phase_text, behind_text, script_text, IsTask, AreTasks}
use Rattle.script_text.proofs.DecimalLemmas.{key-fits, length-key-le}
use Rattle.script_text.proofs.SplittingLaws.{IsOther, IsWithout, lines_of-at, words_of-at, words_of-last}
use Rattle.script_text.proofs.ScriptLemmas.{line_says-short}
use Rattle.script_text.proofs.WrittenWordLemmas.{below-decimal, decimal-without, value_in-word, value-without, length-value_word-le}

-- ---- a line

-- the same as a test, which computes
abbrev is_without : ℕ → List ℕ → Bool
is_without byte bytes = list_all (λ b. not (b == byte)) bytes

IsWithout-from_test : (byte : ℕ) (bytes : List ℕ) → is_without byte bytes ≡ true → IsWithout byte bytes
IsWithout-from_test byte [] test = All-nil (IsOther byte)
IsWithout-from_test byte (b ∷ bytes) test =
    let parts = and_parts (not (b == byte)) (list_all (λ b. not (b == byte)) bytes) test in
    All-cons (IsOther byte) b bytes (other (b == byte) parts.0) (IsWithout-from_test byte bytes parts.1)
  where
    other : (equal : Bool) → not equal ≡ true → equal ≡ false
    other true h = cc
    other false h = refl

-- a task that its words ask
says-task : (header : Header) (worker key : ℕ) (put : Bool) (value : Option (Option (List ℕ))) (data_value : Option (List ℕ))
    → worker < header.verifiers → header.verifiers < 2 ^ 16 → key < 2 ^ key_bits (wide_of header) → value ≡ Some data_value
    → task_in header (decimal worker) (asking put (decimal key) value)
    ≡ Ok (said.Task (record { worker = worker; request = record { put = put; key = key; value = data_value } }))
unfolding task_in
says-task header worker key put value data_value one few small is =
    rw (below-decimal header.verifiers worker one (omega arith), below-decimal (2 ^ key_bits (wide_of header)) key small (key-fits (wide_of header) key small), is) refl

-- the words of a line of three
words-three : (worker key : ℕ) (verb : List ℕ) → worker < 10 ^ 64 → key < 10 ^ 64 → IsWithout blank verb
    → words_of (decimal worker ++ blank ∷ (verb ++ blank ∷ decimal key)) ≡ decimal worker ∷ verb ∷ decimal key ∷ []
words-three worker key verb fits small without =
    words_of-at (decimal worker) (verb ++ blank ∷ decimal key) (decimal-without blank worker (lit< tt) fits)
    ∙ ap (λ words. decimal worker ∷ words) (words_of-at verb (decimal key) without)
    ∙ ap (λ words. decimal worker ∷ verb ∷ words) (words_of-last (decimal key) (decimal-without blank key (lit< tt) small))

-- the words of a line of four
words-four : (worker key : ℕ) (verb value : List ℕ) → worker < 10 ^ 64 → key < 10 ^ 64 → IsWithout blank verb → IsWithout blank value
    → words_of (decimal worker ++ blank ∷ (verb ++ blank ∷ (decimal key ++ blank ∷ value))) ≡ decimal worker ∷ verb ∷ decimal key ∷ value ∷ []
words-four worker key verb value fits small without without_value =
    words_of-at (decimal worker) (verb ++ blank ∷ (decimal key ++ blank ∷ value)) (decimal-without blank worker (lit< tt) fits)
    ∙ ap (λ words. decimal worker ∷ words) (words_of-at verb (decimal key ++ blank ∷ value) without)
    ∙ ap (λ words. decimal worker ∷ verb ∷ words) (words_of-at (decimal key) value (decimal-without blank key (lit< tt) small))
    ∙ ap (λ words. decimal worker ∷ verb ∷ decimal key ∷ words) (words_of-last value without_value)

-- a line has room for a worker and a key, and for a value behind them
line-room : (header : Header) → 65 + 2 * longest_of header ≤ longest_line header
line-room header = go (nat_lt header.version 3) where
  go : (early : Bool) → 65 + 2 * (if early then 64 else longest_blob) ≤ (if early then 256 else 640)
  go true = lit≤ tt
  go false = lit≤ tt

some-longest : (header : Header) → 1 ≤ longest_of header
some-longest header = go (nat_lt header.version 3) where
  go : (early : Bool) → 1 ≤ (if early then 64 else longest_blob)
  go true = lit≤ tt
  go false = lit≤ tt

-- the line of a get or of a put of none
length-three : (header : Header) (worker key : ℕ) (verb : List ℕ) → worker < 2 ^ 16 → key < 2 ^ key_bits (wide_of header) → length verb ≤ 3
    → length (decimal worker ++ blank ∷ (verb ++ blank ∷ decimal key)) ≤ longest_line header
length-three header worker key verb fits small short =
    omega (
      arith,
      line-room header,
      length-decimal-le_wide 20 worker (lit< tt) (omega arith) (omega arith),
      length-key-le (wide_of header) key small,
      length-append (decimal worker) (blank ∷ (verb ++ blank ∷ decimal key)),
      length-append verb (blank ∷ decimal key),
    )

length-four : (header : Header) (worker key : ℕ) (verb value : List ℕ) → worker < 2 ^ 16 → key < 2 ^ key_bits (wide_of header) → length verb ≤ 3
    → length value ≤ 2 * longest_of header → length (decimal worker ++ blank ∷ (verb ++ blank ∷ (decimal key ++ blank ∷ value))) ≤ longest_line header
length-four header worker key verb value fits small short few =
    omega (
      arith,
      line-room header,
      length-decimal-le_wide 20 worker (lit< tt) (omega arith) (omega arith),
      length-key-le (wide_of header) key small,
      length-append (decimal worker) (blank ∷ (verb ++ blank ∷ (decimal key ++ blank ∷ value))),
      length-append verb (blank ∷ (decimal key ++ blank ∷ value)),
      length-append (decimal key) (blank ∷ value),
    )

-- a line says what it was written from
says-request : (header : Header) (worker key : ℕ) (put : Bool) (value : Option (List ℕ)) → header.verifiers < 2 ^ 16 → worker < header.verifiers → key < 2 ^ key_bits (wide_of header)
    → ForSome value (λ bytes. length bytes ≤ longest_of header) → ForSome value IsBytes → (put ≡ false → value ≡ None)
    → line_says header (decimal worker ++ request_words put key value)
    ≡ Ok (said.Task (record { worker = worker; request = record { put = put; key = key; value = value } }))
unfolding words_say
says-request header worker key false None few one small size bytes get =
    line_says-short header _ (length-three header worker key (codes "get") (omega arith) small (lit≤ tt))
    ∙ ap (words_say header) (words-three worker key (codes "get") (omega arith) (key-fits (wide_of header) key small) (IsWithout-from_test blank (codes "get") refl))
    ∙ says-task header worker key false (Some None) None one few small refl
says-request header worker key false (Some value) few one small size bytes get = let none = get refl in cc
says-request header worker key true None few one small size bytes get =
    line_says-short header _ (length-three header worker key (codes "del") (omega arith) small (lit≤ tt))
    ∙ ap (words_say header) (words-three worker key (codes "del") (omega arith) (key-fits (wide_of header) key small) (IsWithout-from_test blank (codes "del") refl))
    ∙ says-task header worker key true (Some None) None one few small refl
says-request header worker key true (Some value) few one small size bytes get =
    let length_value = size value refl in
    let bytes_value = bytes value refl in
    ap (λ rest. line_says header (decimal worker ++ (codes " put " ++ rest))) (append_assoc (decimal key) (codes " ") (value_word value))
    ∙ line_says-short header _ (length-four header worker key (codes "put") (value_word value) (omega arith) small (lit≤ tt) (length-value_word-le (longest_of header) value (some-longest header) length_value))
    ∙ ap (words_say header) (words-four worker key (codes "put") (value_word value) (omega arith) (key-fits (wide_of header) key small) (IsWithout-from_test blank (codes "put") refl) (value-without blank value (lit< tt) bytes_value))
    ∙ says-task header worker key true (option_map Some (value_in (longest_of header) (value_word value))) (Some value) one few small (ap (option_map Some) (value_in-word (longest_of header) value length_value bytes_value))

says-line : (header : Header) (task : Task) → header.verifiers < 2 ^ 16 → IsTask header task → line_says header (task_line task) ≡ Ok (said.Task task)
unfolding task_line
says-line header task few is =
    says-request header task.worker task.request.key task.request.put task.request.value few is.worker is.key is.size is.bytes is.get

-- ---- a script

-- a line has no end in it
line-without : (header : Header) (worker key : ℕ) (put : Bool) (value : Option (List ℕ)) → header.verifiers < 2 ^ 16 → worker < header.verifiers → key < 2 ^ key_bits (wide_of header)
    → ForSome value IsBytes → IsWithout line_feed (decimal worker ++ request_words put key value)
line-without header worker key put value few one small bytes =
    All-append (IsOther line_feed) (decimal worker) (request_words put key value) (decimal-without line_feed worker (lit< tt) (omega arith)) (go put value bytes)
  where
    number : IsWithout line_feed (decimal key)
    number = decimal-without line_feed key (lit< tt) (key-fits (wide_of header) key small)

    go : (put : Bool) (value : Option (List ℕ)) → ForSome value IsBytes → IsWithout line_feed (request_words put key value)
    go false value bytes = All-append (IsOther line_feed) (codes " get ") (decimal key) (IsWithout-from_test line_feed (codes " get ") refl) number
    go true None bytes = All-append (IsOther line_feed) (codes " del ") (decimal key) (IsWithout-from_test line_feed (codes " del ") refl) number
    go true (Some value) bytes =
        All-append (IsOther line_feed) (codes " put " ++ decimal key ++ codes " ") (value_word value)
        (All-append (IsOther line_feed) (codes " put " ++ decimal key) (codes " ")
        (All-append (IsOther line_feed) (codes " put ") (decimal key) (IsWithout-from_test line_feed (codes " put ") refl) number)
        (IsWithout-from_test line_feed (codes " ") refl))
        (value-without line_feed value (lit< tt) (bytes value refl))

task-without : (header : Header) (task : Task) → header.verifiers < 2 ^ 16 → IsTask header task → IsWithout line_feed (task_line task)
unfolding task_line
task-without header task few is =
    line-without header task.worker task.request.key task.request.put task.request.value few is.worker is.key is.bytes

-- bytes say these lines, whatever the number of the first
abbrev Say : Header → List ℕ → List Line → Type 0
Say header bytes lines = (number : ℕ) → lines_say header number (lines_of bytes) ≡ Ok lines

-- a line in front
say-line : (header : Header) (line rest : List ℕ) (first : Line) (more : List Line) → IsWithout line_feed line → line_says header line ≡ Ok first
    → Say header rest more → Say header (line ++ line_feed ∷ rest) (first ∷ more)
unfolding lines_say
say-line header line rest first more without says behind number =
    ap (lines_say header number) (lines_of-at line rest without)
    ∙ ap (λ said. and_then (at_line number said) (λ one. and_then (lines_say header (number + 1) (lines_of rest)) (λ others. Ok (one ∷ others)))) says
    ∙ ap (λ said. and_then said (λ others. Ok (first ∷ others))) (behind (number + 1))

-- the lines of a phase in front
say-phase : (header : Header) (phase : List Task) (rest : List ℕ) (more : List Line) → header.verifiers < 2 ^ 16 → AllByRecursion (IsTask header) phase
    → Say header rest more → Say header (phase_text phase ++ rest) (map said.Task phase ++ more)
say-phase header [] rest more few are behind = behind
say-phase header (task ∷ phase) rest more few are behind =
    let others = say-phase header phase rest more few are.1 behind in
    let front = say-line header (task_line task) (phase_text phase ++ rest) (said.Task task) (map said.Task phase ++ more)
    (task-without header task few are.0) (says-line header task few are.0) others in
    λ number.
    ap (λ bytes. lines_say header number (lines_of bytes))
    (append_assoc (task_text task) (phase_text phase) rest ∙ append_assoc (task_line task) (codes "\n") (phase_text phase ++ rest))
    ∙ front number

-- the lines of phases behind a first one
behind_lines : List (List Task) → List Line
behind_lines [] = []
behind_lines (phase ∷ phases) = said.Epoch ∷ (map said.Task phase ++ behind_lines phases)

says-epoch : (header : Header) → line_says header (codes "epoch") ≡ Ok said.Epoch
unfolding words_say
says-epoch header =
    line_says-short header (codes "epoch") (omega (arith, line-room header))
    ∙ ap (words_say header) (words_of-last (codes "epoch") (IsWithout-from_test blank (codes "epoch") refl))

say-behind : (header : Header) (phases : List (List Task)) → header.verifiers < 2 ^ 16 → AreTasks header phases → Say header (behind_text phases) (behind_lines phases)
unfolding lines_say lines_of behind_lines
say-behind header [] few are number = refl
say-behind header (phase ∷ phases) few are number =
    ap (λ bytes. lines_say header number (lines_of bytes)) (append_assoc (codes "epoch\n") (phase_text phase) (behind_text phases))
    ∙ say-line header (codes "epoch") (phase_text phase ++ behind_text phases) said.Epoch (map said.Task phase ++ behind_lines phases)
    (IsWithout-from_test line_feed (codes "epoch") refl) (says-epoch header)
    (say-phase header phase (behind_text phases) (behind_lines phases) few are.0 (say-behind header phases few are.1)) number

-- the phases of these lines
phases_of-tasks : (phase : List Task) (lines : List Line) (phases : List (List Task)) → phases_of lines ≡ [] ∷ phases → phases_of (map said.Task phase ++ lines) ≡ phase ∷ phases
unfolding phases_of
phases_of-tasks [] lines phases is = is
phases_of-tasks (task ∷ phase) lines phases is = ap (onto_first task) (phases_of-tasks phase lines phases is)

phases_of-behind : (phases : List (List Task)) → phases_of (behind_lines phases) ≡ [] ∷ phases
unfolding phases_of behind_lines
phases_of-behind [] = refl
phases_of-behind (phase ∷ phases) = ap (λ more. [] ∷ more) (phases_of-tasks phase (behind_lines phases) phases (phases_of-behind phases))

-- phases that are written as a script are read of it
pub script-written : (header : Header) (phase : List Task) (phases : List (List Task)) → header.verifiers < 2 ^ 16 → AreTasks header (phase ∷ phases)
    → script_of header (script_text (phase ∷ phases)) ≡ Ok (phase ∷ phases)
unfolding script_text
script-written header phase phases few are =
    ap (λ said. and_then said (λ lines. Ok (phases_of lines)))
    (say-phase header phase (behind_text phases) (behind_lines phases) few are.0 (say-behind header phases few are.1) 1)
    ∙ ap Ok (phases_of-tasks phase (behind_lines phases) phases (phases_of-behind phases))

-- A script that is read is spelled in its one way, but for the end of its last line.
use Rattle.std.proofs.Common.{◌≡◌, ℕ, ◌+◌, ◌<◌, ◌≤◌, ◌^◌, ◌==◌, ◌⊎◌, Bool, true, false, List, [], ◌∷◌, ◌++◌, length, Option, Some, None, Result, Ok, Err, append_assoc, length-append, codes, if◌then◌else◌, nat_lt, inl, inr, refl, ap, sym, subst, ◌∙◌, arith}
use Rattle.std.specs.Prelude.{decimal}
use Rattle.std.specs.List.{flat_map, AllByRecursion, join_with_byte, onto_first}
use Rattle.std.specs.Option.{ForSome, option_map}
use Rattle.std.specs.Str.{bytes_eq}
use Rattle.std.proofs.lemmas.Bool.{eqb-true}
use Rattle.std.proofs.lemmas.List.Splits.{join_with_byte-slice_split}
use Rattle.std.proofs.lemmas.Slice.Eq.{bytes_eq-Decides}
use Rattle.hex.specs.Hex.{IsBytes}
use Rattle.base_words.specs.Steps.{need, and_then}
use Rattle.tree_keys.specs.Path.{key_bits}
use Rattle.lamport_clocks.specs.declared.header.Header.{Header}
use Rattle.record_text.specs.Longest.{longest_of}
use Rattle.record_text.specs.Tree.{wide_of}
use Rattle.record_text.specs.declared.cause.Cause.{Cause}
use Rattle.record_text.specs.declared.cause.Cause.TheVariants.{Shape, Worker, Key, Hex}
use Rattle.script_text.specs.declared.task.Task.{Task}
use Rattle.script_text.specs.declared.task.Line.{Line}
use Rattle.script_text.specs.declared.task.Line.TheVariants as said
use Rattle.script_text.specs.Lines.{line_feed, blank, lines_of, words_of}
use Rattle.script_text.specs.Words.{worker_in, key_in, value_in}
use Rattle.script_text.specs.Script.{BadLine, longest_line, asking, asked_by, task_in, words_say, line_says, at_line, lines_say, phases_of, script_of}
use Rattle.script_text.specs.Text.{value_word, request_words, task_line, task_text, phase_text, behind_text, script_text, IsTask, AreTasks, IsScriptOf}
use Rattle.script_text.proofs.ScriptLemmas.{some_phase}
use Rattle.script_text.proofs.DecimalLemmas.{key-fits}
use Rattle.script_text.proofs.SpelledWordLemmas.{below-spelled, number_in-spelled, value_in-spelled}

-- ---- a line

-- the words of a task are these, and say so much
pub record Tells (header : Header) (first third : List ℕ) (is_put : Bool) (found : Option (Option (List ℕ))) (line : Line) : Type 0 where
  pub task : Task
  pub is : line ≡ said.Task task
  pub worker : first ≡ decimal task.worker
  pub one : task.worker < header.verifiers
  pub key : third ≡ decimal task.request.key
  pub fits : task.request.key < 2 ^ key_bits (wide_of header)
  pub put : task.request.put ≡ is_put
  pub value : found ≡ Some task.request.value

task_in-tells : (header : Header) (worker key : List ℕ) (put : Bool) (value : Option (Option (List ℕ))) (line : Line) → header.verifiers < 2 ^ 16
    → task_in header worker (asking put key value) ≡ Ok line → Tells header worker key put value line
unfolding task_in
task_in-tells header worker key put value line few is = go (worker_in header.verifiers worker) refl (key_in (wide_of header) key) refl value refl is where
  go : (w : Option ℕ) → worker_in header.verifiers worker ≡ w → (k : Option ℕ) → key_in (wide_of header) key ≡ k → (v : Option (Option (List ℕ))) → value ≡ v
      → need w Worker (λ one. need k Key (λ two. need v Hex (λ three.
      Ok (said.Task (record { worker = one; request = record { put = put; key = two; value = three } }))))) ≡ Ok line
      → Tells header worker key put value line
  go None is_w k is_k v is_v same = cc
  go (Some w) is_w None is_k v is_v same = cc
  go (Some w) is_w (Some k) is_k None is_v same = cc
  go (Some w) is_w (Some k) is_k (Some v) is_v same =
      let one = below-spelled header.verifiers w _ is_w in
      let two = below-spelled (2 ^ key_bits (wide_of header)) k _ is_k in
      record {
        task = record { worker = w; request = record { put = put; key = k; value = v } };
        is = cc;
        worker = number_in-spelled w worker one.0 (omega arith);
        one = one.1;
        key = number_in-spelled k key two.0 (key-fits (wide_of header) k two.1);
        fits = two.1;
        put = refl;
        value = is_v;
      }

-- a line that is read is spelled so, and asks what can be asked
IsSpelled : Header → List ℕ → Line → Type 0
IsSpelled header line said.Epoch = line ≡ codes "epoch"
IsSpelled header line (said.Task task) = (line ≡ task_line task) × IsTask header task

-- a task with its words, spelled
spelled-task : (header : Header) (line : List ℕ) (worker key : List ℕ) (put : Bool) (value : Option (Option (List ℕ))) (read : Line)
    → (told : Tells header worker key put value read)
    → line ≡ decimal told.task.worker ++ request_words told.task.request.put told.task.request.key told.task.request.value
    → ForSome told.task.request.value (λ bytes. length bytes ≤ longest_of header) → ForSome told.task.request.value IsBytes
    → (told.task.request.put ≡ false → told.task.request.value ≡ None)
    → IsSpelled header line read
unfolding IsSpelled task_line
spelled-task header line worker key put value read told is size bytes get =
    let P : Line → Type 0 = IsSpelled header line in
    subst P (sym told.is) (is, record { worker = told.one; key = told.fits; size = size; bytes = bytes; get = get })

-- the words behind a worker's number, one by one
words-three : (put is_put : Bool) (verb : List ℕ) (key : ℕ) (value : Option (List ℕ)) → is_put ≡ put → value ≡ None → verb ≡ (if put then codes "del" else codes "get")
    → request_words is_put key value ≡ blank ∷ (verb ++ blank ∷ decimal key)
words-three true is_put verb key value same empty is_verb =
    ap (λ p. request_words p key value) same ∙ ap (request_words true key) empty ∙ ap (λ v. blank ∷ (v ++ blank ∷ decimal key)) (sym is_verb)
words-three false is_put verb key value same empty is_verb =
    ap (λ p. request_words p key value) same ∙ ap (λ v. blank ∷ (v ++ blank ∷ decimal key)) (sym is_verb)

words-four : (is_put : Bool) (verb : List ℕ) (key : ℕ) (value : Option (List ℕ)) (bytes : List ℕ) → is_put ≡ true → value ≡ Some bytes → verb ≡ codes "put"
    → request_words is_put key value ≡ blank ∷ (verb ++ blank ∷ (decimal key ++ blank ∷ value_word bytes))
words-four is_put verb key value bytes same is is_verb =
    ap (λ p. request_words p key value) same ∙ ap (request_words true key) is
    ∙ ap (λ text. codes " put " ++ text) (append_assoc (decimal key) (codes " ") (value_word bytes))
    ∙ ap (λ v. blank ∷ (v ++ blank ∷ (decimal key ++ blank ∷ value_word bytes))) (sym is_verb)

-- a get, or a put of none
says-three : (header : Header) (worker verb key : List ℕ) (read : Line) → header.verifiers < 2 ^ 16
    → need (asked_by (longest_of header) (verb ∷ key ∷ [])) Shape (task_in header worker) ≡ Ok read
    → IsSpelled header (worker ++ blank ∷ (verb ++ blank ∷ key)) read
says-three header worker verb key read few is = get (bytes_eq verb (codes "get")) refl (bytes_eq verb (codes "del")) refl is where
  none_of : (value : Option (List ℕ)) → Some None ≡ Some value → value ≡ None
  none_of value same = cc

  nothing : (P : List ℕ → Type 0) (value : Option (List ℕ)) → value ≡ None → ForSome value P
  nothing P value none_there bytes same = cc

  spelled : (put : Bool) → Tells header worker key put (Some None) read
      → verb ≡ (if put then codes "del" else codes "get") → IsSpelled header (worker ++ blank ∷ (verb ++ blank ∷ key)) read
  spelled put told is_verb =
      let task = told.task in
      let value = none_of task.request.value told.value in
      let words : request_words task.request.put task.request.key task.request.value ≡ blank ∷ (verb ++ blank ∷ decimal task.request.key) = words-three put task.request.put verb task.request.key task.request.value told.put value is_verb in
      spelled-task header _ worker key put (Some None) read told
      (ap (λ w. w ++ blank ∷ (verb ++ blank ∷ key)) told.worker ∙ ap (λ k. decimal task.worker ++ blank ∷ (verb ++ blank ∷ k)) told.key ∙ ap (λ text. decimal task.worker ++ text) (sym words))
      (nothing (λ bytes. length bytes ≤ longest_of header) task.request.value value) (nothing IsBytes task.request.value value) (λ _. value)

  del : (test : Bool) → bytes_eq verb (codes "del") ≡ test
      → need (if test then Some (asking true key (Some None)) else None) Shape (task_in header worker) ≡ Ok read
      → IsSpelled header (worker ++ blank ∷ (verb ++ blank ∷ key)) read
  del true tested same = spelled true (task_in-tells header worker key true (Some None) read few same) ((bytes_eq-Decides verb (codes "del")).0 tested)
  del false tested same = cc

  get : (test : Bool) → bytes_eq verb (codes "get") ≡ test → (more : Bool) → bytes_eq verb (codes "del") ≡ more
      → need (if test then Some (asking false key (Some None)) else if more then Some (asking true key (Some None)) else None) Shape (task_in header worker) ≡ Ok read
      → IsSpelled header (worker ++ blank ∷ (verb ++ blank ∷ key)) read
  get true tested more is_more same = spelled false (task_in-tells header worker key false (Some None) read few same) ((bytes_eq-Decides verb (codes "get")).0 tested)
  get false tested more is_more same = del more is_more same

-- a put
says-four : (header : Header) (worker verb key value : List ℕ) (read : Line) → header.verifiers < 2 ^ 16
    → need (asked_by (longest_of header) (verb ∷ key ∷ value ∷ [])) Shape (task_in header worker) ≡ Ok read
    → IsSpelled header (worker ++ blank ∷ (verb ++ blank ∷ (key ++ blank ∷ value))) read
says-four header worker verb key value read few is = put (bytes_eq verb (codes "put")) refl is where
  found : (may : Option (List ℕ)) (task_value : Option (List ℕ)) → option_map Some may ≡ Some task_value → (bytes : List ℕ) × (may ≡ Some bytes) × (task_value ≡ Some bytes)
  found None task_value same = cc
  found (Some bytes) task_value same = (bytes, refl, cc)

  spelled : Tells header worker key true (option_map Some (value_in (longest_of header) value)) read → verb ≡ codes "put"
      → IsSpelled header (worker ++ blank ∷ (verb ++ blank ∷ (key ++ blank ∷ value))) read
  spelled told is_verb =
      let task = told.task in
      let some = found (value_in (longest_of header) value) task.request.value told.value in
      let facts = value_in-spelled (longest_of header) value some.0 some.1 in
      let words : request_words task.request.put task.request.key task.request.value ≡ blank ∷ (verb ++ blank ∷ (decimal task.request.key ++ blank ∷ value_word some.0)) =
      words-four task.request.put verb task.request.key task.request.value some.0 told.put some.2 is_verb in
      spelled-task header _ worker key true (option_map Some (value_in (longest_of header) value)) read told
      (ap (λ w. w ++ blank ∷ (verb ++ blank ∷ (key ++ blank ∷ value))) told.worker
      ∙ ap (λ k. decimal task.worker ++ blank ∷ (verb ++ blank ∷ (k ++ blank ∷ value))) told.key
      ∙ ap (λ v. decimal task.worker ++ blank ∷ (verb ++ blank ∷ (decimal task.request.key ++ blank ∷ v))) facts.0
      ∙ ap (λ text. decimal task.worker ++ text) (sym words))
      (λ bytes same. let e : bytes ≡ some.0 = cc in let P : List ℕ → Type 0 = λ b. length b ≤ longest_of header in subst P (sym e) facts.1)
      (λ bytes same. let e : bytes ≡ some.0 = cc in subst IsBytes (sym e) facts.2)
      (λ is_get. let e : true ≡ false = sym told.put ∙ is_get in cc)

  put : (test : Bool) → bytes_eq verb (codes "put") ≡ test
      → need (if test then Some (asking true key (option_map Some (value_in (longest_of header) value))) else None) Shape (task_in header worker) ≡ Ok read
      → IsSpelled header (worker ++ blank ∷ (verb ++ blank ∷ (key ++ blank ∷ value))) read
  put true tested same = spelled (task_in-tells header worker key true (option_map Some (value_in (longest_of header) value)) read few same) ((bytes_eq-Decides verb (codes "put")).0 tested)
  put false tested same = cc

-- the close of an epoch
says-one : (header : Header) (word : List ℕ) (read : Line) → (if bytes_eq word (codes "epoch") then Ok said.Epoch else Err Shape) ≡ Ok read → IsSpelled header word read
unfolding IsSpelled
says-one header word read is = go (bytes_eq word (codes "epoch")) refl is where
  go : (test : Bool) → bytes_eq word (codes "epoch") ≡ test → (if test then Ok said.Epoch else Err Shape) ≡ Ok read → IsSpelled header word read
  go true tested same =
      let epoch : said.Epoch ≡ read = cc in
      let P : Line → Type 0 = IsSpelled header word in
      subst P epoch ((bytes_eq-Decides word (codes "epoch")).0 tested)
  go false tested same = cc

-- the words of a line
says-words : (header : Header) (words : List (List ℕ)) (read : Line) → header.verifiers < 2 ^ 16 → words_say header words ≡ Ok read → IsSpelled header (join_with_byte blank words) read
unfolding words_say
says-words header [] read few is = cc
says-words header (a ∷ []) read few is = says-one header a read is
says-words header (a ∷ b ∷ []) read few is = cc
says-words header (a ∷ b ∷ c ∷ []) read few is = says-three header a b c read few is
says-words header (a ∷ b ∷ c ∷ d ∷ []) read few is = says-four header a b c d read few is
says-words header (a ∷ b ∷ c ∷ d ∷ e ∷ words) read few is = cc

-- a line
says-spelled : (header : Header) (line : List ℕ) (read : Line) → header.verifiers < 2 ^ 16 → line_says header line ≡ Ok read → IsSpelled header line read
unfolding line_says words_of
says-spelled header line read few is = go (nat_lt (longest_line header) (length line)) is where
  go : (test : Bool) → (if test then Err Shape else words_say header (words_of line)) ≡ Ok read → IsSpelled header line read
  go true same = cc
  go false same =
      let P : List ℕ → Type 0 = λ bytes. IsSpelled header bytes read in
      subst P (join_with_byte-slice_split blank line) (says-words header (words_of line) read few same)

-- ---- all lines

-- lines with their ends, joined
abbrev ended : List (List ℕ) → List ℕ
ended lines = flat_map (λ line. line ++ line_feed ∷ []) lines

-- bytes are their lines with their ends, but that the last may lack it
Ends : List ℕ → List (List ℕ) → Type 0
Ends bytes lines = (bytes ≡ ended lines) ⊎ (bytes ++ line_feed ∷ [] ≡ ended lines)

lines-end : (bytes : List ℕ) → Ends bytes (lines_of bytes)
unfolding lines_of Ends
lines-end [] = inl refl
lines-end (byte ∷ bytes) = go (byte == line_feed) refl (lines_of bytes) (lines-end bytes) where
  front : (first : ℕ) (lines : List (List ℕ)) (all : List (List ℕ)) → ended all ≡ first ∷ ended lines → byte ≡ first → Ends bytes lines → Ends (byte ∷ bytes) all
  front first lines all is same (inl whole) = inl (ap (λ rest. byte ∷ rest) whole ∙ ap (λ b. b ∷ ended lines) same ∙ sym is)
  front first lines all is same (inr cut) = inr (ap (λ rest. byte ∷ rest) cut ∙ ap (λ b. b ∷ ended lines) same ∙ sym is)

  alone : Ends bytes [] → Ends (byte ∷ bytes) ((byte ∷ []) ∷ [])
  alone (inl whole) = inr (ap (λ rest. byte ∷ (rest ++ line_feed ∷ [])) whole)
  alone (inr cut) = absurd (omega (arith, ap length cut, length-append bytes (line_feed ∷ [])))

  go : (test : Bool) → (byte == line_feed) ≡ test → (lines : List (List ℕ)) → Ends bytes lines
      → Ends (byte ∷ bytes) (if test then [] ∷ lines else onto_first byte lines)
  go true tested lines behind = front line_feed lines ([] ∷ lines) refl (eqb-true byte line_feed tested) behind
  go false tested [] behind = alone behind
  go false tested (line ∷ lines) behind = front byte (line ∷ lines) ((byte ∷ line) ∷ lines) refl refl behind

-- what a line is written as
line_text : Line → List ℕ
line_text said.Epoch = codes "epoch"
line_text (said.Task task) = task_line task

-- and lines, each with its end
abbrev said_text : List Line → List ℕ
said_text lines = flat_map (λ line. line_text line ++ line_feed ∷ []) lines

-- a line asks what can be asked
IsAsked : Header → Line → Type 0
IsAsked header said.Epoch = Unit {0}
IsAsked header (said.Task task) = IsTask header task

spelled-text : (header : Header) (line : List ℕ) (read : Line) → IsSpelled header line read → (line ≡ line_text read) × IsAsked header read
unfolding IsSpelled line_text IsAsked
spelled-text header line said.Epoch is = (is, tt)
spelled-text header line (said.Task task) is = is

-- lines that are read are written so
lines-said : (header : Header) (number : ℕ) (lines : List (List ℕ)) (read : List Line) → header.verifiers < 2 ^ 16 → lines_say header number lines ≡ Ok read
    → (ended lines ≡ said_text read) × AllByRecursion (IsAsked header) read
unfolding lines_say
lines-said header number [] read few is =
    let none : read ≡ [] = cc in
    rw none (refl, tt)
lines-said header number (line ∷ lines) read few is =
    go (line_says header line) refl (lines_say header (number + 1) lines) (λ more same. lines-said header (number + 1) lines more few same) is
  where
    go : (first : Result Line Cause) → line_says header line ≡ first → (others : Result (List Line) BadLine)
        → ((more : List Line) → others ≡ Ok more → (ended lines ≡ said_text more) × AllByRecursion (IsAsked header) more)
        → and_then (at_line number first) (λ one. and_then others (λ more. Ok (one ∷ more))) ≡ Ok read
        → (ended (line ∷ lines) ≡ said_text read) × AllByRecursion (IsAsked header) read
    go (Err cause) says others behind same = cc
    go (Ok one) says (Err bad) behind same = cc
    go (Ok one) says (Ok more) behind same =
        let all : read ≡ one ∷ more = cc in
        let first = spelled-text header line one (says-spelled header line one few says) in
        let rest = behind more refl in
        rw all (ap (λ text. (text ++ line_feed ∷ []) ++ ended lines) first.0 ∙ ap (λ text. (line_text one ++ line_feed ∷ []) ++ text) rest.0, (first.1, rest.1))

-- the phases of lines are written as these
phases-text : (lines : List Line) → script_text (phases_of lines) ≡ said_text lines
unfolding phases_of script_text line_text
phases-text [] = refl
phases-text (said.Epoch ∷ lines) =
    let some = some_phase lines in
    ap (λ phases. script_text ([] ∷ phases)) some.2
    ∙ append_assoc (codes "epoch\n") (phase_text some.0) (behind_text some.1)
    ∙ ap (λ phases. codes "epoch\n" ++ script_text phases) (sym some.2)
    ∙ ap (λ text. codes "epoch\n" ++ text) (phases-text lines)
phases-text (said.Task task ∷ lines) =
    let some = some_phase lines in
    ap (λ phases. script_text (onto_first task phases)) some.2
    ∙ append_assoc (task_text task) (phase_text some.0) (behind_text some.1)
    ∙ ap (λ phases. task_text task ++ script_text phases) (sym some.2)
    ∙ ap (λ text. task_text task ++ text) (phases-text lines)

-- and ask what can be asked
phases-asked : (header : Header) (lines : List Line) → AllByRecursion (IsAsked header) lines → AreTasks header (phases_of lines)
unfolding phases_of IsAsked
phases-asked header [] are = (tt, tt)
phases-asked header (said.Epoch ∷ lines) are = (tt, phases-asked header lines are.1)
phases-asked header (said.Task task ∷ lines) are = go (phases_of lines) (phases-asked header lines are.1) where
  go : (phases : List (List Task)) → AreTasks header phases → AreTasks header (onto_first task phases)
  go [] others = ((are.0, tt), tt)
  go (phase ∷ phases) others = ((are.0, others.0), others.1)

-- a script that is read
pub script-spelled : (header : Header) (bytes : List ℕ) (phases : List (List Task)) → header.verifiers < 2 ^ 16 → script_of header bytes ≡ Ok phases
    → IsScriptOf phases bytes × AreTasks header phases
unfolding Ends
script-spelled header bytes phases few is = go (lines_say header 1 (lines_of bytes)) refl is where
  go : (read : Result (List Line) BadLine) → lines_say header 1 (lines_of bytes) ≡ read → and_then read (λ lines. Ok (phases_of lines)) ≡ Ok phases
      → IsScriptOf phases bytes × AreTasks header phases
  go (Err bad) says same = cc
  go (Ok lines) says same =
      let all : phases_of lines ≡ phases = cc in
      let facts = lines-said header 1 (lines_of bytes) lines few says in
      let text : ended (lines_of bytes) ≡ script_text phases = facts.0 ∙ sym (phases-text lines) ∙ ap script_text all in
      let Asked : List (List Task) → Type 0 = AreTasks header in
      (ends (lines-end bytes) text, subst Asked all (phases-asked header lines facts.1))
    where
      ends : Ends bytes (lines_of bytes) → ended (lines_of bytes) ≡ script_text phases → IsScriptOf phases bytes
      ends (inl whole) text = inl (whole ∙ text)
      ends (inr cut) text = inr (cut ∙ text)

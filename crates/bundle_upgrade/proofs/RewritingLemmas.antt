-- What the code that rewrites logs comes to: command by command, and log by log.
use Rattle.std.proofs.Common.{◌≡◌, ℕ, zero, suc, ◌+◌, add-one, ◌<◌, map, List, [], ◌∷◌, ◌++◌, length, take, drop, set, get_or, Ok, Err, refl, sym, ◌∙◌, ap, subst, append-nil, append_assoc, arith}
use Rattle.std.specs.List.{AllByRecursion}
use Rattle.std.proofs.lemmas.List.{length-map, map-set}
use Rattle.lamport_clocks.specs.declared.header.Header.{Header}
use Rattle.record_text.specs.declared.reader.TextFault.{TextFault}
use Rattle.record_text.specs.Format.{LogFormat}
use Rattle.log_codec.specs.declared.log_command.LogCommand.{LogCommand}
use Rattle.log_codec.specs.declared.log_command.LogCommand.TheVariants.{ByPath, BySlot}
use Rattle.log_codec.specs.LogCommand.{command_at}
use Rattle.log_codec.specs.Log.{Log, read_log}
use Rattle.log_codec.proofs.LogLaws.{read_log-empty, read_log-step, read_log-fault}
use Rattle.slot_rewriting.specs.declared.writer.CommandWriter.{CommandWriter}
use Rattle.slot_rewriting.specs.Writing.{text_by, text_from, writer_after, writer_behind}
use Rattle.bundle_upgrade.specs.Upgraded.{path_commands, upgraded_log, upgraded_from}

-- ---- command by command

-- the text of a command's own, and of those behind it
text_one : (writer : CommandWriter) (command : LogCommand) (commands : List LogCommand)
    → text_from writer (path_commands (command ∷ commands))
    ≡ text_from writer (path_commands (command ∷ [])) ++ text_from (writer_behind writer (path_commands (command ∷ []))) (path_commands commands)
text_one writer (ByPath command) commands =
    ap (λ (own : List ℕ). own ++ text_from (writer_after writer command) (path_commands commands)) (sym (append-nil (text_by writer command)))
text_one writer (BySlot command) commands = refl

-- what was written, and what is to be written of the bytes that are left, is the whole text
abbrev pub WritesOn : LogFormat → List ℕ → CommandWriter → List ℕ → List ℕ → Type 0
WritesOn format text writer left all = text ++ text_from writer (path_commands (read_log format left).commands) ≡ all

pub writes-command : (format : LogFormat) (text more : List ℕ) (writer after : CommandWriter) (command : LogCommand) (left rest all : List ℕ)
    → WritesOn format text writer left all → command_at format left ≡ Ok (command, rest)
    → more ≡ text ++ text_from writer (path_commands (command ∷ [])) → after ≡ writer_behind writer (path_commands (command ∷ []))
    → WritesOn format more after rest all
writes-command format text more writer after command left rest all so_far found text_is after_is =
    let commands = (read_log format rest).commands in
    ap (λ (front : List ℕ). front ++ text_from after (path_commands commands)) text_is
    ∙ ap (λ (w : CommandWriter). (text ++ text_from writer (path_commands (command ∷ []))) ++ text_from w (path_commands commands)) after_is
    ∙ append_assoc text (text_from writer (path_commands (command ∷ []))) (text_from (writer_behind writer (path_commands (command ∷ []))) (path_commands commands))
    ∙ ap (λ (back : List ℕ). text ++ back) (sym (text_one writer command commands))
    ∙ ap (λ (log : Log). text ++ text_from writer (path_commands log.commands)) (sym (read_log-step format left command rest found))
    ∙ so_far

-- where no command is left
pub writes-nothing : (format : LogFormat) (text : List ℕ) (writer : CommandWriter) (left all : List ℕ) → (read_log format left).commands ≡ []
    → WritesOn format text writer left all → text ≡ all
writes-nothing format text writer left all none so_far =
    sym (append-nil text)
    ∙ ap (λ (commands : List LogCommand). text ++ text_from writer (path_commands commands)) (sym none)
    ∙ so_far

pub writes-end : (format : LogFormat) (text : List ℕ) (writer : CommandWriter) (left all : List ℕ) → left ≡ [] → WritesOn format text writer left all → text ≡ all
writes-end format text writer left all none so_far =
    writes-nothing format text writer left all (ap (λ (bytes : List ℕ). (read_log format bytes).commands) none ∙ ap (λ (log : Log). log.commands) (read_log-empty format)) so_far

pub writes-fault : (format : LogFormat) (text : List ℕ) (writer : CommandWriter) (left all : List ℕ) (fault : TextFault) → 0 < length left → command_at format left ≡ Err fault
    → WritesOn format text writer left all → text ≡ all
writes-fault format text writer left all fault some is so_far =
    writes-nothing format text writer left all (ap (λ (log : Log). log.commands) (read_log-fault format left fault some is)) so_far

-- ---- log by log

-- the logs of which so many are rewritten, the first of which is of the verifier of this number
abbrev pub front_upgraded : Header → ℕ → ℕ → List (List ℕ) → List (List ℕ)
front_upgraded header first count logs = upgraded_from header first (take count logs) ++ drop count logs

-- one log more
pub front-step : (header : Header) (first at number : ℕ) (logs : List (List ℕ)) → number ≡ first + at → at < length logs
    → set (front_upgraded header first at logs) at (upgraded_log header number (get_or logs at [])) ≡ front_upgraded header first (suc at) logs
front-step header first at number [] is below = absurd (omega (arith, below))
front-step header first zero number (log ∷ logs) is below =
    ap (λ (n : ℕ). upgraded_log header n log ∷ logs) (is ∙ omega arith)
front-step header first (suc at) number (log ∷ logs) is below =
    ap (λ (rest : List (List ℕ)). upgraded_log header first log ∷ rest)
    (front-step header (suc first) at number logs (omega (arith, is)) (omega (arith, below)))

-- the log in that place is as it was
pub front-get : (header : Header) (first at : ℕ) (logs : List (List ℕ)) → at < length logs → get_or (front_upgraded header first at logs) at [] ≡ get_or logs at []
front-get header first at [] below = absurd (omega (arith, below))
front-get header first zero (log ∷ logs) below = refl
front-get header first (suc at) (log ∷ logs) below = front-get header (suc first) at logs (omega (arith, below))

-- they are as many
front-length : (header : Header) (first at : ℕ) (logs : List (List ℕ)) → length (front_upgraded header first at logs) ≡ length logs
front-length header first zero logs = refl
front-length header first (suc at) [] = refl
front-length header first (suc at) (log ∷ logs) = ap suc (front-length header (suc first) at logs)

-- none so far, and all
pub front-none : (header : Header) (logs : List (List ℕ)) → front_upgraded header 0 0 logs ≡ logs
front-none header [] = refl
front-none header (log ∷ logs) = refl

pub front-all : (header : Header) (first : ℕ) (logs : List (List ℕ)) → front_upgraded header first (length logs) logs ≡ upgraded_from header first logs
front-all header first [] = refl
front-all header first (log ∷ logs) = ap (λ (rest : List (List ℕ)). upgraded_log header first log ∷ rest) (front-all header (suc first) logs)

-- ---- in the code's words

-- a log of those that lie in memory
at_text : {L : Type 0} (text_of : L → List ℕ) (logs : List L) (at : ℕ) (d : L) → at < length logs → text_of (get_or logs at d) ≡ get_or (map text_of logs) at []
at_text text_of [] at d below = absurd (omega (arith, below))
at_text text_of (log ∷ logs) zero d below = refl
at_text text_of (log ∷ logs) (suc at) d below = at_text text_of logs at d (omega (arith, below))

-- the bytes of one of them, as it is read
pub log_text : {L : Type 0} (text_of : L → List ℕ) (logs : List L) (at : ℕ) (log d : L) (read : List ℕ) → at < length logs → log ≡ get_or logs at d
    → read ≡ text_of log → read ≡ get_or (map text_of logs) at []
log_text text_of logs at log d read below log_is read_is = read_is ∙ ap text_of log_is ∙ at_text text_of logs at d below

as_many : {L : Type 0} (text_of : L → List ℕ) (header : Header) (number : ℕ) (logs : List L) (old : List (List ℕ)) → map text_of logs ≡ front_upgraded header 0 number old
    → length logs ≡ length old
as_many text_of header number logs old so_far = sym (length-map logs text_of) ∙ ap length so_far ∙ front-length header 0 number old

-- one that is not upgraded yet
log_found : {L : Type 0} (text_of : L → List ℕ) (header : Header) (number at : ℕ) (logs : List L) (old : List (List ℕ)) (log d : L)
    → at ≡ number → number < length logs → map text_of logs ≡ front_upgraded header 0 number old → log ≡ get_or logs at d
    → text_of log ≡ get_or old number []
log_found text_of header number at logs old log d at_is below so_far log_is =
    log_text text_of logs number log d (text_of log) below (log_is ∙ ap (λ (n : ℕ). get_or logs n d) at_is) refl
    ∙ ap (λ (all : List (List ℕ)). get_or all number []) so_far
    ∙ front-get header 0 number old (omega (arith, below, as_many text_of header number logs old so_far))

one_more : (P : List ℕ → Type 0) (number : ℕ) (logs : List (List ℕ)) → number < length logs → P (get_or logs number []) → AllByRecursion P (take number logs)
    → AllByRecursion P (take (suc number) logs)
one_more P number [] below holds before = absurd (omega (arith, below))
one_more P zero (log ∷ logs) below holds before = (holds, tt)
one_more P (suc number) (log ∷ logs) below holds before = (before.0, one_more P number logs (omega (arith, below)) holds before.1)

-- one of them upgraded
pub log-step : {L : Type 0} (text_of : L → List ℕ) (header : Header) (number at : ℕ) (logs : List L) (old : List (List ℕ)) (log new d : L)
    → at ≡ number → number < length logs → map text_of logs ≡ front_upgraded header 0 number old
    → log ≡ get_or logs at d → text_of new ≡ upgraded_log header number (text_of log)
    → map text_of (set logs at new) ≡ front_upgraded header 0 (number + 1) old
log-step text_of header number at logs old log new d at_is below so_far log_is new_is =
    map-set text_of logs at new
    ∙ ap (λ (n : ℕ). set (map text_of logs) n (text_of new)) at_is
    ∙ ap (λ (all : List (List ℕ)). set all number (text_of new)) so_far
    ∙ ap (λ (text : List ℕ). set (front_upgraded header 0 number old) number text)
    (new_is ∙ ap (upgraded_log header number) (log_found text_of header number at logs old log d at_is below so_far log_is))
    ∙ front-step header 0 number number old (omega arith) (omega (arith, below, as_many text_of header number logs old so_far))
    ∙ ap (λ (n : ℕ). front_upgraded header 0 n old) (sym (add-one number))

-- the bytes so far are those of the logs
pub bytes-step : {L : Type 0} (P : List ℕ → Type 0) (text_of : L → List ℕ) (header : Header) (number at : ℕ) (logs : List L) (old : List (List ℕ)) (log d : L)
    → at ≡ number → number < length logs → map text_of logs ≡ front_upgraded header 0 number old
    → log ≡ get_or logs at d → P (text_of log) → AllByRecursion P (take number old) → AllByRecursion P (take (number + 1) old)
bytes-step P text_of header number at logs old log d at_is below so_far log_is holds before =
    subst (λ (n : ℕ). AllByRecursion P (take n old)) (sym (add-one number))
    (one_more P number old (omega (arith, below, as_many text_of header number logs old so_far))
    (subst P (log_found text_of header number at logs old log d at_is below so_far log_is) holds) before)

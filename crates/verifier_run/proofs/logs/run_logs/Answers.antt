use Rattle.std.proofs.Common.{◌≡◌, ℕ, suc, ◌+◌, ◌<◌, List, [], ◌∷◌, ◌++◌, length, map, drop, get_or, add-one, sym, ◌∙◌, ap, append_assoc, arith}
use Rattle.std.proofs.lemmas.List.{drop_more, map-append}
use Rattle.lamport_clocks.specs.declared.header.Header.{Header}
use Rattle.merkle_records.specs.Scheme.{Scheme, scheme_of}
use Rattle.verifier_commands.specs.Event.{Event}
use Rattle.verifier_commands.specs.Machine.{opening_machine}
use Rattle.verifier_run.specs.Course.{Course}
use Rattle.verifier_run.specs.LogCourse.{log_course, courses_keeping}
use Rattle.verifier_run.proofs.logs.run_logs.Goals as goal

-- the run of one log more
courses_more : {R L A : Type 0} (course_of : R → Course A) (text_of : L → List ℕ) (keeps : Event → List A) (scheme : Scheme) (header : Header) (number : ℕ)
    (runs more : List R) (run : R) (logs : List L) (log : L) (text : List ℕ) (whole : List (Course A)) → number < length logs → log ≡ get_or logs number log → text ≡ text_of log
    → course_of run ≡ log_course keeps scheme (opening_machine number header) text → more ≡ runs ++ (run ∷ [])
    → map course_of runs ++ courses_keeping keeps scheme header number (map text_of (drop number logs)) ≡ whole
    → map course_of more ++ courses_keeping keeps scheme header (number + 1) (map text_of (drop (number + 1) logs)) ≡ whole
courses_more {R} {L} {A} course_of text_of keeps scheme header number runs more run logs log text whole below log_is text_is course_is more_is so_far =
    let rest = map text_of (drop (number + 1) logs) in
    ap (λ (rs : List R). map course_of rs ++ courses_keeping keeps scheme header (number + 1) rest) more_is
    ∙ ap (λ (courses : List (Course A)). courses ++ courses_keeping keeps scheme header (number + 1) rest) (map-append course_of runs (run ∷ []))
    ∙ append_assoc (map course_of runs) (course_of run ∷ []) (courses_keeping keeps scheme header (number + 1) rest)
    ∙ ap (λ (n : ℕ). map course_of runs ++ (course_of run ∷ courses_keeping keeps scheme header n rest)) (add-one number)
    ∙ ap (λ (course : Course A). map course_of runs ++ (course ∷ courses_keeping keeps scheme header (suc number) rest))
    (course_is ∙ ap (log_course keeps scheme (opening_machine number header)) (text_is ∙ ap text_of log_is))
    ∙ ap (λ (ls : List L). map course_of runs ++ courses_keeping keeps scheme header number (map text_of ls)) (sym (drop_more logs number log below))
    ∙ so_far

pub loop-number-preserved : goal.loop-number-preserved
loop-number-preserved g c =
    courses_more (λ run. run.course) (λ log. log.items) g.T.Kept.keeps (scheme_of (g.D.Digests.functions c.args.d.now) c.args.header.now) c.args.header.now c.loop-number.number
    c.loop-number.runs.items c.push.new.self.items c.in_ok-run_log.field-0 c.args.logs.now c.index-logs-number.result c.deref.result.now _
    c.loop-number-test.true c.index-logs-number.is c.deref.ensures.value c.in_ok-run_log.ensures.course c.in_ok-push.ensures.items c.loop-number.invariant

pub run_log-requires : goal.run_log-requires
run_log-requires g c = record { header = c.requires.header; number = omega (arith, c.loop-number-test.true, c.requires.count) }

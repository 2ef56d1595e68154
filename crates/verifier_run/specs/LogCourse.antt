-- What a log comes to: what is kept of its commands, and how it ends.
use Rattle.std.specs.Prelude.{ℕ, suc, List, [], ◌∷◌, Option, Some, None}
use Rattle.base_words.specs.Traced.{Traced}
use Rattle.std.specs.Option.{option_map}
use Rattle.lamport_clocks.specs.declared.header.Header.{Header}
use Rattle.record_text.specs.declared.refusal.Refusal.{Refusal}
use Rattle.record_text.specs.declared.refusal.Refusal.TheVariants as refusals
use Rattle.record_text.specs.declared.reader.TextFault.{TextFault}
use Rattle.record_text.specs.declared.reader.TextFault.TheVariants as faults
use Rattle.log_codec.specs.Log.{LogEnd, whole, faulty, read_log}
use Rattle.merkle_records.specs.Scheme.{Scheme}
use Rattle.verifier_commands.specs.Event.{Event}
use Rattle.verifier_commands.specs.Machine.{Machine, opening_machine}
use Rattle.verifier_commands.specs.Trace.{Done, trace}
use Rattle.verifier_run.specs.Kept.{items_of, parts_of}
use Rattle.verifier_run.specs.Course.{Course}

-- a fault of a text as a refusal
abbrev pub text_refusal : TextFault → Refusal
text_refusal faults.Malformed = refusals.Malformed
text_refusal faults.Truncated = refusals.Truncated

-- why a log that ends so is refused behind its last command, if it is
abbrev pub end_refusal : LogEnd → Option Refusal
end_refusal whole = None
end_refusal (faulty fault) = Some (text_refusal fault)

-- the refusal of a command comes before that of the log's end
abbrev pub refusal_by : Option Refusal → LogEnd → Option Refusal
refusal_by None end = end_refusal end
refusal_by (Some refusal) end = Some refusal

-- what a trace came to in a log that ends so: what is refused has the number of the accepted commands
abbrev pub course_of : {A : Type 0} → (Event → List A) → Traced Done Machine Refusal → LogEnd → Course A
course_of keeps trace end = record {
  machine = trace.state;
  items = items_of keeps trace.done;
  parts = parts_of trace.done;
  refused = option_map (λ refusal. (trace.state.accepted, refusal)) (refusal_by trace.refused end);
}

-- What the bytes of a log come to, from this verifier on.
abbrev pub log_course : {A : Type 0} → (Event → List A) → Scheme → Machine → List ℕ → Course A
log_course keeps scheme machine bytes =
    course_of keeps (trace scheme machine (read_log scheme.format bytes).commands) (read_log scheme.format bytes).end

-- what the logs of verifiers come to, the first of which has this number
abbrev pub courses_keeping : {A : Type 0} → (Event → List A) → Scheme → Header → ℕ → List (List ℕ) → List (Course A)
courses_keeping keeps scheme header number [] = []
courses_keeping keeps scheme header number (log ∷ logs) =
    log_course keeps scheme (opening_machine number header) log ∷ courses_keeping keeps scheme header (suc number) logs

-- What a verifier's commands have come to so far: the verifier after them, what was kept of them, the parts of the
-- sealed epochs, and the refusal that ended it.
use Rattle.std.specs.Prelude.{ℕ, List, [], ◌++◌, Option, Some, None, Result, Ok, Err}
use Rattle.multiset_sum.specs.declared.part.Part.{Part}
use Rattle.record_text.specs.declared.refusal.Refusal.{Refusal}
use Rattle.log_codec.specs.declared.log_command.LogCommand.{LogCommand}
use Rattle.merkle_records.specs.Scheme.{Scheme}
use Rattle.verifier_commands.specs.Event.{Event}
use Rattle.verifier_commands.specs.Machine.{Machine}
use Rattle.verifier_commands.specs.Trace.{Done, performed}
use Rattle.verifier_run.specs.Kept.{part_in}

-- the verifier, what it handed out, and its refusal
pub record Course (A : Type 0) : Type 0 where
  pub machine : Machine
  pub items : List A
  pub parts : List Part
  -- the number of the refused command, from 0, and why
  pub refused : Option (ℕ × Refusal)

-- before the first command
abbrev pub opening_course : {A : Type 0} → Machine → Course A
opening_course machine = record { machine = machine; items = []; parts = []; refused = None }

-- the next command is refused: its number is how many were accepted
abbrev pub refuse : {A : Type 0} → Course A → Refusal → Course A
refuse course refusal = record course { refused = Some (course.machine.accepted, refusal) }

-- the course after a step: with what it did, or refused
abbrev pub after_step : {A : Type 0} → (Event → List A) → Course A → Result (Done × Machine) Refusal → Course A
after_step keeps course (Ok done) = record course {
  machine = done.1;
  items = course.items ++ keeps done.0.event;
  parts = course.parts ++ part_in done.0.effect;
}
after_step keeps course (Err refusal) = refuse course refusal

-- The course after one command more.
unfoldable pub after_command : {A : Type 0} → (Event → List A) → Scheme → Course A → LogCommand → Course A
after_command keeps scheme course command = after_step keeps course (performed scheme course.machine command)

-- The commands of a piece, one after another.
use Rattle.std.proofs.Common.{◌≡◌, ℕ, ◌+◌, ◌≤◌, Bool, true, false, not, is_some, List, length, length-drop, take, drop, Option, Some, None, Err, refl, sym, ap, ◌∙◌, arith}
use Rattle.std.proofs.lemmas.List.{take-append-drop}
use Rattle.std.proofs.Math.Seq.{take-add, drop-length}
use Rattle.record_text.specs.declared.refusal.Refusal.{Refusal}
use Rattle.record_text.specs.declared.refusal.Refusal.TheVariants as refusals
use Rattle.record_text.specs.declared.reader.TextFault.TheVariants as faults
use Rattle.log_codec.specs.declared.log_command.LogCommand.{LogCommand}
use Rattle.log_codec.specs.LogCommand.{command_text, command_at, IsCommand}
use Rattle.command_window.specs.declared.read_command.ReadCommand.{ReadCommand}
use Rattle.command_window.specs.Window.{IsReadOf}
use Rattle.merkle_records.specs.Scheme.{Scheme}
use Rattle.verifier_commands.specs.Event.{Event}
use Rattle.verifier_run.specs.Course.{Course, refuse, after_command}
use Rattle.verifier_run.specs.Progress.{Progress, between_commands, progress_over, fed}
use Rattle.verifier_run.proofs.CourseLemmas.{over-joined, over-empty, over-refused, over-malformed, over-cut, over-text, header-one}

-- so many bytes of a piece have brought a course here, with no cut command
pub record HasRead {A : Type 0} (keeps : Event → List A) (scheme : Scheme) (start : Course A) (bytes : List ℕ) (taken : ℕ) (now : Course A) : Type 0 where
  pub header : now.machine.header ≡ start.machine.header
  pub within : taken ≤ length bytes
  pub accepted : now.machine.accepted ≤ start.machine.accepted + taken
  pub done : progress_over keeps scheme start (take taken bytes) ≡ between_commands now

pub none_taken : {A : Type 0} (keeps : Event → List A) (scheme : Scheme) (start : Course A) (bytes : List ℕ) → HasRead keeps scheme start bytes 0 start
none_taken keeps scheme start bytes = record { header = refl; within = omega arith; accepted = omega arith; done = over-empty keeps scheme start }

-- what the rest of the bytes makes of the course is what all of them make
pub rest_of_piece : {A : Type 0} (keeps : Event → List A) (scheme : Scheme) (start : Course A) (bytes : List ℕ) (taken : ℕ) (now : Course A) → HasRead keeps scheme start bytes taken now → progress_over keeps scheme start bytes ≡ progress_over keeps scheme now (drop taken bytes)
rest_of_piece {A = A} keeps scheme start bytes taken now so_far =
    ap (progress_over keeps scheme start) (sym (take-append-drop taken bytes))
    ∙ (sym (over-joined keeps scheme start (take taken bytes) (drop taken bytes))
    ∙ ap (λ (progress : Progress A). fed keeps scheme progress (drop taken bytes)) so_far.done)

-- a command more
pub more_taken : {A : Type 0} (keeps : Event → List A) (scheme : Scheme) (start : Course A) (bytes : List ℕ) (taken len : ℕ) (now after : Course A) (command : LogCommand)
    → HasRead keeps scheme start bytes taken now → now.refused ≡ None → IsCommand scheme.format command → take len (drop taken bytes) ≡ command_text command
    → taken + len ≤ length bytes → after ≡ after_command keeps scheme now command → after.machine.accepted ≤ start.machine.accepted + (taken + len)
    → HasRead keeps scheme start bytes (taken + len) after
more_taken {A = A} keeps scheme start bytes taken len now after command so_far none is spelled within is_after accepted = record {
  header = ap (λ (course : Course A). course.machine.header) is_after ∙ (header-one keeps scheme now command ∙ so_far.header);
  within = within;
  accepted = accepted;
  done = ap (progress_over keeps scheme start) (take-add taken len bytes)
      ∙ (sym (over-joined keeps scheme start (take taken bytes) (take len (drop taken bytes)))
      ∙ (ap (λ (progress : Progress A). fed keeps scheme progress (take len (drop taken bytes))) so_far.done
      ∙ (ap (progress_over keeps scheme now) spelled
      ∙ (over-text keeps scheme now command none is
      ∙ ap between_commands (sym is_after)))));
}

-- a command of a window more: it is what the bytes that are left begin with
pub window_taken : {A : Type 0} (keeps : Event → List A) (scheme : Scheme) (start : Course A) (bytes : List ℕ) (taken : ℕ) (now after : Course A) (read : ReadCommand)
    → HasRead keeps scheme start bytes taken now → now.refused ≡ None → IsReadOf scheme.format (drop taken bytes) read
    → after ≡ after_command keeps scheme now read.command → after.machine.accepted ≤ now.machine.accepted + 1
    → HasRead keeps scheme start bytes (taken + read.len) after
window_taken keeps scheme start bytes taken now after read so_far none is is_after accepted =
    more_taken keeps scheme start bytes taken read.len now after read.command so_far none is.kind is.text
    (omega (arith, is.within, so_far.within, length-drop taken bytes)) is_after (omega (arith, accepted, so_far.accepted, is.some))

-- where a window stops among the bytes that are left
pub window_stopped : {A : Type 0} (keeps : Event → List A) (scheme : Scheme) (start : Course A) (bytes : List ℕ) (taken more : ℕ) (now after : Course A)
    → HasRead keeps scheme start bytes taken now → progress_over keeps scheme now (take more (drop taken bytes)) ≡ between_commands after
    → progress_over keeps scheme start (take (taken + more) bytes) ≡ between_commands after
window_stopped {A = A} keeps scheme start bytes taken more now after so_far done =
    ap (progress_over keeps scheme start) (take-add taken more bytes)
    ∙ (sym (over-joined keeps scheme start (take taken bytes) (take more (drop taken bytes)))
    ∙ (ap (λ (progress : Progress A). fed keeps scheme progress (take more (drop taken bytes))) so_far.done ∙ done))

-- all that a window has of the bytes that are left
pub window_behind : {A : Type 0} (keeps : Event → List A) (scheme : Scheme) (start : Course A) (bytes : List ℕ) (taken more : ℕ) (now after : Course A)
    → HasRead keeps scheme start bytes taken now → more ≤ length (drop taken bytes) → after.machine.header ≡ now.machine.header
    → after.machine.accepted ≤ now.machine.accepted + more → progress_over keeps scheme now (take more (drop taken bytes)) ≡ between_commands after
    → HasRead keeps scheme start bytes (taken + more) after
window_behind {A = A} keeps scheme start bytes taken more now after so_far within header accepted done = record {
  header = header ∙ so_far.header;
  within = omega (arith, within, so_far.within, length-drop taken bytes);
  accepted = omega (arith, accepted, so_far.accepted);
  done = window_stopped keeps scheme start bytes taken more now after so_far done;
}

-- nothing is left behind all of the bytes
all_taken : {A : Type 0} (course : Course A) (bytes : List ℕ) → between_commands course ≡ record { course = course; held = drop (length bytes) bytes }
all_taken course bytes = ap (λ (held : List ℕ). record { course = course; held = held }) (sym (drop-length bytes))

pub refused_there : {A : Type 0} (keeps : Event → List A) (scheme : Scheme) (start : Course A) (bytes : List ℕ) (taken : ℕ) (now : Course A) (at : ℕ × Refusal)
    → HasRead keeps scheme start bytes taken now → now.refused ≡ Some at
    → progress_over keeps scheme start bytes ≡ record { course = now; held = drop (length bytes) bytes }
refused_there keeps scheme start bytes taken now at so_far is =
    rest_of_piece keeps scheme start bytes taken now so_far
    ∙ (over-refused keeps scheme now (drop taken bytes) at is ∙ all_taken now bytes)

pub malformed_there : {A : Type 0} (keeps : Event → List A) (scheme : Scheme) (start : Course A) (bytes : List ℕ) (taken : ℕ) (now after : Course A)
    → HasRead keeps scheme start bytes taken now → now.refused ≡ None → command_at scheme.format (drop taken bytes) ≡ Err faults.Malformed → after ≡ refuse now refusals.Malformed
    → progress_over keeps scheme start bytes ≡ record { course = after; held = drop (length bytes) bytes }
malformed_there keeps scheme start bytes taken now after so_far none is is_after =
    rest_of_piece keeps scheme start bytes taken now so_far
    ∙ (over-malformed keeps scheme now (drop taken bytes) none is
    ∙ (ap between_commands (sym is_after) ∙ all_taken after bytes))

pub cut_there : {A : Type 0} (keeps : Event → List A) (scheme : Scheme) (start : Course A) (bytes : List ℕ) (taken : ℕ) (now : Course A)
    → HasRead keeps scheme start bytes taken now → now.refused ≡ None → command_at scheme.format (drop taken bytes) ≡ Err faults.Truncated
    → progress_over keeps scheme start bytes ≡ record { course = now; held = drop taken bytes }
cut_there keeps scheme start bytes taken now so_far none is =
    rest_of_piece keeps scheme start bytes taken now so_far ∙ over-cut keeps scheme now (drop taken bytes) none is

pub ruleset following = (none_taken, more_taken, refused_there, malformed_there, cut_there)

-- what the test whether a course is refused tells
pub is_none_told : (refused answer : Option (ℕ × Refusal)) (none : Bool) → answer ≡ refused → is_some answer ≡ not none → none ≡ true → refused ≡ None
is_none_told refused None none is told e = sym is
is_none_told refused (Some at) none is told e = absurd (cc)

pub none_told : (refused answer : Option (ℕ × Refusal)) (some : Bool) → answer ≡ refused → some ≡ is_some answer → some ≡ false → refused ≡ None
none_told refused None some is told e = sym is
none_told refused (Some at) some is told e = absurd (cc)

pub refused_told : (refused answer : Option (ℕ × Refusal)) (some : Bool) → answer ≡ refused → some ≡ is_some answer → some ≡ true → (at : ℕ × Refusal) × (refused ≡ Some at)
refused_told refused None some is told e = absurd (cc)
refused_told refused (Some at) some is told e = (at, sym is)

pub is_some_told : (refused answer : Option (ℕ × Refusal)) (none : Bool) → answer ≡ refused → is_some answer ≡ not none → none ≡ false → (at : ℕ × Refusal) × (refused ≡ Some at)
is_some_told refused None none is told e = absurd (cc)
is_some_told refused (Some at) none is told e = (at, sym is)

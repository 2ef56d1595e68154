-- A command keeps what a run needs: its sums stay bounded, a part that it hands in is small, and its operation comes behind all before.
use Rattle.std.proofs.Common.{◌≡◌, ℕ, ◌≤◌, Bool, true, false, List, [], ◌∷◌, ◌++◌, Option, Some, None, Ok, Err, inl, inr, refl, sym, ◌∙◌, arith}
use Rattle.std.specs.List.{AllByRecursion}
use Rattle.std.proofs.lemmas.Bool.Decides.{nat_tests}
use Rattle.lamport_clocks.specs.declared.stamp.Stamp.{Stamp}
use Rattle.merkle_records.specs.Scheme.{Scheme}
use Rattle.record_text.specs.declared.operation.Operation.{Operation}
use Rattle.record_text.specs.declared.refusal.Refusal.{Refusal}
use Rattle.log_codec.specs.declared.log_command.LogCommand.{LogCommand}
use Rattle.stamp_order.specs.declared.moment.Moment.{Moment}
use Rattle.stamp_order.specs.Moment.{is_before}
use Rattle.stamp_order.specs.Merged.{comes_before, IsMerged}
use Rattle.stamp_order.specs.Operations.{moment_of}
use Rattle.stamp_order.proofs.InOrderLaws.{every-weaker, every-append}
use Rattle.verifier_cache.specs.declared.entry.Entry.{Entry}
use Rattle.verifier_commands.specs.Change.{Change, did_add_m, did_evict_m, did_add_b, did_evict_b, did_evict_bm, did_get, did_put, did_next_epoch}
use Rattle.verifier_commands.specs.Event.{Event, operation_at, operations_by}
use Rattle.verifier_commands.specs.Outcome.{outcome_of}
use Rattle.verifier_commands.specs.VerifierState.{VerifierStep, perform}
use Rattle.verifier_commands.specs.Machine.{Machine, AreBounded, effect_of, rules_for}
use Rattle.verifier_commands.specs.Trace.{done_with, done_by, changed}
use Rattle.verifier_commands.proofs.TickLaws.{IsUpTo, up_to-trans, ticks_perform, ticks-up_to}
use Rattle.verifier_run.specs.Kept.{keeps_operations, part_in}
use Rattle.verifier_run.specs.Course.{Course, after_step, after_command}
use Rattle.bundle_report.proofs.BoundedLaws.{bounded-after}
use Rattle.resumed_runs.specs.Base.{IsOwn, IsDoneBy}

-- what a command keeps of a course
pub record Stands (number : ℕ) (course : Course Operation) : Type 0 where
  pub number_is : course.machine.number ≡ number
  pub bounded : AreBounded course.machine.sums course.machine.state.clock
  pub own : AllByRecursion (IsOwn number) course.parts
  pub done : AllByRecursion (IsDoneBy number course.machine) course.items
  pub in_order : IsMerged moment_of course.items

-- ---- the part that is handed in

-- it is the verifier's, and small
own_told : (machine : Machine) (at : Stamp) (number : ℕ) → machine.number ≡ number → AreBounded machine.sums machine.state.clock → (change : Change)
    → AllByRecursion (IsOwn number) (part_in (effect_of machine at (outcome_of change)))
own_told machine at number own bounded (did_add_m parent after child) = tt
own_told machine at number own bounded (did_evict_m parent after child) = tt
own_told machine at number own bounded (did_add_b child element) = tt
own_told machine at number own bounded (did_evict_b child element) = tt
own_told machine at number own bounded (did_evict_bm parent after child element) = tt
own_told machine at number own bounded (did_get entry) = tt
own_told machine at number own bounded (did_put before after) = tt
own_told machine at number own bounded (did_next_epoch None) = tt
own_told machine at number own bounded (did_next_epoch (Some epoch)) =
    let end = bounded.end in
    let counter = bounded.counter in
    let added = bounded.added_before in
    let evicted = bounded.evicted_before in
    (record { verifier = own; added = omega arith; evicted = omega arith }, tt)

-- ---- the operation that is done

-- what holds of each operation on an entry, holds of those that a change is
each_operation : (P : Operation → Type 0) (event : Event) → ((put : Bool) (entry : Entry) → P (operation_at event put entry)) → (change : Change)
    → AllByRecursion P (operations_by event change)
each_operation P event holds (did_add_m parent after child) = tt
each_operation P event holds (did_evict_m parent after child) = tt
each_operation P event holds (did_add_b child element) = tt
each_operation P event holds (did_evict_b child element) = tt
each_operation P event holds (did_evict_bm parent after child element) = tt
each_operation P event holds (did_get entry) = (holds false entry, tt)
each_operation P event holds (did_put before after) = (holds true after, tt)
each_operation P event holds (did_next_epoch sealed) = tt

-- it is one at most
one_operation : (event : Event) (change : Change) → IsMerged moment_of (operations_by event change)
one_operation event (did_add_m parent after child) = tt
one_operation event (did_evict_m parent after child) = tt
one_operation event (did_add_b child element) = tt
one_operation event (did_evict_b child element) = tt
one_operation event (did_evict_bm parent after child element) = tt
one_operation event (did_get entry) = (tt, tt)
one_operation event (did_put before after) = (tt, tt)
one_operation event (did_next_epoch sealed) = tt

-- what one verifier does in a later command, at a stamp that is no earlier, does not come before
pub not_before : (m n : Moment) → n.verifier ≡ m.verifier → m.index ≤ n.index → IsUpTo m.at n.at → is_before n m ≡ false
not_before m n verifier index (inl up_to) = grind (arith, nat_tests)
not_before m n verifier index (inr up_to) = grind (arith, nat_tests)

-- operations behind others, none of which comes before any of these
merged_behind : (ops more : List Operation) → IsMerged moment_of ops → IsMerged moment_of more
    → AllByRecursion (λ later. AllByRecursion (λ op. comes_before moment_of later op ≡ false) ops) more → IsMerged moment_of (ops ++ more)
merged_behind [] more order later apart = later
merged_behind (op ∷ ops) more order later apart = (
  every-append (λ other. comes_before moment_of other op ≡ false) ops more order.0
      (every-weaker (λ other. AllByRecursion (λ one. comes_before moment_of other one ≡ false) (op ∷ ops)) (λ other. comes_before moment_of other op ≡ false)
      (λ other all. all.0) more apart),
  merged_behind ops more order.1 later
      (every-weaker (λ other. AllByRecursion (λ one. comes_before moment_of other one ≡ false) (op ∷ ops)) (λ other. AllByRecursion (λ one. comes_before moment_of other one ≡ false) ops)
      (λ other all. all.1) more apart),
)

-- ---- a command

module _ (scheme : Scheme) (number : ℕ) where
  -- A refusal changes nothing of this.
  pub stands-refused : (course : Course Operation) (refusal : Option (ℕ × Refusal)) → Stands number course → Stands number (record course { refused = refusal })
  stands-refused course refusal old = record {
    number_is = old.number_is;
    bounded = old.bounded;
    own = old.own;
    done = old.done;
    in_order = old.in_order;
  }

  stands_step : (course : Course Operation) (command : LogCommand) (step : VerifierStep)
      → perform (rules_for scheme course.machine) course.machine.state command ≡ step → Stands number course
      → Stands number (after_step keeps_operations course (done_by scheme course.machine step))
  stands_step course command (Ok done) is old =
      let ticks = ticks_perform (rules_for scheme course.machine) course.machine.state command done is in
      let up_to = ticks-up_to course.machine.state.clock done.1.clock done.0 ticks in
      let event = (done_with course.machine done.0 done.1).event in
      let after = changed scheme course.machine done in
      record {
        number_is = old.number_is;
        bounded = bounded-after scheme course.machine.state.clock done.1.clock course.machine.sums old.bounded done.0 ticks;
        own =
            every-append (IsOwn number) course.parts (part_in (effect_of course.machine done.1.clock.at (outcome_of done.0))) old.own
            (own_told course.machine done.1.clock.at number old.number_is old.bounded done.0);
        done =
            every-append (IsDoneBy number after) course.items (keeps_operations event)
            (every-weaker (IsDoneBy number course.machine) (IsDoneBy number after)
            (λ op was. record {
              verifier = was.verifier;
              accepted = omega (arith, was.accepted);
              no_later = up_to-trans op.stamp course.machine.state.clock.at done.1.clock.at was.no_later up_to;
            })
            course.items old.done)
            (each_operation (IsDoneBy number after) event
            (λ put entry. record { verifier = old.number_is; accepted = omega arith; no_later = inr (refl, omega arith) }) done.0);
        in_order =
            merged_behind course.items (keeps_operations event) old.in_order (one_operation event done.0)
            (each_operation (λ later. AllByRecursion (λ op. comes_before moment_of later op ≡ false) course.items) event
            (λ put entry.
            every-weaker (IsDoneBy number course.machine) (λ op. comes_before moment_of (operation_at event put entry) op ≡ false)
            (λ op was. not_before (moment_of op) (moment_of (operation_at event put entry)) (old.number_is ∙ sym was.verifier) (omega (arith, was.accepted))
            (up_to-trans op.stamp course.machine.state.clock.at done.1.clock.at was.no_later up_to))
            course.items old.done)
            done.0);
      }
  stands_step course command (Err refusal) is old = stands-refused course (Some (course.machine.accepted, refusal)) old

  -- A command keeps it.
  pub stands-command : (course : Course Operation) (command : LogCommand) → Stands number course → Stands number (after_command keeps_operations scheme course command)
  unfolding after_command
  stands-command course command old =
      stands_step course command (perform (rules_for scheme course.machine) course.machine.state command) refl old

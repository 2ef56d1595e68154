-- What an audit keeps of a command is what the cache told before it.
use Rattle.std.proofs.Common.{◌≡◌, ℕ, List, ◌++◌, map, Option, Some, None, Ok, refl, sym, ◌∙◌, ap}
use Rattle.std.specs.Option.{option_map, option_to_list}
use Rattle.lamport_clocks.specs.declared.stamp.Stamp.{Stamp}
use Rattle.log_codec.specs.declared.log_command.LogCommand.{LogCommand}
use Rattle.merkle_records.specs.Scheme.{Scheme}
use Rattle.multiset_sum.specs.declared.part.Part.{Part}
use Rattle.stamp_order.specs.declared.moment.Moment.{Moment}
use Rattle.verifier_commands.specs.declared.effect.Effect.{Effect}
use Rattle.verifier_commands.specs.Machine.{Machine, rules_for, stepped}
use Rattle.verifier_commands.specs.Trace.{done_with, performed}
use Rattle.verifier_commands.proofs.TraceLaws.{was_performed}
use Rattle.verifier_run.specs.Kept.{part_in, Yields}
use Rattle.collision_exhibit.specs.declared.audit_event.AuditEvent.{AuditEvent}
use Rattle.collision_exhibit.specs.declared.audit_event.AuditChange.{AuditChange}
use Rattle.collision_exhibit.specs.AuditEvent.{audit_events_by}
use Rattle.collision_exhibit.specs.AuditChange.{audit_change_of}
use Rattle.collision_exhibit.proofs.CommandLemmas.{deed_told}

-- a change of this moment
abbrev at_moment : Moment → AuditChange → AuditEvent
at_moment moment change = record { moment = moment; change = change }

-- the moment of a machine's next command, by its parts
moment_told : (machine : Machine) (at now : Stamp) (number index : ℕ) → at ≡ now → number ≡ machine.number → index ≡ machine.accepted
    → ◌≡◌ {A = Moment} (record { at = at; verifier = number; index = index })
    (record { at = now; verifier = machine.number; index = machine.accepted })
moment_told machine at now number index at_is number_is index_is =
    ap (λ (a : Stamp). record { at = a; verifier = number; index = index }) at_is
    ∙ ap (λ (n : ℕ). record { at = now; verifier = n; index = index }) number_is
    ∙ ap (λ (i : ℕ). record { at = now; verifier = machine.number; index = i }) index_is

-- a list of what was made of an option
listed : {A B : Type 0} (f : A → B) (option : Option A) → option_to_list (option_map f option) ≡ map f (option_to_list option)
listed f None = refl
listed f (Some value) = refl

-- What the cache tells of a command before it is what is kept of the command.
pub told_yields : (scheme : Scheme) (machine : Machine) (command : LogCommand) (effect : Effect) (after : Machine)
    (at : Stamp) (number index : ℕ) (change : Option AuditChange) (old new : List AuditEvent) (part : Option Part)
    → stepped scheme machine command ≡ Ok (effect, after)
    → at ≡ after.state.clock.at → number ≡ machine.number → index ≡ machine.accepted
    → change ≡ audit_change_of number machine.state.cache command
    → new ≡ old ++ option_to_list (option_map (at_moment (record { at = at; verifier = number; index = index })) change)
    → option_to_list part ≡ part_in effect
    → Yields audit_events_by old new part (performed scheme machine command) after
told_yields scheme machine command effect after at number index change old new part answers at_is number_is index_is change_is kept sealed =
    let was = was_performed scheme machine command effect after answers in
    let now = ap (λ (m : Machine). m.state.clock.at) was.after_is in
    let changes = deed_told (rules_for scheme machine) machine.state command (was.change, was.state) was.accepted in (
      done_with machine was.change was.state,
      was.step,
      kept ∙ ap (λ (events : List AuditEvent). old ++ events)
          (listed (at_moment (record { at = at; verifier = number; index = index })) change
          ∙ ap (λ (moment : Moment). map (at_moment moment) (option_to_list change))
          (moment_told machine at was.state.clock.at number index (at_is ∙ now) number_is index_is)
          ∙ ap (λ (told : Option AuditChange).
          map (at_moment (record { at = was.state.clock.at; verifier = machine.number; index = machine.accepted })) (option_to_list told))
          (change_is ∙ ap (λ (n : ℕ). audit_change_of n machine.state.cache command) number_is)
          ∙ ap (map (at_moment (record { at = was.state.clock.at; verifier = machine.number; index = machine.accepted }))) (sym changes)),
      sealed ∙ ap part_in was.effect_is,
    )

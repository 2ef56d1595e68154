-- What a run keeps of accepted commands: items of one kind, and the parts of sealed epochs.
use Rattle.std.specs.Prelude.{◌≡◌, List, [], ◌∷◌, ◌++◌, map, Option, Ok, Result}
use Rattle.std.specs.List.{flat_map}
use Rattle.std.specs.Option.{option_to_list}
use Rattle.multiset_sum.specs.declared.part.Part.{Part}
use Rattle.record_text.specs.declared.operation.Operation.{Operation}
use Rattle.record_text.specs.declared.refusal.Refusal.{Refusal}
use Rattle.verifier_commands.specs.declared.effect.Effect.{Effect}
use Rattle.verifier_commands.specs.declared.effect.Effect.TheVariants.{Plain, Did, Opened, Sealed}
use Rattle.verifier_commands.specs.Event.{Event, operations_by}
use Rattle.verifier_commands.specs.Machine.{Machine}
use Rattle.verifier_commands.specs.Trace.{Done}

-- what is kept of an event where operations are kept
abbrev pub keeps_operations : Event → List Operation
keeps_operations event = operations_by event event.change

-- the operation that an effect is, if it is one
abbrev pub operation_in : Effect → List Operation
operation_in Plain = []
operation_in (Did operation) = operation ∷ []
operation_in Opened = []
operation_in (Sealed part) = []

-- the part that an effect hands in, if it seals an epoch
abbrev pub part_in : Effect → List Part
part_in Plain = []
part_in (Did operation) = []
part_in Opened = []
part_in (Sealed part) = part ∷ []

-- what is kept of commands
abbrev pub items_of : {A : Type 0} → (Event → List A) → List Done → List A
items_of keeps done = flat_map keeps (map (λ command. command.event) done)

-- the parts that commands hand in
abbrev pub parts_of : List Done → List Part
parts_of done = flat_map (λ command. part_in command.effect) done

-- A command appends what is kept of its event, hands in this part, if it seals an epoch, and leaves this verifier.
abbrev pub Yields : {A : Type 0} → (Event → List A) → List A → List A → Option Part → Result (Done × Machine) Refusal → Machine → Type 0
Yields keeps old new part step after =
    (done : Done) × (step ≡ Ok (done, after)) × (new ≡ old ++ keeps done.event) × (option_to_list part ≡ part_in done.effect)

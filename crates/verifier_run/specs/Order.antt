-- In which epochs a verifier hands out what is kept and its parts, by its clock.
use Rattle.std.specs.Prelude.{◌≡◌, ℕ, suc, ◌-◌, ◌≤◌, max, List, [], ◌∷◌, ◌++◌}
use Rattle.lamport_clocks.specs.Reading.{Reading}
use Rattle.multiset_sum.specs.declared.part.Part.{Part}
use Rattle.record_text.specs.declared.operation.Operation.{Operation}
use Rattle.verifier_run.specs.Course.{Course}

-- the epoch of an operation
abbrev pub operation_epoch : Operation → ℕ
operation_epoch operation = operation.stamp.epoch

-- the epoch of a part
abbrev pub part_epoch : Part → ℕ
part_epoch part = part.epoch

-- the epochs of items never fall: from one on, up to another
abbrev pub NeverFalls : {X : Type 0} → (X → ℕ) → ℕ → ℕ → List X → Type 0
NeverFalls epoch low high [] = low ≤ high
NeverFalls epoch low high (item ∷ items) = (low ≤ epoch item) × NeverFalls epoch (epoch item) high items

-- one part of each epoch from one on, in order, and the next would be of this one
abbrev pub OneOfEach : ℕ → ℕ → List Part → Type 0
OneOfEach from next [] = from ≡ next
OneOfEach from next (part ∷ parts) = (part.epoch ≡ from) × OneOfEach (suc from) next parts

-- the epoch that a clock seals next: the one before its own, or the first while it is in that
abbrev pub sealed_next : Reading → ℕ
sealed_next clock = max clock.first (clock.at.epoch - 1)

-- What a verifier hands out while its clock goes from one reading to another: what is kept in the order of its
-- epochs, and one part of each epoch that is sealed.
pub record HandsOut {A : Type 0} (epoch : A → ℕ) (old new : Reading) (kept : List A) (sealed : List Part) : Type 0 where
  pub first : new.first ≡ old.first
  pub never_falls : old.at.epoch ≤ new.at.epoch
  pub items : NeverFalls epoch old.at.epoch new.at.epoch kept
  pub parts : OneOfEach (sealed_next old) (sealed_next new) sealed

-- the clock of a course
abbrev pub clock_of : {A : Type 0} → Course A → Reading
clock_of course = course.machine.state.clock

-- A course goes on from another, under the same header: what was handed out stays, and more stands behind it.
pub record GoesOn {A : Type 0} (epoch : A → ℕ) (old new : Course A) : Type 0 where
  pub header : new.machine.header ≡ old.machine.header
  pub items : List A
  pub items_behind : new.items ≡ old.items ++ items
  pub parts : List Part
  pub parts_behind : new.parts ≡ old.parts ++ parts
  pub hands_out : HandsOut epoch (clock_of old) (clock_of new) items parts

-- What is kept and parts stand in the order of their epochs, none of them later than the clock.
pub record StandsInOrder {A : Type 0} (epoch : A → ℕ) (clock : Reading) (kept : List A) (sealed : List Part) : Type 0 where
  pub items : NeverFalls epoch 0 clock.at.epoch kept
  pub parts : NeverFalls part_epoch 0 (sealed_next clock) sealed

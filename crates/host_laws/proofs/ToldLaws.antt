-- What is told of one list of commands behind another.
use Rattle.std.proofs.Common.{◌≡◌, Bool, List, [], ◌∷◌, ◌++◌}
use Rattle.std.specs.List.{AllByRecursion}
use Rattle.std.proofs.lemmas.List.Concat.{flat_map-append}
use Rattle.lamport_clocks.specs.declared.stamp.Stamp.{Stamp}
use Rattle.verifier_commands.specs.Change.{Change}
use Rattle.soundness.specs.Certified.{added_by, evicted_by}
use Rattle.host_laws.specs.Running.{Told, added_told, evicted_told, accesses_by, accesses_told}
use Rattle.host_laws.specs.Carried.{carrying, carried}

pub added_told-append : (first second : Told) → added_told (first ++ second) ≡ added_told first ++ added_told second
added_told-append first second = flat_map-append (λ (one : Stamp × Change). added_by one.1) first second

pub evicted_told-append : (first second : Told) → evicted_told (first ++ second) ≡ evicted_told first ++ evicted_told second
evicted_told-append first second = flat_map-append (λ (one : Stamp × Change). evicted_by one.1) first second

pub accesses_told-append : (first second : Told) → accesses_told (first ++ second) ≡ accesses_told first ++ accesses_told second
accesses_told-append first second = flat_map-append (λ (one : Stamp × Change). accesses_by one.1) first second

pub carried-append : (path : List Bool) (first second : Told) → carried path (first ++ second) ≡ carried path first ++ carried path second
carried-append path first second = flat_map-append (λ (one : Stamp × Change). carrying path one.1) first second

pub all-append : {A : Type 0} (P : A → Type 0) (xs ys : List A) → AllByRecursion P xs → AllByRecursion P ys → AllByRecursion P (xs ++ ys)
all-append P [] ys first second = second
all-append P (x ∷ xs) ys first second = (first.0, all-append P xs ys first.1 second)

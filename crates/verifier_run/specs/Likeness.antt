-- Runs that are one but for the order in which their caches list entries by path.
use Rattle.std.specs.Prelude.{◌≡◌, List, [], ◌∷◌}
use Rattle.verifier_commands.specs.VerifierState.{AnyCache}
use Rattle.verifier_commands.specs.Likeness.{AreAlikeCaches, machine_with}
use Rattle.verifier_run.specs.Course.{Course}
use Rattle.verifier_run.specs.Progress.{Progress}

-- the cache of a course's verifier
abbrev pub cache_in : {A : Type 0} → Course A → AnyCache
cache_in course = course.machine.state.cache

-- the course and the run of a verifier with another cache
abbrev pub course_with : {A : Type 0} → Course A → AnyCache → Course A
course_with course cache = record course { machine = machine_with course.machine cache }

abbrev pub run_with : {A : Type 0} → Progress A → AnyCache → Progress A
run_with run cache = record run { course = course_with run.course cache }

-- The other run is this one with a cache that is alike.
pub record IsLike {A : Type 0} (run other : Progress A) : Type 0 where
  pub cache : AnyCache
  pub alike : AreAlikeCaches (cache_in run.course) cache
  pub same : other ≡ run_with run cache

-- the runs of one list are like those of another, one by one
abbrev pub AreLike : {A : Type 0} → List (Progress A) → List (Progress A) → Type 0
AreLike [] [] = Unit {0}
AreLike [] (other ∷ others) = ⊥
AreLike (run ∷ runs) [] = ⊥
AreLike (run ∷ runs) (other ∷ others) = IsLike run other × AreLike runs others

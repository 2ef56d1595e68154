-- Runs that are one but for the order in which their caches list entries by path stay so, and hand out the same.
use Rattle.std.proofs.Common.{◌≡◌, ℕ, zero, suc, ◌<◌, ◌≤◌, List, [], ◌∷◌, ◌++◌, length, Result, Ok, Err, refl, sym, ◌∙◌, ap, subst, arith}
use Rattle.lamport_clocks.specs.declared.header.Header.{Header}
use Rattle.record_text.specs.declared.operation.Operation.{Operation}
use Rattle.record_text.specs.declared.refusal.Refusal.{Refusal}
use Rattle.record_text.specs.declared.refusal.Refusal.TheVariants as refusals
use Rattle.log_codec.specs.declared.log_command.LogCommand.{LogCommand}
use Rattle.log_codec.specs.LogCommand.{command_at}
use Rattle.log_codec.proofs.LogCommandLaws.{command_shorter}
use Rattle.merkle_records.specs.Scheme.{Scheme}
use Rattle.verifier_commands.specs.Event.{Event}
use Rattle.verifier_commands.specs.VerifierState.{AnyCache}
use Rattle.verifier_commands.specs.Machine.{Machine}
use Rattle.verifier_commands.specs.Likeness.{AreAlikeCaches, machine_with, AreLikeAnswers}
use Rattle.verifier_commands.specs.Trace.{Done, performed}
use Rattle.verifier_commands.proofs.LikenessLaws.{caches-back, caches-on, opening-alike, performed-alike}
use Rattle.verifier_run.specs.Course.{Course, opening_course, refuse, after_step, after_command}
use Rattle.verifier_run.specs.Progress.{Progress, between_commands, opening_progress, progress_over, fed, course_at_end, ended, weight}
use Rattle.verifier_run.specs.Order.{clock_of}
use Rattle.verifier_run.specs.Taken.{left_of}
use Rattle.verifier_run.specs.Likeness.{cache_in, course_with, run_with, IsLike}
use Rattle.verifier_run.proofs.CourseLemmas.{by_cases, over-empty, over-refused, over-found, over-malformed, over-cut}

-- ---- courses

-- the other course is this one with a cache that is alike
record IsLikeCourse {A : Type 0} (course other : Course A) : Type 0 where
  pub cache : AnyCache
  pub alike : AreAlikeCaches (cache_in course) cache
  pub same : other ≡ course_with course cache

-- so are the runs that hold the same
holding-like : {A : Type 0} (course other : Course A) (held : List ℕ) → IsLikeCourse course other
    → IsLike (record { course = course; held = held }) (record { course = other; held = held })
holding-like {A} course other held like = record {
  cache = like.cache;
  alike = like.alike;
  same = ap (λ (c : Course A). let run : Progress A = record { course = c; held = held } in run) like.same;
}

refuse-like : {A : Type 0} (course : Course A) (cache : AnyCache) (refusal : Refusal) → AreAlikeCaches (cache_in course) cache
    → IsLikeCourse (refuse course refusal) (refuse (course_with course cache) refusal)
refuse-like course cache refusal alike = record { cache = cache; alike = alike; same = refl }

-- runs are like where they come to like ones
come-like : {A : Type 0} (run now other then : Progress A) → run ≡ now → other ≡ then → IsLike now then → IsLike run other
come-like {A} run now other then is others like =
    subst (λ (r : Progress A). IsLike r other) (sym is) (subst (λ (r : Progress A). IsLike now r) (sym others) like)

module _ {A : Type 0} (keeps : Event → List A) where
  step-like : (course : Course A) (cache : AnyCache) (step other : Result (Done × Machine) Refusal) → AreAlikeCaches (cache_in course) cache → AreLikeAnswers step other
      → IsLikeCourse (after_step keeps course step) (after_step keeps (course_with course cache) other)
  step-like course cache (Ok done) (Ok other) alike like = record {
    cache = like.1.cache;
    alike = like.1.alike;
    same =
        ap (λ (d : Done). after_step keeps (course_with course cache) (Ok (d, other.1))) like.0
        ∙ ap (λ (m : Machine). after_step keeps (course_with course cache) (Ok (done.0, m))) like.1.same;
  }
  step-like course cache (Ok done) (Err refusal) alike like = absurd like
  step-like course cache (Err refusal) (Ok done) alike like = absurd like
  step-like course cache (Err refusal) (Err other) alike like = record {
    cache = cache;
    alike = alike;
    same = ap (λ (r : Refusal). refuse (course_with course cache) r) like;
  }

  -- one command
  command-like : (scheme : Scheme) (course : Course A) (cache : AnyCache) (command : LogCommand) → AreAlikeCaches (cache_in course) cache
      → IsLikeCourse (after_command keeps scheme course command) (after_command keeps scheme (course_with course cache) command)
  unfolding after_command
  command-like scheme course cache command alike =
      step-like course cache (performed scheme course.machine command) (performed scheme (machine_with course.machine cache) command) alike
      (performed-alike scheme course.machine (machine_with course.machine cache) command (record { cache = cache; alike = alike; same = refl }))

  over_like_up_to : (count : ℕ) (scheme : Scheme) (course : Course A) (cache : AnyCache) (bytes : List ℕ) → length bytes ≤ count → AreAlikeCaches (cache_in course) cache
      → IsLike (progress_over keeps scheme course bytes) (progress_over keeps scheme (course_with course cache) bytes)
  over_like_up_to count scheme course cache [] enough alike =
      come-like _ (between_commands course) _ (between_commands (course_with course cache))
      (over-empty keeps scheme course) (over-empty keeps scheme (course_with course cache))
      (record { cache = cache; alike = alike; same = refl })
  over_like_up_to zero scheme course cache (byte ∷ bytes) enough alike = absurd (omega arith)
  over_like_up_to (suc count) scheme course cache (byte ∷ bytes) enough alike =
      let other : Course A = course_with course cache in
      by_cases (IsLike (progress_over keeps scheme course (byte ∷ bytes)) (progress_over keeps scheme (course_with course cache) (byte ∷ bytes)))
      course.refused (command_at scheme.format (byte ∷ bytes))
      (λ at e.
      come-like _ (between_commands course) _ (between_commands other)
      (over-refused keeps scheme course (byte ∷ bytes) at e) (over-refused keeps scheme other (byte ∷ bytes) at e)
      (record { cache = cache; alike = alike; same = refl }))
      (λ command rest none is.
      let shorter : length rest < length (byte ∷ bytes) = command_shorter scheme.format (byte ∷ bytes) command rest is in
      let next = command-like scheme course cache command alike in
      let after = after_command keeps scheme course command in
      come-like _ (progress_over keeps scheme after rest) _ (progress_over keeps scheme (course_with after next.cache) rest)
      (over-found keeps scheme course (byte ∷ bytes) command rest none is)
      (over-found keeps scheme other (byte ∷ bytes) command rest none is ∙ ap (λ (c : Course A). progress_over keeps scheme c rest) next.same)
      (over_like_up_to count scheme after next.cache rest (omega arith) next.alike))
      (λ none is.
      come-like _ (between_commands (refuse course refusals.Malformed)) _ (between_commands (refuse other refusals.Malformed))
      (over-malformed keeps scheme course (byte ∷ bytes) none is) (over-malformed keeps scheme other (byte ∷ bytes) none is)
      (holding-like _ _ [] (refuse-like course cache refusals.Malformed alike)))
      (λ none is.
      come-like _ (record { course = course; held = byte ∷ bytes }) _ (record { course = other; held = byte ∷ bytes })
      (over-cut keeps scheme course (byte ∷ bytes) none is) (over-cut keeps scheme other (byte ∷ bytes) none is)
      (record { cache = cache; alike = alike; same = refl }))

-- ---- runs

-- Before the first byte a run is like itself.
pub opening-like : {A : Type 0} (number : ℕ) (header : Header) → let run : Progress A = opening_progress number header in IsLike run run
opening-like {A} number header =
    let like = opening-alike number header in
    record {
      cache = like.cache;
      alike = like.alike;
      same = ap (λ (m : Machine). let run : Progress A = between_commands (opening_course m) in run) like.same;
    }

-- Behind the same bytes like runs are like,
pub fed-like : {A : Type 0} (keeps : Event → List A) (scheme : Scheme) (run other : Progress A) (piece : List ℕ)
    → IsLike run other → IsLike (fed keeps scheme run piece) (fed keeps scheme other piece)
fed-like {A} keeps scheme run other piece like =
    subst (λ (r : Progress A). IsLike (fed keeps scheme run piece) (fed keeps scheme r piece)) (sym like.same)
    (over_like_up_to keeps (length (run.held ++ piece)) scheme run.course like.cache (run.held ++ piece) (omega arith) like.alike)

ended_by : {A : Type 0} (course : Course A) (cache : AnyCache) (held : List ℕ) → AreAlikeCaches (cache_in course) cache
    → IsLike (between_commands (course_at_end course held)) (between_commands (course_at_end (course_with course cache) held))
ended_by course cache [] alike = record { cache = cache; alike = alike; same = refl }
ended_by course cache (byte ∷ held) alike = holding-like _ _ [] (refuse-like course cache refusals.Truncated alike)

-- at the ends of their logs too,
pub ended-like : {A : Type 0} (run other : Progress A) → IsLike run other → IsLike (ended run) (ended other)
ended-like {A} run other like =
    subst (λ (r : Progress A). IsLike (ended run) (ended r)) (sym like.same) (ended_by run.course like.cache run.held like.alike)

-- and without what was taken up to an epoch.
pub left-like : (through : ℕ) (run other : Progress Operation) → IsLike run other → IsLike (left_of through run) (left_of through other)
left-like through run other like = record { cache = like.cache; alike = like.alike; same = ap (left_of through) like.same }

-- Likeness goes both ways,
pub like-back : {A : Type 0} (run other : Progress A) → IsLike run other → IsLike other run
like-back {A} run other like = record {
  cache = cache_in run.course;
  alike = subst (λ (r : Progress A). AreAlikeCaches (cache_in r.course) (cache_in run.course)) (sym like.same) (caches-back (cache_in run.course) like.cache like.alike);
  same = sym (ap (λ (r : Progress A). run_with r (cache_in run.course)) like.same);
}

-- and on.
pub like-on : {A : Type 0} (run other third : Progress A) → IsLike run other → IsLike other third → IsLike run third
like-on {A} run other third like more = record {
  cache = more.cache;
  alike =
      caches-on (cache_in run.course) like.cache more.cache like.alike
      (subst (λ (r : Progress A). AreAlikeCaches (cache_in r.course) more.cache) like.same more.alike);
  same = more.same ∙ ap (λ (r : Progress A). run_with r more.cache) like.same;
}

-- ---- what like runs share

pub items-like : {A : Type 0} (run other : Progress A) → IsLike run other → other.course.items ≡ run.course.items
items-like {A} run other like = ap (λ (r : Progress A). r.course.items) like.same

pub parts-like : {A : Type 0} (run other : Progress A) → IsLike run other → other.course.parts ≡ run.course.parts
parts-like {A} run other like = ap (λ (r : Progress A). r.course.parts) like.same

pub refused-like : {A : Type 0} (run other : Progress A) → IsLike run other → other.course.refused ≡ run.course.refused
refused-like {A} run other like = ap (λ (r : Progress A). r.course.refused) like.same

pub held-like : {A : Type 0} (run other : Progress A) → IsLike run other → other.held ≡ run.held
held-like {A} run other like = ap (λ (r : Progress A). r.held) like.same

pub sums-like : {A : Type 0} (run other : Progress A) → IsLike run other → other.course.machine.sums ≡ run.course.machine.sums
sums-like {A} run other like = ap (λ (r : Progress A). r.course.machine.sums) like.same

pub clock-like : {A : Type 0} (run other : Progress A) → IsLike run other → clock_of other.course ≡ clock_of run.course
clock-like {A} run other like = ap (λ (r : Progress A). clock_of r.course) like.same

pub accepted-like : {A : Type 0} (run other : Progress A) → IsLike run other → other.course.machine.accepted ≡ run.course.machine.accepted
accepted-like {A} run other like = ap (λ (r : Progress A). r.course.machine.accepted) like.same

pub number-like : {A : Type 0} (run other : Progress A) → IsLike run other → other.course.machine.number ≡ run.course.machine.number
number-like {A} run other like = ap (λ (r : Progress A). r.course.machine.number) like.same

pub header-like : {A : Type 0} (run other : Progress A) → IsLike run other → other.course.machine.header ≡ run.course.machine.header
header-like {A} run other like = ap (λ (r : Progress A). r.course.machine.header) like.same

pub weight-like : {A : Type 0} (run other : Progress A) → IsLike run other → weight other ≡ weight run
weight-like {A} run other like = ap (λ (r : Progress A). weight r) like.same

-- What is taken of a course up to an epoch, and what stays.
use Rattle.std.specs.Prelude.{ℕ, nat_le, nat_lt, List, filter}
use Rattle.record_text.specs.declared.operation.Operation.{Operation}
use Rattle.verifier_run.specs.Course.{Course}
use Rattle.verifier_run.specs.Progress.{Progress}

-- the operations of epochs up to this one
abbrev pub taken_by : ℕ → Course Operation → List Operation
taken_by through course = filter (λ operation. nat_le operation.stamp.epoch through) course.items

-- the course without the operations and the parts of epochs up to this one
abbrev pub left_behind : ℕ → Course Operation → Course Operation
left_behind through course = record course {
  items = filter (λ operation. nat_lt through operation.stamp.epoch) course.items;
  parts = filter (λ part. nat_lt through part.epoch) course.parts;
}

-- a progress whose course is so
abbrev pub left_of : ℕ → Progress Operation → Progress Operation
left_of through progress = record progress { course = left_behind through progress.course }

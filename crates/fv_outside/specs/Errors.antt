-- The error of an object from outside, the one value of its type.
use Rattle.fv_outside.specs.declared.errors.Failed.{Failed}

abbrev pub failed : Failed
failed = record {}

-- The kinds of status: which status it is, without what it tells. Whatever is said of several statuses names their kinds.
use Rattle.std.specs.Prelude.{ℕ, Bool, true, false, ◌||◌, nat_eq, List, [], ◌∷◌}
use Rattle.report_text.specs.declared.status.Status.{Status}
use Rattle.report_text.specs.declared.status.Status.TheVariants as statuses

-- the kinds, each by the name of its status
pub data StatusKind : Type 0 where
  done : StatusKind
  usage : StatusKind
  memory : StatusKind
  read_fault : StatusKind
  write_fault : StatusKind
  vault_fault : StatusKind
  bad_script : StatusKind
  bad_bundle : StatusKind
  refused : StatusKind
  unbalanced : StatusKind
  clock_end : StatusKind
  not_tagged : StatusKind
  not_certified : StatusKind
  exhibit : StatusKind
  input_limit : StatusKind
  bad_seal : StatusKind
  stale : StatusKind
  counter_fault : StatusKind

-- the number of a kind, with which the program exits
abbrev pub kind_number : StatusKind → ℕ
kind_number done = 0
kind_number usage = 1
kind_number memory = 2
kind_number read_fault = 3
kind_number write_fault = 4
kind_number vault_fault = 5
kind_number bad_script = 6
kind_number bad_bundle = 7
kind_number refused = 8
kind_number unbalanced = 9
kind_number clock_end = 10
kind_number not_tagged = 11
kind_number not_certified = 12
kind_number exhibit = 13
kind_number input_limit = 14
kind_number bad_seal = 15
kind_number stale = 16
kind_number counter_fault = 17

-- the kind of a status
abbrev pub kind_of : Status → StatusKind
kind_of (statuses.Done epochs) = done
kind_of statuses.Usage = usage
kind_of statuses.Memory = memory
kind_of statuses.ReadFault = read_fault
kind_of statuses.WriteFault = write_fault
kind_of statuses.VaultFault = vault_fault
kind_of (statuses.BadScript line cause) = bad_script
kind_of (statuses.BadBundle offset) = bad_bundle
kind_of (statuses.Refused verifier index refusal) = refused
kind_of (statuses.Unbalanced epoch added evicted) = unbalanced
kind_of (statuses.ClockEnd worker at) = clock_end
kind_of statuses.NotTagged = not_tagged
kind_of statuses.NotCertified = not_certified
kind_of statuses.Exhibit = exhibit
kind_of (statuses.InputLimit taken) = input_limit
kind_of statuses.BadSeal = bad_seal
kind_of (statuses.Stale sealed device) = stale
kind_of statuses.CounterFault = counter_fault

-- the kind stands in the list
abbrev pub has_kind : List StatusKind → StatusKind → Bool
has_kind [] kind = false
has_kind (own ∷ others) kind = nat_eq (kind_number own) (kind_number kind) || has_kind others kind

-- what holds just where a test does. It computes, so that of a status that is known nothing is left to prove.
abbrev pub IsSo : Bool → Type 0
IsSo true = Unit {0}
IsSo false = ⊥

-- the status is one of these kinds
abbrev pub IsOneOf : List StatusKind → Status → Type 0
IsOneOf kinds status = IsSo (has_kind kinds (kind_of status))

-- How a run of the program ends: the number and the text of each status.
use Rattle.std.specs.Prelude.{ℕ, List, ◌++◌, codes}
use Rattle.std.specs.Fmt.{decimal}
use Rattle.record_text.specs.Cause.{cause_name}
use Rattle.record_text.specs.Refusal.{refusal_name}
use Rattle.lamport_clocks.specs.declared.stamp.Stamp.{Stamp}
use Rattle.record_text.specs.declared.cause.Cause.{Cause}
use Rattle.record_text.specs.declared.refusal.Refusal.{Refusal}
use Rattle.report_text.specs.declared.status.Status.{Status}
use Rattle.report_text.specs.declared.status.Status.TheVariants.{Done, Usage, Memory, ReadFault, WriteFault, VaultFault, BadScript, BadBundle, Refused, Unbalanced, ClockEnd, NotTagged, NotCertified, Exhibit, InputLimit, BadSeal, Stale, CounterFault}
use Rattle.report_text.specs.Kinds.{kind_of, kind_number}
use Rattle.report_text.specs.Lines.{stamp_words, line_end}

-- the exit status of the program
abbrev pub status_number : Status → ℕ
status_number status = kind_number (kind_of status)

-- which command of which log is refused, and why
abbrev pub refused_words : ℕ → ℕ → Refusal → List ℕ
refused_words verifier index refusal =
    codes "refused v" ++ decimal verifier ++ codes " command " ++ decimal index ++ codes " " ++ refusal_name refusal

-- how many elements were added and evicted, where these differ
abbrev pub count_words : ℕ → ℕ → List ℕ
count_words added evicted = codes " unbalanced added " ++ decimal added ++ codes " evicted " ++ decimal evicted

-- which epoch is unbalanced, and how many elements were added and evicted
abbrev pub unbalanced_words : ℕ → ℕ → ℕ → List ℕ
unbalanced_words epoch added evicted = codes "epoch " ++ decimal epoch ++ count_words added evicted

-- which line of a script is refused, and why
abbrev pub bad_script_words : ℕ → Cause → List ℕ
bad_script_words line cause = codes "bad script line " ++ decimal line ++ codes " " ++ cause_name cause

-- whose clock ended, and where it stood
abbrev pub clock_end_words : ℕ → Stamp → List ℕ
clock_end_words worker at = codes "clock end worker " ++ decimal worker ++ codes " at " ++ stamp_words at

-- which number a seal has, and which the counter
abbrev pub stale_words : ℕ → ℕ → List ℕ
stale_words sealed device = codes "stale sealed " ++ decimal sealed ++ codes " device " ++ decimal device

-- what a status says; `done` and the number of certified epochs where the whole job is done
abbrev pub status_words : Status → List ℕ
status_words (Done epochs) = codes "done " ++ decimal epochs
status_words Usage = codes "usage"
status_words Memory = codes "memory"
status_words ReadFault = codes "read fault"
status_words WriteFault = codes "write fault"
status_words VaultFault = codes "vault fault"
status_words (BadScript line cause) = bad_script_words line cause
status_words (BadBundle offset) = codes "bad bundle at byte " ++ decimal offset
status_words (Refused verifier index refusal) = refused_words verifier index refusal
status_words (Unbalanced epoch added evicted) = unbalanced_words epoch added.count evicted.count
status_words (ClockEnd worker at) = clock_end_words worker at
status_words NotTagged = codes "not tagged"
status_words NotCertified = codes "not certified"
status_words Exhibit = codes "exhibit"
status_words (InputLimit taken) = codes "input limit"
status_words BadSeal = codes "bad seal"
status_words (Stale sealed device) = stale_words sealed device
status_words CounterFault = codes "counter fault"

-- the last line of a report
abbrev pub last_line : Status → List ℕ
last_line status = status_words status ++ line_end

-- the last line of a report whose bundle is sealed, with so many certified epochs
abbrev pub sealed_line : ℕ → List ℕ
sealed_line epochs = codes "sealed " ++ decimal epochs ++ line_end

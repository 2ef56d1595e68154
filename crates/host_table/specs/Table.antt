-- What a table of records shows.
use Rattle.record_hash.specs.Functions.{DigestFunctions}
use Rattle.atomic_table.specs.Seated.{TableId}
use Rattle.host_epochs.specs.Table as rounds
use Rattle.host_table.specs.declared.records.Records.{Records}
use Rattle.host_table.specs.Terms.{Terms, phase_of}

-- which table it is
abbrev pub table : {D : Type 0} → Records D → TableId
table records = rounds.table records.epochs

-- what it was made with
abbrev pub terms : {D : Type 0} → (D → DigestFunctions) → Records D → Terms
terms functions records = phase_of (rounds.terms functions records.epochs)

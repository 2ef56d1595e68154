-- What a table of records shows.
use Rattle.record_hash.specs.Functions.{DigestFunctions}
use Rattle.atomic_table.specs.Seated.{TableId}
use Rattle.host_epochs.specs.declared.epochs.Epochs.{Epochs}
use Rattle.host_epochs.specs.declared.making.Making.{Making}
use Rattle.host_epochs.specs.Made.{terms_of}
use Rattle.host_epochs.specs.Terms.{Terms}

-- which table it is
abbrev pub table : {D : Type 0} → Epochs D → TableId
table epochs = epochs.board.shared.table_id

-- what its rule was told
abbrev pub making : {D : Type 0} → Epochs D → Making D
making epochs = epochs.board.shared.key

-- what it was made with
abbrev pub terms : {D : Type 0} → (D → DigestFunctions) → Epochs D → Terms
terms functions epochs = terms_of functions (making epochs)

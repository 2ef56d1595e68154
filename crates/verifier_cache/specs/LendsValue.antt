-- A value of a cache that is lent out to be written.
use Rattle.std.specs.Prelude.{Bool, List}
use Rattle.std.specs.Borrow.{Lends, MutBor, Fml}
use Rattle.record_text.specs.declared.value.Value.{Value}
use Rattle.record_text.specs.contracts.value.Value.{the_row as value_row}
use Rattle.verifier_cache.specs.contracts.cache.Cache.{the_row}
use Rattle.verifier_cache.specs.Entry.{with_value}
use Rattle.verifier_cache.specs.Cache.{Held, changed}

-- the cache with the value of a path written
abbrev pub with_value_at : Held → List Bool → Value → Held
with_value_at cache path value = record cache { entries = changed path (λ entry. with_value entry value) cache.entries }

-- the cache ends with the last value behind the reference at the path
abbrev pub LendsValue : MutBor Held → List Bool → MutBor Value → Fml
LendsValue cache path lent = Lends the_row value_row cache lent (with_value_at cache.now path)

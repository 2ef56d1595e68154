-- How a call can fail, by what it reads and writes: what else there is to fail it, it never answers.
use Rattle.std.specs.Prelude.{◌≢◌, Result, Err}
use Rattle.fv_outside.specs.declared.failure.Failure.{Failure}
use Rattle.fv_outside.specs.declared.failure.Failure.TheVariants.{Memory, ReadFault, InputLimit, VaultFault, WriteFault}

-- It fails only where its source fails or gives too much.
pub record FailsBySource {A : Type 0} (result : Result A Failure) : Type 0 where
  pub memory : result ≢ Err Memory
  pub vault : result ≢ Err VaultFault
  pub sink : result ≢ Err WriteFault

-- only by its source, or by want of memory
pub record FailsByReading {A : Type 0} (result : Result A Failure) : Type 0 where
  pub vault : result ≢ Err VaultFault
  pub sink : result ≢ Err WriteFault

-- only by its sink, or by want of memory
pub record FailsByWriting {A : Type 0} (result : Result A Failure) : Type 0 where
  pub source : result ≢ Err ReadFault
  pub limit : result ≢ Err InputLimit
  pub vault : result ≢ Err VaultFault

-- only by its vault, or by want of memory
pub record FailsByVault {A : Type 0} (result : Result A Failure) : Type 0 where
  pub source : result ≢ Err ReadFault
  pub limit : result ≢ Err InputLimit
  pub sink : result ≢ Err WriteFault

-- only by its sink, by its vault, or by want of memory: it reads nothing
pub record FailsByOutput {A : Type 0} (result : Result A Failure) : Type 0 where
  pub source : result ≢ Err ReadFault
  pub limit : result ≢ Err InputLimit

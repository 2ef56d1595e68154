-- A check that sealed its bundle, and one that went on from the seal, as two calls of the program.
use Rattle.std.specs.Prelude.{◌≡◌, ℕ, ◌<◌, List, ◌++◌, All, Some}
use Rattle.fv_outside.specs.Written.{Grows}
use Rattle.report_text.specs.declared.status.Status.{Status}
use Rattle.report_text.specs.Status.{sealed_line}
use Rattle.report_text.specs.Answer.{Answer, Reading, Writing}
use Rattle.check_core.specs.Sealing.{Keeping, Counting}

-- A call that read these bytes placed a seal: its vault took this text, and its counter has this number then.
pub record HasPlaced (sealed text : List ℕ) (number : ℕ) (reading : Reading) (keeping : Keeping) (counting : Counting) : Type 0 where
  pub read : reading.left ≡ Some sealed
  pub are_bytes : All (λ byte. byte < 256) sealed
  pub before : List ℕ
  pub held : keeping.held ≡ Some before
  pub took : keeping.held_after ≡ Some (before ++ text)
  pub number_before : ℕ
  pub told : counting.number ≡ Some number_before
  pub raised : counting.number_after ≡ Some number

-- The next call reads that text with more bytes behind it, and nothing raised the counter in between.
pub record GoesOnFrom (text more : List ℕ) (number : ℕ) (reading : Reading) (counting : Counting) : Type 0 where
  pub read : reading.left ≡ Some (text ++ more)
  pub number_is : counting.number ≡ Some number

-- Two calls told this report together: all lines of the first but its last, which says `sealed`, and behind them all that the second
-- wrote; and the second has the report's status.
pub record TellTogether (report : Answer) (epochs : ℕ) (result : Status) (first second : Writing) : Type 0 where
  pub lines : List ℕ
  pub rest : List ℕ
  pub wrote : Grows first.held first.held_after (lines ++ sealed_line epochs)
  pub went_on : Grows second.held second.held_after rest
  pub whole : lines ++ rest ≡ report.text
  pub status : result ≡ report.status

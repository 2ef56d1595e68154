-- The clock of a worker, behind one entry more and in the next epoch.
use Rattle.std.proofs.Common.{◌≡◌, ℕ, suc, ◌+◌, ◌≤◌, List, [], ◌∷◌, ◌++◌, refl, ◌∙◌, ap, subst, inl, inr, ⊎_elim, arith}
use Rattle.lamport_clocks.specs.Reading.{Reading}
use Rattle.host_epochs.specs.declared.told.Entry.{Entry}
use Rattle.host_epochs.specs.Terms.{Terms}
use Rattle.host_epochs.specs.Told.{GoesOn, IsAsked, IsTurned, Continues, TakesUp, IsClockBehind}
use Rattle.host_epochs.proofs.WorkLaws.{later_epoch, later_clock}

continues_more : (clock : Reading) (es : List Entry) (e : Entry) → Continues clock es e.clock → Continues clock (es ++ e ∷ []) e.later
continues_more clock [] e goes = (goes, inl refl)
continues_more clock (d ∷ es) e goes = (goes.0, continues_more d.later es e goes.1)

-- a clock that goes on is of no earlier epoch
pub goes_up : (clock later : Reading) → GoesOn clock later → clock.at.epoch ≤ later.at.epoch
goes_up clock later goes = ⊎_elim
    (λ (same : later ≡ clock). let epoch = ap (λ (r : Reading). r.at.epoch) same in omega (arith, epoch))
    (λ (turned : IsTurned clock later). let less = turned.epoch in omega (arith, less))
    goes

goes_turned : (a b c : Reading) → GoesOn a b → IsTurned b c → GoesOn a c
goes_turned a b c goes turned = ⊎_elim
    (λ (same : b ≡ a). inr (subst (λ (x : Reading). IsTurned x c) same turned))
    (λ (one : IsTurned a b). inr record { first = turned.first ∙ one.first; end = turned.end ∙ one.end; epoch = omega (arith, one.epoch, turned.epoch); counter = turned.counter })
    goes

continues_turned : (a : Reading) (es : List Entry) (b c : Reading) → Continues a es b → IsTurned b c → Continues a es c
continues_turned a [] b c goes turned = goes_turned a b c goes turned
continues_turned a (e ∷ es) b c goes turned = (goes.0, continues_turned e.later es b c goes.1 turned)

module _ (terms : Terms) where
  takes_more : (es : List Entry) (e : Entry) → TakesUp terms es e.clock → TakesUp terms (es ++ e ∷ []) e.later
  takes_more [] e goes = inl refl
  takes_more (d ∷ es) e goes = continues_more d.later es e goes

  takes_turned : (es : List Entry) (b c : Reading) → TakesUp terms es b → IsTurned b c → TakesUp terms es c
  takes_turned [] b c goes turned = λ _. turned.counter
  takes_turned (e ∷ es) b c goes turned = continues_turned e.later es b c goes turned

  -- behind an entry
  pub behind_more : (entries : List Entry) (entered : ℕ) (entry : Entry) → IsAsked terms entry → IsClockBehind terms entries entered entry.clock
      → IsClockBehind terms (entries ++ entry ∷ []) entered entry.later
  behind_more entries entered entry asked behind = record {
    is = later_clock terms entry asked;
    epoch = later_epoch terms entry asked ∙ behind.epoch;
    chained = takes_more entries entry behind.chained;
  }

  -- once it turned to the next epoch
  pub behind_entered : (entries : List Entry) (entered : ℕ) (clock : Reading) → suc entered ≤ terms.more → IsClockBehind terms entries entered clock
      → IsClockBehind terms entries (suc entered) record { first = clock.first; end = clock.end; at = record { epoch = clock.at.epoch + 1; counter = 0 } }
  behind_entered entries entered clock more behind =
      let next : Reading = record { first = clock.first; end = clock.end; at = record { epoch = clock.at.epoch + 1; counter = 0 } } in
      let here = behind.epoch in
      record {
        is = record { first = behind.is.first; end = behind.is.end; from = omega (arith, here); to = omega (arith, here, more) };
        epoch = omega (arith, here);
        chained = takes_turned entries clock next behind.chained record { first = refl; end = refl; epoch = omega arith; counter = refl };
      }

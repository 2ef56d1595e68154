-- When a seal is refused, and when it isn't.
use Rattle.std.proofs.Common.{◌≡◌, ◌≢◌, ◌⊎◌, ℕ, ◌+◌, ◌-◌, ◌<◌, ◌≤◌, ◌^◌, List, ◌++◌, length, take, Option, Some, None, IfSome, Ok, Err, All, inl, inr, refl, sym, ap, subst, ◌∙◌, arith, append_assoc, length-append}
use Rattle.std.proofs.Math.Seq.{take-append_seam}
use Rattle.std.specs.Io.KnownBytes.{Consumes}
use Rattle.fv_outside.specs.Counting.{Tells}
use Rattle.record_hash.specs.Functions.{DigestFunctions}
use Rattle.record_text.proofs.FieldLaws.{Ok-is}
use Rattle.receipts.specs.Receipts.{tagged}
use Rattle.report_text.specs.declared.status.Status.{Status}
use Rattle.report_text.specs.declared.status.Status.TheVariants as statuses
use Rattle.seals.specs.declared.state.SealedState.{SealedState}
use Rattle.seals.specs.State.{Seal}
use Rattle.seals.specs.Kept.{seal_in}
use Rattle.seals.specs.Seal.{seal_at, seal_text, tag_bytes, IsGoodSeal}
use Rattle.seals.specs.Answer.{tagged_front, IsWhole, IsUntagged}
use Rattle.check_core.specs.Outcomes.{IsCheckStatus}
use Rattle.check_core.specs.Resuming.{IsRefusal, IsSealThen, HasNoSeal, HasSeal, HasAnySeal, HasCurrentSeal, RefusesAs, SpellsSeal, seal_bytes}

-- a status of a check is no refusal
pub no_refusal : (status : Status) → IsCheckStatus status → IsRefusal status → ⊥
no_refusal (statuses.Done epochs) check refused = refused
no_refusal statuses.Usage check refused = check
no_refusal statuses.Memory check refused = refused
no_refusal statuses.ReadFault check refused = refused
no_refusal statuses.WriteFault check refused = refused
no_refusal statuses.VaultFault check refused = check
no_refusal (statuses.BadScript line cause) check refused = check
no_refusal (statuses.BadBundle offset) check refused = refused
no_refusal (statuses.Refused verifier index refusal) check refused = refused
no_refusal (statuses.Unbalanced epoch added evicted) check refused = refused
no_refusal (statuses.ClockEnd worker at) check refused = check
no_refusal statuses.NotTagged check refused = check
no_refusal statuses.NotCertified check refused = check
no_refusal statuses.Exhibit check refused = check
no_refusal (statuses.InputLimit taken) check refused = refused
no_refusal statuses.BadSeal check refused = check
no_refusal (statuses.Stale sealed device) check refused = check
no_refusal statuses.CounterFault check refused = check

-- what holds of the bytes that were taken stays, whatever follows
pub whole_front : (functions : DigestFunctions) (state : SealedState) (count : ℕ) → ((bytes more : List ℕ) (state : SealedState) (count : ℕ) → IsWhole functions bytes state count → IsWhole functions (bytes ++ more) state count)
    → (x y : Option (List ℕ)) (front : List ℕ) → Consumes x y front → IsWhole functions front state count → IfSome x (λ bytes. IsWhole functions bytes state count)
whole_front functions state count keeps None y front took whole = tt
whole_front functions state count keeps (Some bytes) None front took whole = absurd took
whole_front functions state count keeps (Some bytes) (Some rest) front took whole = subst (λ (b : List ℕ). IsWhole functions b state count) (sym took) (keeps front rest state count whole)

-- ---- bytes that begin with the seal of a bundle

module _ (functions : DigestFunctions) (seal : Seal) (more bytes : List ℕ) (good : IsGoodSeal seal) (long : length (functions.tag (seal_text seal)) ≡ tag_bytes)
    (read : (seal : Seal) (tag rest : List ℕ) → IsGoodSeal seal → length tag ≡ tag_bytes → seal_at (seal_text seal ++ tag ++ rest) ≡ Ok ((seal, tag), rest))
    (is : bytes ≡ tagged functions (seal_text seal) ++ more) where
  pub reads-seal : seal_at bytes ≡ Ok ((seal, functions.tag (seal_text seal)), more)
  reads-seal = ap seal_at is ∙ read seal (functions.tag (seal_text seal)) more good long

  pub spells-seal : SpellsSeal (seal_bytes functions seal) bytes
  spells-seal = record {
    seal = seal;
    tag = functions.tag (seal_text seal);
    more = more;
    good = good;
    long = long;
    spelled = is;
    counted = omega (arith, length-append (seal_text seal) (functions.tag (seal_text seal)), long);
  }

  -- they are some seal
  pub some-seal : HasNoSeal bytes → ⊥
  some-seal none = let both = sym reads-seal ∙ none.1 in cc (both)

  -- just this
  pub same-seal : (state : SealedState) (count : ℕ) → IsWhole functions bytes state count → seal_in state ≡ seal
  same-seal state count whole =
      ap (λ (found : (Seal × List ℕ) × List ℕ). found.0.0) (Ok-is ((seal_in state, whole.tag), whole.rest) ((seal, functions.tag (seal_text seal)), more) (sym whole.read ∙ reads-seal))

  pub same-rest : (state : SealedState) (count : ℕ) → (whole : IsWhole functions bytes state count) → whole.rest ≡ more
  same-rest state count whole =
      ap (λ (found : (Seal × List ℕ) × List ℕ). found.1) (Ok-is ((seal_in state, whole.tag), whole.rest) ((seal, functions.tag (seal_text seal)), more) (sym whole.read ∙ reads-seal))

  pub same-count : (state : SealedState) (count : ℕ) → IsWhole functions bytes state count → count ≡ seal_bytes functions seal
  same-count state count whole =
      omega (arith, whole.counted, ap length (same-rest state count whole), ap length is, length-append (tagged functions (seal_text seal)) more)

  -- and its tag holds
  pub is-tagged : IsUntagged functions bytes → ⊥
  is-tagged other =
      let both = Ok-is ((other.seal, other.tag), other.rest) ((seal, functions.tag (seal_text seal)), more) (sym other.read ∙ reads-seal) in
      let rest : other.rest ≡ more = ap (λ (found : (Seal × List ℕ) × List ℕ). found.1) both in
      let tag : other.tag ≡ functions.tag (seal_text seal) = ap (λ (found : (Seal × List ℕ) × List ℕ). found.0.1) both in
      let behind : length (tagged functions (seal_text seal) ++ more) - (length more + tag_bytes) ≡ length (seal_text seal) =
      omega (arith, length-append (tagged functions (seal_text seal)) more, length-append (seal_text seal) (functions.tag (seal_text seal)), long) in
      let front : tagged_front bytes other.rest ≡ seal_text seal =
      ap (tagged_front bytes) rest
      ∙ ap (λ (b : List ℕ). take (length b - (length more + tag_bytes)) b) is
      ∙ ap (λ (k : ℕ). take k (tagged functions (seal_text seal) ++ more)) behind
      ∙ ap (take (length (seal_text seal))) (append_assoc (seal_text seal) (functions.tag (seal_text seal)) more)
      ∙ take-append_seam (seal_text seal) (functions.tag (seal_text seal) ++ more) in
      other.other (ap functions.tag front ∙ sym tag)

  -- so it isn't refused where the counter has its number
  pub not-refused : (device : Option ℕ) → device ≡ Some seal.counter → (status : Status) → RefusesAs functions device bytes status → ⊥
  not-refused device current (statuses.Done epochs) refused = refused
  not-refused device current statuses.Usage refused = refused
  not-refused device current statuses.Memory refused = refused
  not-refused device current statuses.ReadFault refused = refused
  not-refused device current statuses.WriteFault refused = refused
  not-refused device current statuses.VaultFault refused = refused
  not-refused device current (statuses.BadScript line cause) refused = refused
  not-refused device current (statuses.BadBundle offset) refused = refused
  not-refused device current (statuses.Refused verifier index refusal) refused = refused
  not-refused device current (statuses.Unbalanced epoch added evicted) refused = refused
  not-refused device current (statuses.ClockEnd worker at) refused = refused
  not-refused device current statuses.NotTagged refused = is-tagged refused
  not-refused device current statuses.NotCertified refused = refused
  not-refused device current statuses.Exhibit refused = refused
  not-refused device current (statuses.InputLimit taken) refused = refused
  not-refused device current statuses.BadSeal refused = some-seal refused
  not-refused device current (statuses.Stale sealed number) refused =
      let one = refused.0 in
      let same : one.state.counter ≡ seal.counter = ap (λ (s : Seal). s.counter) (same-seal one.state one.count one.whole) in
      let tells : number ≡ seal.counter = subst (λ (d : Option ℕ). Tells d number) current refused.1 in
      refused.2 (sym one.numbered ∙ same ∙ sym tells)
  not-refused device current statuses.CounterFault refused = refused

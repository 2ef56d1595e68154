-- How a check that seals ends, how one that goes on from a seal does, and what both tell together.
use Rattle.std.proofs.Common.{◌≡◌, ◌≢◌, ◌⊎◌, ℕ, ◌+◌, ◌<◌, ◌≤◌, ◌^◌, false, List, [], ◌++◌, length, drop, Option, Some, None, IfSome, Ok, Err, Result, inl, inr, refl, sym, ◌∙◌, ap, subst, arith}
use Rattle.std.proofs.lemmas.List.{append_cancel_left}
use Rattle.std.proofs.Math.Seq.{drop-append_seam}
use Rattle.fv_outside.specs.Consumed.{TookJust}
use Rattle.fv_outside.specs.Counting.{Raises, Tells}
use Rattle.fv_outside.specs.Written.{Grows}
use Rattle.record_hash.specs.Functions.{DigestFunctions}
use Rattle.record_hash.specs.ShaDigests.{sha_under}
use Rattle.record_text.specs.declared.reader.TextFault.{TextFault}
use Rattle.receipts.specs.Receipts.{tagged}
use Rattle.report_text.specs.declared.status.Status.{Status}
use Rattle.report_text.specs.declared.status.Status.TheVariants as statuses
use Rattle.report_text.specs.Status.{sealed_line}
use Rattle.report_text.specs.Answer.{IsEnd, Reading, Writing, AnswersNear}
use Rattle.seals.specs.declared.state.SealedState.{SealedState}
use Rattle.seals.specs.State.{Seal}
use Rattle.seals.specs.Kept.{seal_in}
use Rattle.seals.specs.Seal.{seal_at, seal_text}
use Rattle.seals.specs.Answer.{IsWhole, IsUntagged, tagged_front}
use Rattle.bundle_report.specs.Answer.{check_answer}
use Rattle.check_core.specs.Sealing.{Keeping, Counting, IsSealStatus, SealsTo, SealsInto, IsPlaced, seal_answer, sealing_line}
use Rattle.check_core.specs.Resuming.{IsResumeStatus, IsRefusal, HasNoSeal, HasSeal, HasAnySeal, HasCurrentSeal, RefusesAs, IsRefusedInPart, IsSealThen, GoesOn, ResumesTo, rest_answer, resumed_answer, resumed_end, seal_bytes}
use Rattle.program_words.specs.declared.words.Asked.TheVariants as asks
use Rattle.program_words.specs.declared.words.SealWords.{SealWords}
use Rattle.fastver_top.specs.Answers.{AnswersFor, IsLeftUndone}
use Rattle.fastver_top.specs.Rules.{IsStatusOf}
use Rattle.fastver_top.specs.Complete.{Had, IsOrWantsMemory, NoneFailed}
use Rattle.fastver_top.specs.Resuming.{HasPlaced, GoesOnFrom, TellTogether}
use Rattle.fastver_top.proofs.CompleteLemmas.{of_bytes, not_past}

-- ---- a check that seals

module _ (most : ℕ) (bytes : List ℕ) (reading : Reading) (writing : Writing) (keeping : Keeping) (counting : Counting)
    (fine : NoneFailed reading writing keeping counting) (had : Had most bytes reading) (functions : DigestFunctions) where
  module _ (path : List ℕ) where
    abbrev Seals : Status → Type 0
    Seals result = SealsTo functions path most result reading writing keeping counting ⊎ IsLeftUndone result reading writing keeping counting

    sealed-so : (result : Status) → SealsInto functions most result reading writing keeping counting → IsEnd result
        → IsOrWantsMemory result (check_answer false functions bytes).status
    sealed-so result seals end =
        inl (of_bytes (λ b. result ≡ (seal_answer functions b).status) reading.left bytes had.bytes_are (seals.answers.status end))

    by-seal : (result : Status) → IsSealStatus result → SealsInto functions most result reading writing keeping counting
        → IsOrWantsMemory result (check_answer false functions bytes).status
    by-seal (statuses.Done epochs) can seals = sealed-so (statuses.Done epochs) seals tt
    by-seal statuses.Usage can seals = absurd can
    by-seal statuses.Memory can seals = inr refl
    by-seal statuses.ReadFault can seals = absurd (fine.source (seals.answers.read_fault refl))
    by-seal statuses.WriteFault can seals = absurd (fine.sink (seals.answers.write_fault refl))
    by-seal statuses.VaultFault can seals = absurd (fine.vault (seals.vault_rose refl))
    by-seal (statuses.BadScript line cause) can seals = absurd can
    by-seal (statuses.BadBundle offset) can seals = sealed-so (statuses.BadBundle offset) seals tt
    by-seal (statuses.Refused verifier index refusal) can seals = sealed-so (statuses.Refused verifier index refusal) seals tt
    by-seal (statuses.Unbalanced epoch added evicted) can seals = sealed-so (statuses.Unbalanced epoch added evicted) seals tt
    by-seal (statuses.ClockEnd worker at) can seals = absurd can
    by-seal statuses.NotTagged can seals = absurd can
    by-seal statuses.NotCertified can seals = absurd can
    by-seal statuses.Exhibit can seals = absurd can
    by-seal (statuses.InputLimit taken) can seals =
        absurd (not_past most bytes reading.left reading.left_after had.bytes_are had.few (seals.answers.limit taken refl).1)
    by-seal statuses.BadSeal can seals = absurd can
    by-seal (statuses.Stale sealed device) can seals = absurd can
    by-seal statuses.CounterFault can seals = absurd (fine.counter (seals.counter_rose refl))

    pub seal-answered : (result : Status) → IsSealStatus result → Seals result → IsOrWantsMemory result (check_answer false functions bytes).status
    seal-answered result can (inl (inl seals)) = by-seal result can seals.1
    seal-answered result can (inl (inr unnamed)) = absurd (fine.vault unnamed.rose)
    seal-answered result can (inr undone) = inr undone.memory

-- ---- a check that goes on from a seal

-- where the counter has the seal's number, what is answered is the rest of the report
near : (functions : DigestFunctions) (sealed : List ℕ) (seal : Seal) (more : List ℕ) (most : ℕ) (result : Status) (reading : Reading) (writing : Writing)
    (counting : Counting) → counting.number ≡ Some seal.counter → GoesOn functions sealed seal more most result reading writing counting
    → AnswersNear (seal_bytes functions seal) (resumed_answer functions sealed (seal_bytes functions seal)) (resumed_end sealed (seal_bytes functions seal)) most
    result reading writing
near functions sealed seal more most result reading writing counting current goes = go goes.answers
  where
    go : AnswersNear (seal_bytes functions seal) (resumed_answer functions sealed (seal_bytes functions seal)) (resumed_end sealed (seal_bytes functions seal)) most
        result reading writing ⊎ IsRefusedInPart functions counting.number writing (tagged functions (seal_text seal) ++ more)
        → AnswersNear (seal_bytes functions seal) (resumed_answer functions sealed (seal_bytes functions seal)) (resumed_end sealed (seal_bytes functions seal)) most
        result reading writing
    go (inl answers) = answers
    go (inr part) = absurd (goes.unrefused_in_part current part)

module _ (most : ℕ) (bytes : List ℕ) (reading : Reading) (writing : Writing) (keeping : Keeping) (counting : Counting)
    (fine : NoneFailed reading writing keeping counting) (had : Had most bytes reading) (functions : DigestFunctions) where
  abbrev Resumes : Status → Type 0
  Resumes result = ResumesTo functions most result reading writing counting ⊎ IsLeftUndone result reading writing keeping counting

  module _ (sealed : List ℕ) (seal : Seal) (more : List ℕ) (begins : IsSealThen functions sealed seal more bytes)
      (current : counting.number ≡ Some seal.counter) where
    goes-on : (result : Status) → ResumesTo functions most result reading writing counting → GoesOn functions sealed seal more most result reading writing counting
    goes-on result resumes =
        of_bytes (λ b. IsSealThen functions sealed seal more b → GoesOn functions sealed seal more most result reading writing counting) reading.left bytes
        had.bytes_are (resumes.goes_on sealed seal more) begins

    -- what stands behind the seal
    behind : drop (seal_bytes functions seal) bytes ≡ more
    behind = ap (drop (seal_bytes functions seal)) begins.bytes_are ∙ drop-append_seam (tagged functions (seal_text seal)) more

    went-on : (result : Status) → ResumesTo functions most result reading writing counting → IsEnd result
        → IsOrWantsMemory result (check_answer false functions (sealed ++ more)).status
    went-on result resumes end =
        let answers = near functions sealed seal more most result reading writing counting current (goes-on result resumes) in
        let own = of_bytes (λ b. result ≡ (rest_answer functions sealed (drop (seal_bytes functions seal) b)).status) reading.left bytes had.bytes_are
        (answers.status end) in
        inl (own ∙ ap (λ (rest : List ℕ). (rest_answer functions sealed rest).status) behind)

    unrefused : (result : Status) → ResumesTo functions most result reading writing counting → IsRefusal result → ⊥
    unrefused result resumes refusal = (goes-on result resumes).unrefused current refusal

    by-resume : (result : Status) → IsResumeStatus result → ResumesTo functions most result reading writing counting
        → IsOrWantsMemory result (check_answer false functions (sealed ++ more)).status
    by-resume (statuses.Done epochs) can resumes = went-on (statuses.Done epochs) resumes tt
    by-resume statuses.Usage can resumes = absurd can
    by-resume statuses.Memory can resumes = inr refl
    by-resume statuses.ReadFault can resumes = absurd (fine.source (resumes.read_fault refl))
    by-resume statuses.WriteFault can resumes = absurd (fine.sink (resumes.write_rose refl))
    by-resume statuses.VaultFault can resumes = absurd can
    by-resume (statuses.BadScript line cause) can resumes = absurd can
    by-resume (statuses.BadBundle offset) can resumes = went-on (statuses.BadBundle offset) resumes tt
    by-resume (statuses.Refused verifier index refusal) can resumes = went-on (statuses.Refused verifier index refusal) resumes tt
    by-resume (statuses.Unbalanced epoch added evicted) can resumes = went-on (statuses.Unbalanced epoch added evicted) resumes tt
    by-resume (statuses.ClockEnd worker at) can resumes = absurd can
    by-resume statuses.NotTagged can resumes = absurd (unrefused statuses.NotTagged resumes tt)
    by-resume statuses.NotCertified can resumes = absurd can
    by-resume statuses.Exhibit can resumes = absurd can
    by-resume (statuses.InputLimit taken) can resumes =
        absurd (not_past most bytes reading.left reading.left_after had.bytes_are had.few (resumes.limit taken refl).1)
    by-resume statuses.BadSeal can resumes = absurd (unrefused statuses.BadSeal resumes tt)
    by-resume (statuses.Stale own device) can resumes = absurd (unrefused (statuses.Stale own device) resumes tt)
    by-resume statuses.CounterFault can resumes = absurd (fine.counter (resumes.counter_rose refl))

    pub resume-answered : (result : Status) → IsResumeStatus result → Resumes result → IsOrWantsMemory result (check_answer false functions (sealed ++ more)).status
    resume-answered result can (inl resumes) = by-resume result can resumes
    resume-answered result can (inr undone) = inr undone.memory

-- ---- a seal that is refused

-- bytes that begin with no seal begin with none
abbrev Parse : Type 0
Parse = Result ((Seal × List ℕ) × List ℕ) TextFault

error-or-ok : (parsed : Parse) (fault : TextFault) (seal : Seal) (tag rest : List ℕ) → parsed ≡ Err fault → parsed ≡ Ok ((seal, tag), rest) → ⊥
error-or-ok parsed fault seal tag rest bad good = cc

no-seal : (functions : DigestFunctions) (bytes : List ℕ) → HasNoSeal bytes → HasAnySeal functions bytes → ⊥
no-seal functions bytes none any =
    let whole = any.1.whole in
    error-or-ok (seal_at bytes) none.0 (seal_in any.1.state) whole.tag whole.rest none.1 whole.read

abbrev tag_in : Parse → List ℕ
tag_in (Ok read) = read.0.1
tag_in (Err fault) = []

abbrev rest_in : Parse → List ℕ
rest_in (Ok read) = read.1
rest_in (Err fault) = []

abbrev number_in : Parse → ℕ
number_in (Ok read) = read.0.0.counter
number_in (Err fault) = 0

untagged-read : (functions : DigestFunctions) (bytes : List ℕ) → HasNoSeal bytes → IsUntagged functions bytes → ⊥
untagged-read functions bytes none other = error-or-ok (seal_at bytes) none.0 other.seal other.tag other.rest none.1 other.read

-- its tag holds, or it doesn't
one-tag : (functions : DigestFunctions) (bytes : List ℕ) → IsUntagged functions bytes → HasAnySeal functions bytes → ⊥
one-tag functions bytes other any =
    let whole = any.1.whole in
    let tag : whole.tag ≡ other.tag = ap tag_in (sym whole.read ∙ other.read) in
    let rest : whole.rest ≡ other.rest = ap rest_in (sym whole.read ∙ other.read) in
    other.other (ap (λ (r : List ℕ). functions.tag (tagged_front bytes r)) (sym rest) ∙ (whole.tagged ∙ tag))

-- it has one number
one-number : (functions : DigestFunctions) (bytes : List ℕ) (one other : ℕ) → HasSeal functions one bytes → HasSeal functions other bytes → one ≡ other
one-number functions bytes one other first second =
    sym first.numbered ∙ (ap number_in (sym first.whole.read ∙ second.whole.read) ∙ second.numbered)

-- the counter tells one number
one-told : (device : Option ℕ) (number told : ℕ) → device ≡ Some number → Tells device told → told ≡ number
one-told device number told is tells = subst (λ (d : Option ℕ). Tells d told) is tells

-- why a seal is refused, one by one
record IsStale (functions : DigestFunctions) (device : Option ℕ) (bytes : List ℕ) (due : Status) : Type 0 where
  own : ℕ
  told : ℕ
  is : due ≡ statuses.Stale own told
  seal : HasSeal functions own bytes
  tells : Tells device told
  other : own ≢ told

abbrev Causes : DigestFunctions → Option ℕ → List ℕ → Status → Type 0
Causes functions device bytes due =
    ((due ≡ statuses.BadSeal) × HasNoSeal bytes) ⊎ (((due ≡ statuses.NotTagged) × IsUntagged functions bytes) ⊎ IsStale functions device bytes due)

causes : (functions : DigestFunctions) (device : Option ℕ) (bytes : List ℕ) (due : Status) → RefusesAs functions device bytes due → Causes functions device bytes due
causes functions device bytes (statuses.Done epochs) refuses = absurd refuses
causes functions device bytes statuses.Usage refuses = absurd refuses
causes functions device bytes statuses.Memory refuses = absurd refuses
causes functions device bytes statuses.ReadFault refuses = absurd refuses
causes functions device bytes statuses.WriteFault refuses = absurd refuses
causes functions device bytes statuses.VaultFault refuses = absurd refuses
causes functions device bytes (statuses.BadScript line cause) refuses = absurd refuses
causes functions device bytes (statuses.BadBundle offset) refuses = absurd refuses
causes functions device bytes (statuses.Refused verifier index refusal) refuses = absurd refuses
causes functions device bytes (statuses.Unbalanced epoch added evicted) refuses = absurd refuses
causes functions device bytes (statuses.ClockEnd worker at) refuses = absurd refuses
causes functions device bytes statuses.NotTagged refuses = inr (inl (refl, refuses))
causes functions device bytes statuses.NotCertified refuses = absurd refuses
causes functions device bytes statuses.Exhibit refuses = absurd refuses
causes functions device bytes (statuses.InputLimit taken) refuses = absurd refuses
causes functions device bytes statuses.BadSeal refuses = inl (refl, refuses)
causes functions device bytes (statuses.Stale own told) refuses =
    inr (inr (record { own = own; told = told; is = refl; seal = refuses.0; tells = refuses.1; other = refuses.2 }))
causes functions device bytes statuses.CounterFault refuses = absurd refuses

module _ (functions : DigestFunctions) (device : Option ℕ) (bytes : List ℕ) (number : ℕ) (told : device ≡ Some number) where
  -- what is refused is not gone on from
  refused-or-current : (due : Status) → Causes functions device bytes due → HasCurrentSeal functions device bytes → ⊥
  refused-or-current due (inl none) current = no-seal functions bytes none.1 (current.0, current.1)
  refused-or-current due (inr (inl other)) current = one-tag functions bytes other.1 (current.0, current.1)
  refused-or-current due (inr (inr stale)) current =
      stale.other (one-number functions bytes stale.own current.0 stale.seal current.1
      ∙ (one-told device number current.0 told current.2 ∙ sym (one-told device number stale.told told stale.tells)))

  -- and it is refused for one cause
  one-cause : (result due : Status) → Causes functions device bytes result → Causes functions device bytes due → result ≡ due
  one-cause result due (inl none) (inl also) = none.0 ∙ sym also.0
  one-cause result due (inl none) (inr (inl other)) = absurd (untagged-read functions bytes none.1 other.1)
  one-cause result due (inl none) (inr (inr stale)) = absurd (no-seal functions bytes none.1 (stale.own, stale.seal))
  one-cause result due (inr (inl other)) (inl none) = absurd (untagged-read functions bytes none.1 other.1)
  one-cause result due (inr (inl other)) (inr (inl also)) = other.0 ∙ sym also.0
  one-cause result due (inr (inl other)) (inr (inr stale)) = absurd (one-tag functions bytes other.1 (stale.own, stale.seal))
  one-cause result due (inr (inr stale)) (inl none) = absurd (no-seal functions bytes none.1 (stale.own, stale.seal))
  one-cause result due (inr (inr stale)) (inr (inl other)) = absurd (one-tag functions bytes other.1 (stale.own, stale.seal))
  one-cause result due (inr (inr stale)) (inr (inr also)) =
      let own : stale.own ≡ also.own = one-number functions bytes stale.own also.own stale.seal also.seal in
      let told' : stale.told ≡ also.told = one-told device number stale.told told stale.tells ∙ sym (one-told device number also.told told also.tells) in
      stale.is ∙ (ap (λ (n : ℕ). statuses.Stale n stale.told) own ∙ (ap (statuses.Stale also.own) told' ∙ sym also.is))

module _ (most : ℕ) (bytes : List ℕ) (reading : Reading) (writing : Writing) (keeping : Keeping) (counting : Counting)
    (fine : NoneFailed reading writing keeping counting) (had : Had most bytes reading) (functions : DigestFunctions) (number : ℕ)
    (told : counting.number ≡ Some number) where
  module _ (due : Status) (cause : Causes functions counting.number bytes due) where
    not-gone-on : (result : Status) → ResumesTo functions most result reading writing counting → IsEnd result → IsOrWantsMemory result due
    not-gone-on result resumes end =
        absurd (refused-or-current functions counting.number bytes number told due cause
        (of_bytes (HasCurrentSeal functions counting.number) reading.left bytes had.bytes_are (resumes.current end)))

    refused-so : (result : Status) → ResumesTo functions most result reading writing counting → IsRefusal result → IsOrWantsMemory result due
    refused-so result resumes refusal =
        let own = of_bytes (λ b. RefusesAs functions counting.number b result) reading.left bytes had.bytes_are (resumes.refused refusal) in
        inl (one-cause functions counting.number bytes number told result due (causes functions counting.number bytes result own) cause)

    by-refusal : (result : Status) → IsResumeStatus result → ResumesTo functions most result reading writing counting → IsOrWantsMemory result due
    by-refusal (statuses.Done epochs) can resumes = not-gone-on (statuses.Done epochs) resumes tt
    by-refusal statuses.Usage can resumes = absurd can
    by-refusal statuses.Memory can resumes = inr refl
    by-refusal statuses.ReadFault can resumes = absurd (fine.source (resumes.read_fault refl))
    by-refusal statuses.WriteFault can resumes = absurd (fine.sink (resumes.write_rose refl))
    by-refusal statuses.VaultFault can resumes = absurd can
    by-refusal (statuses.BadScript line cause) can resumes = absurd can
    by-refusal (statuses.BadBundle offset) can resumes = not-gone-on (statuses.BadBundle offset) resumes tt
    by-refusal (statuses.Refused verifier index refusal) can resumes = not-gone-on (statuses.Refused verifier index refusal) resumes tt
    by-refusal (statuses.Unbalanced epoch added evicted) can resumes = not-gone-on (statuses.Unbalanced epoch added evicted) resumes tt
    by-refusal (statuses.ClockEnd worker at) can resumes = absurd can
    by-refusal statuses.NotTagged can resumes = refused-so statuses.NotTagged resumes tt
    by-refusal statuses.NotCertified can resumes = absurd can
    by-refusal statuses.Exhibit can resumes = absurd can
    by-refusal (statuses.InputLimit taken) can resumes =
        absurd (not_past most bytes reading.left reading.left_after had.bytes_are had.few (resumes.limit taken refl).1)
    by-refusal statuses.BadSeal can resumes = refused-so statuses.BadSeal resumes tt
    by-refusal (statuses.Stale own device) can resumes = refused-so (statuses.Stale own device) resumes tt
    by-refusal statuses.CounterFault can resumes = absurd (fine.counter (resumes.counter_rose refl))

  pub refusal-answered : (result due : Status) → IsResumeStatus result
      → ResumesTo functions most result reading writing counting ⊎ IsLeftUndone result reading writing keeping counting
      → RefusesAs functions counting.number bytes due → IsOrWantsMemory result due
  refusal-answered result due can (inl resumes) refuses = by-refusal due (causes functions counting.number bytes due refuses) result can resumes
  refusal-answered result due can (inr undone) refuses = inr undone.memory

-- ---- both together

not-memory : (epochs : ℕ) → statuses.Done epochs ≡ statuses.Memory → ⊥
not-memory epochs is = absurd (cc)

not-vault-fault : (epochs : ℕ) → statuses.Done epochs ≡ statuses.VaultFault → ⊥
not-vault-fault epochs is = absurd (cc)

-- a check that sealed was begun
pub begun : {S : Type 0} (epochs : ℕ) (reading : Reading) (writing : Writing) (keeping : Keeping) (counting : Counting)
    → S ⊎ IsLeftUndone (statuses.Done epochs) reading writing keeping counting → S
begun epochs reading writing keeping counting (inl seals) = seals
begun epochs reading writing keeping counting (inr undone) = absurd (not-memory epochs undone.memory)

-- and its vault was named
named : (functions : DigestFunctions) (path : List ℕ) (most epochs : ℕ) (reading : Reading) (writing : Writing) (keeping : Keeping) (counting : Counting)
    → SealsTo functions path most (statuses.Done epochs) reading writing keeping counting → SealsInto functions most (statuses.Done epochs) reading writing keeping counting
named functions path most epochs reading writing keeping counting (inl seals) = seals.1
named functions path most epochs reading writing keeping counting (inr unnamed) = absurd (not-vault-fault epochs unnamed.status)

-- so was one that ended
pub ended-begun : {S : Type 0} (result : Status) (reading : Reading) (writing : Writing) (keeping : Keeping) (counting : Counting) → IsEnd result
    → S ⊎ IsLeftUndone result reading writing keeping counting → S
ended-begun result reading writing keeping counting end (inl resumes) = resumes
ended-begun result reading writing keeping counting end (inr undone) = absurd (subst IsEnd undone.memory end)

grown-by : (held held_after : Option (List ℕ)) (before text kept : List ℕ) → held ≡ Some before → held_after ≡ Some (before ++ text) → Grows held held_after kept → text ≡ kept
grown-by held held_after before text kept was is grows =
    append_cancel_left before text kept (subst (λ (new : Option (List ℕ)). Grows (Some before) new kept) is (subst (λ (old : Option (List ℕ)). Grows old held_after kept) was grows))

raised-to : (old new : Option ℕ) (was number answer : ℕ) → old ≡ Some was → new ≡ Some number → Raises old new answer → number ≡ answer
raised-to old new was number answer is to raises =
    sym ((subst (λ (n : Option ℕ). Raises (Some was) n answer) to (subst (λ (o : Option ℕ). Raises o new answer) is raises)).1)

module _ (functions : DigestFunctions) (path sealed text more : List ℕ) (number epochs most : ℕ)
    (reading : Reading) (writing : Writing) (keeping : Keeping) (counting : Counting)
    (sealed-to : SealsTo functions path most (statuses.Done epochs) reading writing keeping counting)
    (placed : HasPlaced sealed text number reading keeping counting) where
  seals : SealsInto functions most (statuses.Done epochs) reading writing keeping counting
  seals = named functions path most epochs reading writing keeping counting sealed-to

  pub is-placed : IsPlaced functions keeping counting sealed
  is-placed = of_bytes (IsPlaced functions keeping counting) reading.left sealed placed.read (seals.sealed epochs refl)

  text-is : text ≡ tagged functions (seal_text is-placed.seal)
  text-is = grown-by keeping.held keeping.held_after placed.before text (tagged functions (seal_text is-placed.seal)) placed.held placed.took is-placed.written

  -- the seal's number is the counter's
  pub numbered : number ≡ is-placed.seal.counter
  numbered = raised-to counting.number counting.number_after placed.number_before number is-placed.seal.counter placed.told placed.raised is-placed.raised.raised

  -- the bytes that are gone on from are the seal of those that were read, and more
  pub begins : IsSealThen functions sealed is-placed.seal more (text ++ more)
  begins = record {
    of = is-placed.raised.of;
    are_bytes = placed.are_bytes;
    fits = is-placed.fits;
    few = is-placed.raised.few;
    bytes_are = ap (λ (t : List ℕ). t ++ more) text-is;
  }

  done-is : (check_answer false functions sealed).status ≡ statuses.Done epochs
  done-is = sym (of_bytes (λ b. statuses.Done epochs ≡ (seal_answer functions b).status) reading.left sealed placed.read (seals.answers.status tt))

  wrote-lines : Grows writing.held writing.held_after ((check_answer false functions sealed).due ++ sealed_line epochs)
  wrote-lines =
      subst (λ (status : Status). Grows writing.held writing.held_after ((check_answer false functions sealed).due ++ sealing_line status)) done-is
      (of_bytes (λ b. Grows writing.held writing.held_after (seal_answer functions b).text) reading.left sealed placed.read (seals.answers.report tt))

  module _ (next_most : ℕ) (result : Status) (next_reading : Reading) (next_writing : Writing) (next_counting : Counting)
      (resumes : ResumesTo functions next_most result next_reading next_writing next_counting)
      (follows : GoesOnFrom text more number next_reading next_counting) where
    next-goes : GoesOn functions sealed is-placed.seal more next_most result next_reading next_writing next_counting
    next-goes =
        of_bytes (λ b. IsSealThen functions sealed is-placed.seal more b → GoesOn functions sealed is-placed.seal more next_most result next_reading next_writing next_counting)
        next_reading.left (text ++ more) follows.read (resumes.goes_on sealed is-placed.seal more) begins

    next-near : AnswersNear (seal_bytes functions is-placed.seal) (resumed_answer functions sealed (seal_bytes functions is-placed.seal))
        (resumed_end sealed (seal_bytes functions is-placed.seal)) next_most result next_reading next_writing
    next-near = near functions sealed is-placed.seal more next_most result next_reading next_writing next_counting (follows.number_is ∙ ap Some numbered) next-goes

    next-behind : drop (seal_bytes functions is-placed.seal) (text ++ more) ≡ more
    next-behind = ap (λ (t : List ℕ). drop (seal_bytes functions is-placed.seal) (t ++ more)) text-is
        ∙ drop-append_seam (tagged functions (seal_text is-placed.seal)) more

    pub told-together : IsEnd result → TellTogether (check_answer false functions (sealed ++ more)) epochs result writing next_writing
    told-together end = record {
      lines = (check_answer false functions sealed).due;
      rest = (rest_answer functions sealed more).text;
      wrote = wrote-lines;
      went_on = subst (λ (b : List ℕ). Grows next_writing.held next_writing.held_after (rest_answer functions sealed b).text) next-behind
          (of_bytes (λ b. Grows next_writing.held next_writing.held_after (rest_answer functions sealed (drop (seal_bytes functions is-placed.seal) b)).text)
          next_reading.left (text ++ more) follows.read (next-near.report end));
      whole = next-goes.joined;
      status = of_bytes (λ b. result ≡ (rest_answer functions sealed (drop (seal_bytes functions is-placed.seal) b)).status) next_reading.left (text ++ more)
          follows.read (next-near.status end)
          ∙ ap (λ (b : List ℕ). (rest_answer functions sealed b).status) next-behind;
    }

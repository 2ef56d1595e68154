-- What a call comes to that reads a seal and doesn't go on from it.
use Rattle.std.proofs.Common.{◌≡◌, ◌≢◌, ◌⊎◌, ℕ, ◌+◌, ◌-◌, ◌<◌, ◌≤◌, min, true, false, List, [], ◌∷◌, ◌++◌, length, take, drop, Option, Some, None, IfSome, inl, inr, refl, sym, ap, subst, ◌∙◌, arith, append-nil}
use Rattle.std.proofs.lemmas.List.{length-take-le}
use Rattle.std.proofs.Math.Seq.{drop-length}
use Rattle.std.proofs.Math.ListN.{drop_of_length-le}
use Rattle.fv_outside.specs.Consumed.{TookAtMost, TookJust, most_behind}
use Rattle.fv_outside.specs.Counting.{Tells}
use Rattle.fv_outside.specs.Faults.{Rose}
use Rattle.fv_outside.specs.declared.failure.Failure.{Failure}
use Rattle.fv_outside.specs.declared.failure.Failure.TheVariants as failures
use Rattle.fv_outside.specs.Written.{Grows, GrowsByFront}
use Rattle.fv_outside.proofs.WrittenLaws.{Grows-same, GrowsByFront-none}
use Rattle.record_hash.specs.Functions.{DigestFunctions}
use Rattle.receipts.specs.Receipts.{tagged}
use Rattle.report_text.specs.declared.status.Status.{Status}
use Rattle.report_text.specs.declared.status.Status.TheVariants as statuses
use Rattle.report_text.specs.Kinds.{IsOneOf}
use Rattle.report_text.specs.Kinds as kinds
use Rattle.report_text.specs.Status.{last_line}
use Rattle.report_text.specs.Answer.{Answer, Reading, Writing, IsEnd, OfTaken, StopsNear, AnswersNear}
use Rattle.report_text.proofs.AnsweringLaws.{took_more, near-read_fault, near-limit, near-memory}
use Rattle.seals.specs.declared.state.SealedState.{SealedState}
use Rattle.seals.specs.Answer.{IsWhole, IsUntagged}
use Rattle.seals.specs.State.{Seal}
use Rattle.seals.specs.Seal.{seal_text, IsGoodSeal}
use Rattle.bundle_frames.specs.Extent.{reading_end}
use Rattle.bundle_report.specs.Answer.{check_answer}
use Rattle.check_core.specs.declared.unresumed.Unresumed.{Unresumed}
use Rattle.check_core.specs.declared.unresumed.Unresumed.TheVariants.{BadSeal, NotTagged, Stale, CounterFault, Failed}
use Rattle.check_core.specs.Sealing.{Counting}
use Rattle.check_core.specs.Unresumed.{is_refusal, unresumed_status, IsStaleOr, IsTold, IsUnread}
use Rattle.check_core.specs.Resuming.{IsRefusal, IsRefusedInPart, IsSealThen, HasNoSeal, HasSeal, HasAnySeal, HasCurrentSeal, RefusesAs, GoesOn, ResumesTo, SpellsSeal, resumed_answer, resumed_end, seal_bytes}
use Rattle.check_core.proofs.SealReadingLemmas.{took_past, took_within}
use Rattle.check_core.proofs.RefusingLemmas.{spells-seal, not-refused}
use Rattle.check_core.proofs.ResumingLemmas.{AreSound, sealed-joins}

-- ---- a status that says why, and is no answer

-- the kinds with which the seal is refused, or the counter failed
abbrev IsNoAnswer : Status → Type 0
IsNoAnswer = IsOneOf (kinds.bad_seal ∷ kinds.not_tagged ∷ kinds.stale ∷ kinds.counter_fault ∷ [])

no_end : (status : Status) → IsNoAnswer status → IsEnd status → ⊥
no_end (statuses.Done epochs) none end = none
no_end statuses.Usage none end = none
no_end statuses.Memory none end = none
no_end statuses.ReadFault none end = none
no_end statuses.WriteFault none end = none
no_end statuses.VaultFault none end = none
no_end (statuses.BadScript line cause) none end = none
no_end (statuses.BadBundle offset) none end = none
no_end (statuses.Refused verifier index refusal) none end = none
no_end (statuses.Unbalanced epoch added evicted) none end = none
no_end (statuses.ClockEnd worker at) none end = none
no_end statuses.NotTagged none end = end
no_end statuses.NotCertified none end = none
no_end statuses.Exhibit none end = none
no_end (statuses.InputLimit taken) none end = none
no_end statuses.BadSeal none end = end
no_end (statuses.Stale sealed device) none end = end
no_end statuses.CounterFault none end = end

-- such a status comes with none of the answer
near-none : (more : ℕ) (answer : List ℕ → Answer) (reading_end : List ℕ → ℕ) (most : ℕ) (reading : Reading) (writing : Writing) (status : Status) → IsNoAnswer status
    → TookAtMost most reading.left reading.left_after → StopsNear more reading_end reading.left reading.left_after
    → AnswersNear more answer reading_end most status reading writing
near-none more answer reading_end most reading writing status none within stops = record {
  status = λ end. absurd (no_end status none end);
  report = λ end. absurd (no_end status none end);
  front = λ is. absurd (subst IsNoAnswer is none);
  due = λ is. absurd (other is);
  due_front = λ is. absurd (subst IsNoAnswer is none);
  limit = λ taken is. absurd (subst IsNoAnswer is none);
  within = λ _ _ _. within;
  past = took_more most reading.left reading.left_after within;
  reached = λ end. absurd (no_end status none end);
  stops = stops;
  beyond = λ taken is. absurd (subst IsNoAnswer is none);
  read_fault = λ is. absurd (subst IsNoAnswer is none);
  write_fault = λ is. absurd (subst IsNoAnswer is none);
}
  where
    other : (status ≡ statuses.ReadFault) ⊎ (status ≡ statuses.InputLimit most) → ⊥
    other (inl is) = subst IsNoAnswer is none
    other (inr is) = subst IsNoAnswer is none

-- ---- within a seal

-- no more is read than may be behind it
stops_by : (count behind : ℕ) (x z : Option (List ℕ)) → TookAtMost (count + (count + most_behind)) x z → TookAtMost ((count + behind) + (count + most_behind)) x z
stops_by count behind x z took = took_within (count + (count + most_behind)) ((count + behind) + (count + most_behind)) x z (omega arith) took

-- nothing is due of what was taken
nothing_due : (functions : DigestFunctions) (sealed : List ℕ) (count : ℕ) (taken : List ℕ) → length taken ≤ count → (resumed_answer functions sealed count taken).due ≡ []
nothing_due functions sealed count taken short =
    let lines = (check_answer false functions sealed).due in
    ap (λ (more : List ℕ). drop (length lines) (check_answer false functions (sealed ++ more)).due) (drop_of_length-le taken short)
    ∙ ap (λ (all : List ℕ). drop (length lines) (check_answer false functions all).due) (append-nil sealed)
    ∙ drop-length lines

due_none : (functions : DigestFunctions) (sealed : List ℕ) (count most : ℕ) (bytes : List ℕ) (z : Option (List ℕ)) (writing : Writing) → writing.held_after ≡ writing.held
    → TookAtMost count (Some bytes) z
    → OfTaken most (λ taken. Grows writing.held writing.held_after (resumed_answer functions sealed count taken).due) (Some bytes) z
due_none functions sealed count most bytes None writing same took = tt
due_none functions sealed count most bytes (Some left) writing same took =
    let few = min most (length bytes - length left) in
    let size : length (take few bytes) ≡ few = length-take-le few bytes (omega arith) in
    subst (λ (due : List ℕ). Grows writing.held writing.held_after due) (sym (nothing_due functions sealed count (take few bytes) (omega (arith, size, took))))
    (Grows-same writing.held writing.held_after same)

-- nor is any front of it wanting
due_front_none : (due : List ℕ → List ℕ) (most : ℕ) (x z : Option (List ℕ)) (writing : Writing) → writing.held_after ≡ writing.held
    → OfTaken most (λ taken. GrowsByFront writing.held writing.held_after (due taken)) x z
due_front_none due most None z writing same = tt
due_front_none due most (Some bytes) None writing same = tt
due_front_none due most (Some bytes) (Some left) writing same =
    subst (λ (held : Option (List ℕ)). GrowsByFront writing.held held (due (take (min most (length bytes - length left)) bytes))) (sym same) (GrowsByFront-none writing.held _)

-- ---- the call

module _ (functions : DigestFunctions) (sound : AreSound functions) (most : ℕ) (z : Option (List ℕ)) (faults faults_after : ℕ) (writing : Writing) (counting : Counting)
    (kept : counting.number_after ≡ counting.number) where
  abbrev read_of : Option (List ℕ) → Reading
  read_of x = record { left = x; left_after = z; faults = faults; faults_after = faults_after }

  -- behind a seal no more was read than the rest of one read, and as many bytes as it has
  abbrev IsNear : Option (List ℕ) → Type 0
  IsNear x = IfSome x (λ bytes. (count : ℕ) → SpellsSeal count bytes → TookAtMost (count + (count + most_behind)) x z)

  -- no more was read than it has
  abbrev IsShort : Option (List ℕ) → Type 0
  IsShort x = IfSome x (λ bytes. (count : ℕ) → SpellsSeal count bytes → TookAtMost count x z)

  -- it has more than may be read
  abbrev IsBeyond : Option (List ℕ) → Type 0
  IsBeyond x = IfSome x (λ bytes. (count : ℕ) → SpellsSeal count bytes → most < count)

  -- what is answered where the source begins with the seal of a bundle
  abbrev Answers : Status → Option (List ℕ) → Type 0
  Answers result x = (sealed : List ℕ) (seal : Seal) (more : List ℕ) → IfSome x (λ bytes. IsSealThen functions sealed seal more bytes
      → AnswersNear (seal_bytes functions seal) (resumed_answer functions sealed (seal_bytes functions seal)) (resumed_end sealed (seal_bytes functions seal)) most result (read_of x) writing
      ⊎ IsRefusedInPart functions counting.number writing (tagged functions (seal_text seal) ++ more))

  module _ (bytes sealed : List ℕ) (seal : Seal) (more : List ℕ) (then : IsSealThen functions sealed seal more bytes) where
    good : IsGoodSeal seal
    good = sound.good sealed seal then.are_bytes then.few then.of then.fits

    spells : SpellsSeal (seal_bytes functions seal) bytes
    spells = spells-seal functions seal more bytes good (sound.long (seal_text seal)) sound.read then.bytes_are

    unrefused : counting.number ≡ Some seal.counter → (status : Status) → RefusesAs functions counting.number bytes status → ⊥
    unrefused = not-refused functions seal more bytes good (sound.long (seal_text seal)) sound.read then.bytes_are counting.number

    stops : IsNear (Some bytes) → StopsNear (seal_bytes functions seal) (resumed_end sealed (seal_bytes functions seal)) (Some bytes) z
    stops near =
        let count = seal_bytes functions seal in
        stops_by count (reading_end (sealed ++ drop count bytes) - length sealed) (Some bytes) z (near count spells)

  goes_by : (result : Status) (x : Option (List ℕ)) → Answers result x → (IsRefusal result → IfSome x (λ bytes. RefusesAs functions counting.number bytes result))
      → (sealed : List ℕ) (seal : Seal) (more : List ℕ) → IfSome x (λ bytes. IsSealThen functions sealed seal more bytes
      → GoesOn functions sealed seal more most result (read_of x) writing counting)
  goes_by result None answers refuses sealed seal more = tt
  goes_by result (Some bytes) answers refuses sealed seal more = λ then. record {
    answers = answers sealed seal more then;
    joined = sealed-joins functions sound sealed seal more then.of;
    unrefused = λ current refused. unrefused bytes sealed seal more then current result (refuses refused);
    unrefused_in_part = λ current part. unrefused bytes sealed seal more then current part.status
        (subst (λ (b : List ℕ). RefusesAs functions counting.number b part.status) (sym then.bytes_are) part.refused);
  }

  none-answers : (status : Status) → IsNoAnswer status → (x : Option (List ℕ)) → IsNear x → TookAtMost most x z → Answers status x
  none-answers status none None near within sealed seal more = tt
  none-answers status none (Some bytes) near within sealed seal more = λ then.
      inl (near-none _ _ _ most _ writing status none within (stops bytes sealed seal more then near))

  fault-answers : (x : Option (List ℕ)) → writing.held_after ≡ writing.held → IsNear x → IsShort x → TookAtMost most x z → Rose faults faults_after → Answers statuses.ReadFault x
  fault-answers None same near short within rose sealed seal more = tt
  fault-answers (Some bytes) same near short within rose sealed seal more = λ then.
      let count = seal_bytes functions seal in
      inl (near-read_fault _ _ _ most _ writing (due_none functions sealed count most bytes z writing same (short count (spells bytes sealed seal more then))) within
      (stops bytes sealed seal more then near) rose)

  limit-answers : (x : Option (List ℕ)) → writing.held_after ≡ writing.held → IsNear x → IsShort x → IsBeyond x → TookJust (most + 1) x z → Answers (statuses.InputLimit most) x
  limit-answers None same near short beyond just sealed seal more = tt
  limit-answers (Some bytes) same near short beyond just sealed seal more = λ then.
      let count = seal_bytes functions seal in
      let past : most < count = beyond count (spells bytes sealed seal more then) in
      let behind = reading_end (sealed ++ drop count bytes) - length sealed in
      let later : most < count + behind = omega (arith, past) in
      inl (near-limit _ _ _ most _ writing (due_none functions sealed count most bytes z writing same (short count (spells bytes sealed seal more then))) just
      (stops bytes sealed seal more then near) later)

  memory-answers : (x : Option (List ℕ)) → writing.held_after ≡ writing.held → IsNear x → TookAtMost (most + 1) x z → Answers statuses.Memory x
  memory-answers None same near past sealed seal more = tt
  memory-answers (Some bytes) same near past sealed seal more = λ then.
      inl (near-memory _ _ _ most _ writing (due_front_none (λ taken. (resumed_answer functions sealed (seal_bytes functions seal) taken).due) most (Some bytes) z writing same) past
      (stops bytes sealed seal more then near))

  part-answers : (x : Option (List ℕ)) → IfSome x (λ bytes. IsRefusedInPart functions counting.number writing bytes) → Answers statuses.WriteFault x
  part-answers None part sealed seal more = tt
  part-answers (Some bytes) part sealed seal more = λ then. inr (subst (IsRefusedInPart functions counting.number writing) then.bytes_are part)

  -- ---- the seal is refused

  -- and a line says so
  refused_whole : (status : Status) → IsRefusal status → IsNoAnswer status → (x : Option (List ℕ)) → IfSome x (λ bytes. RefusesAs functions counting.number bytes status)
      → Grows writing.held writing.held_after (last_line status) → IsNear x → TookAtMost most x z → ResumesTo functions most status (read_of x) writing counting
  refused_whole status refusal none x said grows near within = record {
    refused = λ _. said;
    line = λ _. grows;
    current = λ end. absurd (no_end status none end);
    counter_fault = λ is. absurd (subst IsRefusal is refusal);
    unwritten = λ is. absurd (subst IsRefusal is refusal);
    write_fault = λ is. absurd (subst IsRefusal is refusal);
    goes_on = goes_by status x (none-answers status none x near within) (λ _. said);
    number = kept;
    limit = λ taken is. absurd (subst IsRefusal is refusal);
    within = λ _ _ _. within;
    past = took_more most x z within;
    read_fault = λ is. absurd (subst IsRefusal is refusal);
    write_rose = λ is. absurd (subst IsRefusal is refusal);
    counter_rose = λ is. absurd (subst IsRefusal is refusal);
  }

  part_of : (status : Status) (x : Option (List ℕ)) → IfSome x (λ bytes. RefusesAs functions counting.number bytes status)
      → GrowsByFront writing.held writing.held_after (last_line status) → IfSome x (λ bytes. IsRefusedInPart functions counting.number writing bytes)
  part_of status None said front = tt
  part_of status (Some bytes) said front = record { status = status; refused = said; front = front }

  part_or : (x : Option (List ℕ)) → IfSome x (λ bytes. IsRefusedInPart functions counting.number writing bytes)
      → IfSome x (λ bytes. IsRefusedInPart functions counting.number writing bytes ⊎ HasCurrentSeal functions counting.number bytes)
  part_or None part = tt
  part_or (Some bytes) part = inl part

  -- or the sink failed at that line
  refused_part : (x : Option (List ℕ)) → IfSome x (λ bytes. IsRefusedInPart functions counting.number writing bytes) → Rose writing.faults writing.faults_after
      → TookAtMost most x z → ResumesTo functions most statuses.WriteFault (read_of x) writing counting
  refused_part x part rose within = record {
    refused = λ refusal. absurd refusal;
    line = λ refusal. absurd refusal;
    current = λ end. absurd end;
    counter_fault = λ is. absurd (cc);
    unwritten = λ is. absurd (cc);
    write_fault = λ _. part_or x part;
    goes_on = goes_by statuses.WriteFault x (part-answers x part) (λ refusal. absurd refusal);
    number = kept;
    limit = λ taken is. absurd (cc);
    within = λ _ _ _. within;
    past = took_more most x z within;
    read_fault = λ is. absurd (cc);
    write_rose = λ _. rose;
    counter_rose = λ is. absurd (cc);
  }

  -- either way
  refused_told : (why : Unresumed) (result : Status) → is_refusal why ≡ true → IsRefusal (unresumed_status most why) → IsNoAnswer (unresumed_status most why)
      → IsTold most why result writing → (x : Option (List ℕ)) → IfSome x (λ bytes. RefusesAs functions counting.number bytes (unresumed_status most why))
      → IsNear x → TookAtMost most x z → ResumesTo functions most result (read_of x) writing counting
  refused_told why result is refusal none told x said near within = go (told.refused is)
    where
      go : (result ≡ unresumed_status most why) ⊎ (result ≡ statuses.WriteFault) → ResumesTo functions most result (read_of x) writing counting
      go (inl same) = subst (λ (s : Status). ResumesTo functions most s (read_of x) writing counting) (sym same)
          (refused_whole (unresumed_status most why) refusal none x said (subst (λ (s : Status). Grows writing.held writing.held_after (last_line s)) same (told.line same is)) near within)
      go (inr fault) =
          let front = told.front fault is in
          subst (λ (s : Status). ResumesTo functions most s (read_of x) writing counting) (sym fault)
          (refused_part x (part_of (unresumed_status most why) x said front.0) front.1 within)

  -- ---- it isn't refused, and nothing was written

  -- the counter failed
  counter_failed : (x : Option (List ℕ)) → IfSome x (HasAnySeal functions) → writing.held_after ≡ writing.held → Rose counting.faults counting.faults_after
      → IsNear x → TookAtMost most x z → ResumesTo functions most statuses.CounterFault (read_of x) writing counting
  counter_failed x any same rose near within = record {
    refused = λ refusal. absurd refusal;
    line = λ refusal. absurd refusal;
    current = λ end. absurd end;
    counter_fault = λ _. any;
    unwritten = λ _. same;
    write_fault = λ is. absurd (cc);
    goes_on = goes_by statuses.CounterFault x (none-answers statuses.CounterFault tt x near within) (λ refusal. absurd refusal);
    number = kept;
    limit = λ taken is. absurd (cc);
    within = λ _ _ _. within;
    past = took_more most x z within;
    read_fault = λ is. absurd (cc);
    write_rose = λ is. absurd (cc);
    counter_rose = λ _. rose;
  }

  -- memory was wanting
  memory_failed : (x : Option (List ℕ)) → writing.held_after ≡ writing.held → IsNear x → TookAtMost most x z → ResumesTo functions most statuses.Memory (read_of x) writing counting
  memory_failed x same near within = record {
    refused = λ refusal. absurd refusal;
    line = λ refusal. absurd refusal;
    current = λ end. absurd end;
    counter_fault = λ is. absurd (cc);
    unwritten = λ is. absurd (cc);
    write_fault = λ is. absurd (cc);
    goes_on = goes_by statuses.Memory x (memory-answers x same near (took_more most x z within)) (λ refusal. absurd refusal);
    number = kept;
    limit = λ taken is. absurd (cc);
    within = λ _ _ _. within;
    past = took_more most x z within;
    read_fault = λ is. absurd (cc);
    write_rose = λ is. absurd (cc);
    counter_rose = λ is. absurd (cc);
  }

  -- the source failed
  source_failed : (x : Option (List ℕ)) → writing.held_after ≡ writing.held → IsNear x → IsShort x → TookAtMost most x z → Rose faults faults_after
      → ResumesTo functions most statuses.ReadFault (read_of x) writing counting
  source_failed x same near short within rose = record {
    refused = λ refusal. absurd refusal;
    line = λ refusal. absurd refusal;
    current = λ end. absurd end;
    counter_fault = λ is. absurd (cc);
    unwritten = λ is. absurd (cc);
    write_fault = λ is. absurd (cc);
    goes_on = goes_by statuses.ReadFault x (fault-answers x same near short within rose) (λ refusal. absurd refusal);
    number = kept;
    limit = λ taken is. absurd (cc);
    within = λ _ _ _. within;
    past = took_more most x z within;
    read_fault = λ _. rose;
    write_rose = λ is. absurd (cc);
    counter_rose = λ is. absurd (cc);
  }

  -- it gave too much
  source_passed : (x : Option (List ℕ)) → writing.held_after ≡ writing.held → IsNear x → IsShort x → IsBeyond x → TookJust (most + 1) x z
      → ResumesTo functions most (statuses.InputLimit most) (read_of x) writing counting
  source_passed x same near short beyond just = record {
    refused = λ refusal. absurd refusal;
    line = λ refusal. absurd refusal;
    current = λ end. absurd end;
    counter_fault = λ is. absurd (cc);
    unwritten = λ is. absurd (cc);
    write_fault = λ is. absurd (cc);
    goes_on = goes_by (statuses.InputLimit most) x (limit-answers x same near short beyond just) (λ refusal. absurd refusal);
    number = kept;
    limit = λ taken is. let all : taken ≡ most = cc in (all, just);
    within = λ other _ _. absurd (other refl);
    past = took_past (most + 1) x z just;
    read_fault = λ is. absurd (cc);
    write_rose = λ is. absurd (cc);
    counter_rose = λ is. absurd (cc);
  }

  -- ---- why nothing goes on

  abbrev Resumes : Status → Option (List ℕ) → Type 0
  Resumes result x = ResumesTo functions most result (read_of x) writing counting

  -- a status that is kept, and nothing was written
  kept_as : (why : Unresumed) (result : Status) → is_refusal why ≡ false → IsTold most why result writing → (x : Option (List ℕ))
      → (writing.held_after ≡ writing.held → Resumes (unresumed_status most why) x) → Resumes result x
  kept_as why result is told x go =
      let both = told.kept is in
      subst (λ (s : Status). Resumes s x) (sym both.0) (go both.1)

  -- no seal was found
  pub unfound : (why : Unresumed) (result : Status) → IsUnread why → IsTold most why result writing → (x : Option (List ℕ))
      → (why ≡ BadSeal → IfSome x HasNoSeal) → (why ≡ NotTagged → IfSome x (IsUntagged functions))
      → (why ≡ Failed failures.InputLimit → TookJust (most + 1) x z) → ((why ≡ Failed failures.InputLimit → ⊥) → TookAtMost most x z)
      → (why ≡ Failed failures.ReadFault → Rose faults faults_after)
      → IsNear x → ((failure : Failure) → why ≡ Failed failure → (failure ≡ failures.Memory → ⊥) → IsShort x) → (why ≡ Failed failures.InputLimit → IsBeyond x)
      → Resumes result x
  unfound BadSeal result unread told x bad other just within rose near short beyond =
      refused_told BadSeal result refl tt tt told x (bad refl) near (within (λ is. cc))
  unfound NotTagged result unread told x bad other just within rose near short beyond =
      refused_told NotTagged result refl tt tt told x (other refl) near (within (λ is. cc))
  unfound (Stale sealed device) result unread told x bad other just within rose near short beyond = absurd unread
  unfound CounterFault result unread told x bad other just within rose near short beyond = absurd unread
  unfound (Failed failures.Memory) result unread told x bad other just within rose near short beyond =
      kept_as (Failed failures.Memory) result refl told x (λ same. memory_failed x same near (within (λ is. cc)))
  unfound (Failed failures.ReadFault) result unread told x bad other just within rose near short beyond =
      kept_as (Failed failures.ReadFault) result refl told x (λ same. source_failed x same near (short failures.ReadFault refl (λ is. cc)) (within (λ is. cc)) (rose refl))
  unfound (Failed failures.InputLimit) result unread told x bad other just within rose near short beyond =
      kept_as (Failed failures.InputLimit) result refl told x (λ same. source_passed x same near (short failures.InputLimit refl (λ is. cc)) (beyond refl) (just refl))
  unfound (Failed failures.VaultFault) result unread told x bad other just within rose near short beyond = absurd unread
  unfound (Failed failures.WriteFault) result unread told x bad other just within rose near short beyond = absurd unread

  stale_of : (number device : ℕ) (x : Option (List ℕ)) → IfSome x (HasSeal functions number) → Tells counting.number device → number ≢ device
      → IfSome x (λ bytes. HasSeal functions number bytes × Tells counting.number device × (number ≢ device))
  stale_of number device None has tells other = tt
  stale_of number device (Some bytes) has tells other = (has, tells, other)

  any_of : (number : ℕ) (x : Option (List ℕ)) → IfSome x (HasSeal functions number) → IfSome x (HasAnySeal functions)
  any_of number None has = tt
  any_of number (Some bytes) has = (number, has)

  -- a seal was found, and the counter hasn't its number or failed
  pub not_current : (sealed : ℕ) (why : Unresumed) (result : Status) → IsStaleOr sealed counting.number counting.faults counting.faults_after why → IsTold most why result writing
      → (x : Option (List ℕ)) → IfSome x (HasSeal functions sealed) → IsNear x → TookAtMost most x z → Resumes result x
  not_current sealed BadSeal result stale told x has near within = absurd stale
  not_current sealed NotTagged result stale told x has near within = absurd stale
  not_current sealed (Stale number device) result stale told x has near within =
      refused_told (Stale number device) result refl tt tt told x
      (stale_of number device x (subst (λ (n : ℕ). IfSome x (HasSeal functions n)) (sym stale.0) has) stale.1 stale.2) near within
  not_current sealed CounterFault result stale told x has near within =
      kept_as CounterFault result refl told x (λ same. counter_failed x (any_of sealed x has) same stale near within)
  not_current sealed (Failed failure) result stale told x has near within = absurd stale

-- what stands of a whole seal that was found
pub has_seal : (functions : DigestFunctions) (state : SealedState) (count : ℕ) (x : Option (List ℕ)) → IfSome x (λ bytes. IsWhole functions bytes state count)
    → IfSome x (HasSeal functions state.counter)
has_seal functions state count None whole = tt
has_seal functions state count (Some bytes) whole = record { state = state; count = count; whole = whole; numbered = refl }

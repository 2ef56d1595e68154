-- Frames that were read, one more each time, and some behind others.
use Rattle.std.proofs.Common.{◌≡◌, ◌⊎◌, ℕ, ◌+◌, ◌-◌, ◌<◌, ◌≤◌, List, [], ◌∷◌, ◌++◌, length, map, take, set, Option, Some, None, Ok, Err, OnOk, Result, inl, inr, refl, sym, ◌∙◌, ap, subst, true≢false, append_assoc, length-append, arith}
use Rattle.std.proofs.lemmas.List.{map-append, take_more_set}
use Rattle.std.specs.Prelude.{IsSome, IsSomeAnd, IsErrAnd, IfOk}
use Rattle.std.specs.List.{AllByRecursion}
use Rattle.lamport_clocks.specs.declared.header.Header.{Header}
use Rattle.bundle_frames.specs.declared.coming.Next.{Next}
use Rattle.bundle_frames.specs.declared.coming.Next.TheVariants.{Frame, End}
use Rattle.fv_outside.specs.declared.failure.Failure.{Failure}
use Rattle.fv_outside.specs.declared.failure.Failure.TheVariants as failures
use Rattle.fv_outside.specs.declared.failure.Failure.TheVariants.{InputLimit}
use Rattle.fv_outside.specs.Failures.{FailsBySource}
use Rattle.bundle_frames.specs.Bundle.{Bundle, IsFrame, with_frames, Frame as FrameOf}
use Rattle.bundle_frames.specs.Extent.{IsDue}
use Rattle.bundle_frames.specs.Progress.{position}
use Rattle.bundle_frames.specs.Reading.{Reading, HasRead, IsSpent, ReadsAs, ahead, end_ahead, next_then, header_then}
use Rattle.bundle_frames.proofs.ReadingLaws.{HasRead-then, ReadsAs-then, ReadsAs-kept, ReadsAs-map, ReadsAs-back, near-then}
use Rattle.base_words.specs.declared.memory.Memory.{Memory}
use Rattle.check_core.specs.declared.batch.Filled.{Filled}
use Rattle.check_core.specs.declared.batch.Filled.TheVariants.{Whole, End as Ended, Stopped}
use Rattle.check_core.specs.declared.batch.FrameHolder.{FrameHolder}
use Rattle.report_text.proofs.AnsweringLaws.{rose_before}
use Rattle.check_core.specs.Batch.{frame_in, bytes_of, GoesOnBy, HasFilled}

-- ---- answers

-- what follows from what holds with an answer
pub ok_with : {T E : Type 0} (A B : Type 0) (r : Result T E) → OnOk r A → (A → OnOk r B) → OnOk r B
ok_with A B (Ok value) holds then = then holds
ok_with A B (Err error) holds then = tt

pub on_ok_always : {T E : Type 0} (B : Type 0) (r : Result T E) → B → OnOk r B
on_ok_always B (Ok value) holds = holds
on_ok_always B (Err error) holds = tt

-- with an error there is none
pub on_ok_never : {T E : Type 0} (B : Type 0) (r : Result T E) (error : E) → r ≡ Err error → OnOk r B
on_ok_never B r error is = subst (λ (o : Result _ _). OnOk o B) (sym is) tt

-- what holds with an answer, where this is it
pub in_ok : {T E : Type 0} {A : Type 0} {r : Result T E} (value : T) → r ≡ Ok value → OnOk r A → A
in_ok {A = A} value is holds = subst (λ (o : Result _ _). OnOk o A) is holds

-- ---- a frame more

-- the holders that hold frames, once a holder more does
pub frames_more : (old holders : List FrameHolder) (count : ℕ) (holder : FrameHolder) → count < length holders → take count holders ≡ take count old
    → map frame_in (take (count + 1) (set holders count holder)) ≡ map frame_in (take count old) ++ frame_in holder ∷ []
frames_more old holders count holder within same =
    ap (map frame_in) (take_more_set holders count holder within)
    ∙ map-append frame_in (take count holders) (holder ∷ [])
    ∙ ap (λ (front : List FrameHolder). map frame_in front ++ frame_in holder ∷ []) same

-- their bytes
pub bytes_more : (frames : List FrameOf) (frame : FrameOf) → bytes_of (frames ++ frame ∷ []) ≡ bytes_of frames + length frame.body
bytes_more [] frame = omega arith
bytes_more (first ∷ frames) frame =
    let rest = bytes_more frames frame in
    omega (arith, rest)

-- the same of more frames
pub bytes_append : (frames more : List FrameOf) → bytes_of (frames ++ more) ≡ bytes_of frames + bytes_of more
bytes_append [] more = omega arith
bytes_append (frame ∷ frames) more =
    let rest = bytes_append frames more in
    omega (arith, rest)

-- the same of the frames that there are then
pub bytes_kept : (frames all : List FrameOf) (frame : FrameOf) → all ≡ frames ++ frame ∷ [] → bytes_of all ≡ bytes_of frames + length frame.body
bytes_kept frames all frame is = ap bytes_of is ∙ bytes_more frames frame

-- so there are more
pub more_kept : (most : ℕ) (frames all : List FrameOf) (frame : FrameOf) → all ≡ frames ++ frame ∷ [] → length frames < most → most - length all < most - length frames
more_kept most frames all frame is room =
    let count = ap length is in
    let sum = length-append frames (frame ∷ []) in
    omega (arith, count, sum, room)

-- and still no more than so many
pub count_kept : (most : ℕ) (frames all : List FrameOf) (frame : FrameOf) → all ≡ frames ++ frame ∷ [] → length frames < most → length all ≤ most
count_kept most frames all frame is room =
    let count = ap length is in
    let sum = length-append frames (frame ∷ []) in
    omega (arith, count, sum, room)

-- each is in its ranges
all_more : (P : FrameOf → Type 0) (frames : List FrameOf) (frame : FrameOf) → AllByRecursion P frames → P frame → AllByRecursion P (frames ++ frame ∷ [])
all_more P [] frame all last = (last, tt)
all_more P (first ∷ frames) frame all last = (all.0, all_more P frames frame all.1 last)

-- the same of more frames
all_append : (P : FrameOf → Type 0) (frames more : List FrameOf) → AllByRecursion P frames → AllByRecursion P more → AllByRecursion P (frames ++ more)
all_append P [] more all then = then
all_append P (frame ∷ frames) more all then = (all.0, all_append P frames more all.1 then)

pub all_kept : (P : FrameOf → Type 0) (frames all : List FrameOf) (frame : FrameOf) → all ≡ frames ++ frame ∷ [] → AllByRecursion P frames → P frame → AllByRecursion P all
all_kept P frames all frame is before last = subst (AllByRecursion P) (sym is) (all_more P frames frame before last)

-- a frame that came is one of the header that is known
pub known_frame : (verifier : ℕ) (body : List ℕ) (known : Option Header) (header : Header) → known ≡ Some header
    → IsSomeAnd known (λ h. IsFrame h.verifiers (record { verifier = verifier; body = body })) → IsFrame header.verifiers (record { verifier = verifier; body = body })
known_frame verifier body known header is frame =
    subst (λ (k : Option Header). IsSomeAnd k (λ h. IsFrame h.verifiers (record { verifier = verifier; body = body }))) is frame

-- and so its body is no longer than the longest
pub known_bounded : (verifier : ℕ) (body : List ℕ) (known : Option Header)
    → IsSomeAnd known (λ h. IsFrame h.verifiers (record { verifier = verifier; body = body })) → length body ≤ 65536
known_bounded verifier body None frame = absurd frame
known_bounded verifier body (Some header) frame = frame.bounded

-- where a header is known no other comes
pub no_header : (known was : Option Header) → known ≡ was → IsSome was → known ≡ None → ⊥
no_header known was same some none = true≢false (sym (subst IsSome (sym same ∙ none) some))

-- with a frame no header comes, nor at the end
pub frame_keeps : (next : Next) (verifier : ℕ) (known : Option Header) → next ≡ Frame verifier → header_then (Ok next) known ≡ known
frame_keeps next verifier known is = ap (λ (n : Next). header_then (Ok n) known) is

pub end_keeps : (next : Next) (known : Option Header) → next ≡ End → header_then (Ok next) known ≡ known
end_keeps next known is = ap (λ (n : Next). header_then (Ok n) known) is

-- at the end there is no frame before the rest
pub end_adds_none : (next : Next) (body : List ℕ) → next ≡ End → (rest : Bundle) → next_then (Ok next) body rest ≡ rest
end_adds_none next body is rest = ap (λ (n : Next). next_then (Ok n) body rest) is

-- a frame is not the end
abbrev next_is : Next → Result Next Failure
next_is next = Ok next

pub frame_not_end : (next : Next) (verifier : ℕ) → next ≡ Frame verifier → next_is next ≡ next_is End → ⊥
frame_not_end next verifier is same = cc

-- ---- how far a batch was read

abbrev filled_is : Filled → Result Filled Memory
filled_is filled = Ok filled

-- the want of memory that a call hands on
pub handed_on : (r : Result Filled Memory) (memory : Memory) → IsErrAnd r (λ error. error ≡ memory) → r ≡ Err memory
handed_on (Ok filled) memory is = absurd is
handed_on (Err error) memory is = ap Err is

abbrev memory_is : Memory → Result Filled Memory
memory_is memory = Err memory

pub memory_not_ok : (memory : Memory) (filled : Filled) → memory_is memory ≡ filled_is filled → ⊥
memory_not_ok memory filled is = cc

pub whole_not_end : filled_is Ended ≡ filled_is Whole → ⊥
whole_not_end same = cc

pub stopped_not_end : (stop : Failure) → filled_is Ended ≡ filled_is (Stopped stop) → ⊥
stopped_not_end stop same = cc

pub stopped_not_whole : (stop : Failure) → filled_is (Stopped stop) ≡ filled_is Whole → ⊥
stopped_not_whole stop same = cc

pub end_not_stopped : (stop : Failure) → filled_is (Stopped stop) ≡ filled_is Ended → ⊥
end_not_stopped stop same = cc

pub stop_is : (stop other : Failure) → filled_is (Stopped stop) ≡ filled_is (Stopped other) → stop ≡ other
stop_is stop other same = cc

-- there is no more, where not all are there
pub spent_at : (result : Result Filled Memory) (filled : Filled) (reading : Reading) → result ≡ Ok filled
    → IfOk result (λ f. (f ≡ Whole → ⊥) → IsSpent reading) → (filled ≡ Whole → ⊥) → IsSpent reading
spent_at result filled reading is spent = subst (λ (r : Result Filled Memory). IfOk r (λ f. (f ≡ Whole → ⊥) → IsSpent reading)) is spent

-- reading stops by the source alone
pub by_source : (stop : Failure) → (let next : Result Next Failure = Err stop in FailsBySource next) → (stop ≡ failures.ReadFault) ⊎ (stop ≡ failures.InputLimit)
by_source failures.Memory fails = absurd (fails.memory refl)
by_source failures.ReadFault fails = inl refl
by_source failures.InputLimit fails = inr refl
by_source failures.VaultFault fails = absurd (fails.vault refl)
by_source failures.WriteFault fails = absurd (fails.sink refl)

-- ---- a frame that was handed over

-- what a reader then is as before
pub record IsHandedOver (old new : Reading) : Type 0 where
  pub due : IsDue old.progress → IsDue new.progress
  pub header : new.progress.header ≡ old.progress.header
  pub taken : new.taken ≡ old.taken
  pub limit : new.limit ≡ old.limit
  pub offset : new.progress.offset ≡ old.progress.offset
  pub position : position new.progress ≡ position old.progress
  pub extent : (more : List ℕ) → end_ahead old more ≡ end_ahead new more

pub handed_over : (old new : Reading) → new ≡ record old { progress = record old.progress { body = [] } } → IsHandedOver old new
handed_over old new is = record {
  due = λ due. subst (λ (r : Reading). IsDue r.progress) (sym is) (record { partial = due.partial; at_start = due.at_start });
  header = ap (λ (r : Reading). r.progress.header) is;
  taken = ap (λ (r : Reading). r.taken) is;
  limit = ap (λ (r : Reading). r.limit) is;
  offset = ap (λ (r : Reading). r.progress.offset) is;
  position = ap (λ (r : Reading). position r.progress) is;
  extent = λ more. ap (λ (r : Reading). end_ahead r more) (sym is);
}

-- ---- what was read means

-- frames before frames
joined : (some more : List FrameOf) (bundle : Bundle) → with_frames some (with_frames more bundle) ≡ with_frames (some ++ more) bundle
joined some more bundle = ap (λ (frames : List FrameOf). record bundle { frames = frames }) (sym (append_assoc some more bundle.frames))

-- a frame that came and was handed over stands behind the frames so far
pub reads_frame : (n : ℕ) (x : Option (List ℕ)) (frames all : List FrameOf) (verifier : ℕ) (old new handed : Reading) (result : Result Next Failure)
    → ReadsAs n x (ahead old) (λ more. next_then result new.progress.body (ahead new more))
    → result ≡ Ok (Frame verifier) → handed ≡ record new { progress = record new.progress { body = [] } }
    → all ≡ frames ++ record { verifier = verifier; body = new.progress.body } ∷ []
    → ReadsAs n x (λ more. with_frames frames (ahead old more)) (λ more. with_frames all (ahead handed more))
reads_frame n x frames all verifier old new handed result reads is same more_frames =
    ReadsAs-kept n x (λ more. with_frames frames (ahead old more)) (λ more. with_frames frames (next_then result new.progress.body (ahead new more)))
    (λ more. with_frames all (ahead handed more))
    (ReadsAs-map (with_frames frames) n x (ahead old) (λ more. next_then result new.progress.body (ahead new more)) reads)
    (λ more. ap (λ (r : Result Next Failure). with_frames frames (next_then r new.progress.body (ahead new more))) is
    ∙ joined frames (record { verifier = verifier; body = new.progress.body } ∷ []) (ahead new more)
    ∙ ap (λ (fs : List FrameOf). with_frames fs (ahead new more)) (sym more_frames)
    ∙ ap (λ (r : Reading). with_frames all (ahead r more)) (sym same))

-- where no frame came they are all
pub reads_none : (n : ℕ) (x : Option (List ℕ)) (frames : List FrameOf) (old new : Reading) (result : Result Next Failure)
    → ReadsAs n x (ahead old) (λ more. next_then result new.progress.body (ahead new more))
    → ((rest : Bundle) → next_then result new.progress.body rest ≡ rest)
    → ReadsAs n x (λ more. with_frames frames (ahead old more)) (λ more. with_frames frames (ahead new more))
reads_none n x frames old new result reads none =
    ReadsAs-map (with_frames frames) n x (ahead old) (ahead new)
    (ReadsAs-kept n x (ahead old) (λ more. next_then result new.progress.body (ahead new more)) (ahead new) reads (λ more. none (ahead new more)))

-- ---- some frames, and then more

-- reading went on by these, and then by those
goes_on : (some more : List FrameOf) (old new last : Reading) (x y : Option (List ℕ)) → HasRead (new.taken - old.taken) x y
    → old.taken ≤ new.taken → new.taken ≤ last.taken → GoesOnBy some old new x → GoesOnBy more new last y → GoesOnBy (some ++ more) old last x
goes_on some more old new last x y read rises rises' first then =
    let sum : last.taken - old.taken ≡ (new.taken - old.taken) + (last.taken - new.taken) = omega (arith, rises, rises') in
    let bytes = bytes_append some more in
    record {
      means = ReadsAs-kept _ _ _ _ _
          (ReadsAs-then _ _ _ _ _ _ _ _ read first.means (ReadsAs-map (with_frames some) _ _ _ _ then.means) sum)
          (λ rest. joined some more (ahead last rest));
      extent = ReadsAs-then _ _ _ _ _ _ _ _ read first.extent then.extent sum;
      header = then.header ∙ first.header;
      bytes = omega (arith, bytes, first.bytes, then.bytes);
    }

-- Where all that were to be read came, and then more: they were read as one.
module _ (most most' : ℕ) (some more : List FrameOf) (whole result : Result Filled Memory) (old new last : Reading)
    (x y z : Option (List ℕ)) (faults faults' faults'' : ℕ) (is : whole ≡ Ok Whole)
    (first : HasFilled most some whole old new x y faults faults') (then : HasFilled most' more result new last y z faults' faults'') where
  on : GoesOnBy some old new x
  on = in_ok Whole is first.goes_on

  read : HasRead (new.taken - old.taken) x y
  read = first.having_read (λ stopped. stopped_not_whole InputLimit (sym stopped ∙ is))

  pub filled_more : HasFilled (most + most') (some ++ more) result old last x z faults faults''
  filled_more =
      let sum : last.taken - old.taken ≡ (new.taken - old.taken) + (last.taken - new.taken) = omega (arith, first.rises, then.rises) in
      let lengths = length-append some more in
      record {
        goes_on = ok_with _ _ result then.goes_on (λ behind. on_ok_always _ result (goes_on some more old new last x y read first.rises then.rises on behind));
        ranges = λ header known. all_append (IsFrame header.verifiers) some more (first.ranges header known) (then.ranges header (on.header ∙ known));
        whole = λ all. omega (arith, lengths, first.whole is, then.whole all);
        having_read = λ other. HasRead-then _ _ _ _ _ _ read (then.having_read other) sum;
        limit = λ past. HasRead-then _ _ _ _ _ _ read (then.limit past) (omega (arith, first.rises, then.rises, then.within));
        full = then.full;
        rises = omega (arith, first.rises, then.rises);
        within = then.within;
        same_limit = then.same_limit ∙ first.same_limit;
        split = then.split;
        near = near-then _ _ _ _ _ _ _ _ _ read on.extent then.rises refl first.near then.near;
        beyond = λ past. ReadsAs-back (λ (end : ℕ). last.limit < end) _ _ _ _ _ read on.extent (then.beyond past);
        end = then.end;
        reached = then.reached;
        spent = then.spent;
        due = then.due;
        stopped = then.stopped;
        fault = λ stopped. rose_before _ _ _ first.never_falls (then.fault stopped);
        never_falls = omega (arith, first.never_falls, then.never_falls);
      }

-- What was read of a bundle and joined, and what is left of it, mean the bundle.
use Rattle.std.proofs.Common.{◌≡◌, ℕ, zero, suc, ◌+◌, ◌<◌, List, [], ◌∷◌, ◌++◌, length, map, Option, Some, None, Ok, IfSome, refl, sym, ◌∙◌, ap, append-nil, append_assoc, if◌then◌else◌, arith}
use Rattle.std.proofs.lemmas.Bool.{eq-eqb, ne_eqb}
use Rattle.std.proofs.lemmas.Grind.{flat_map-append}
use Rattle.std.proofs.lemmas.List.{length-map}
use Rattle.std.specs.Prelude.{IsSomeAnd}
use Rattle.lamport_clocks.specs.declared.header.Header.{Header}
use Rattle.bundle_frames.specs.declared.coming.Next.{Next}
use Rattle.bundle_frames.specs.declared.coming.Next.TheVariants.{Head, Frame, End}
use Rattle.bundle_frames.specs.Bundle.{Bundle, IsFrame, body_for, log_of, Frame as FrameOf}
use Rattle.bundle_frames.specs.Progress.{Progress, meaning_at}
use Rattle.bundle_frames.specs.Reading.{Reading, opening_reading, ReadsAs, ahead, next_then, header_then}
use Rattle.bundle_frames.proofs.ReadingLaws.{ReadsAs-kept, ReadsAs-map}
use Rattle.bundle_report.specs.Logs.{log_count, empty_logs, joined_from, appended, logs_so_far, logs_then}
use Rattle.bundle_report.specs.Logged.{behind, logged_of}
use Rattle.check_core.specs.Intake.{behind_at}

-- ---- logs and frames

-- no frames add nothing
pub joined_none : (number : ℕ) (logs : List (List ℕ)) → joined_from number logs [] ≡ logs
joined_none number [] = refl
joined_none number (log ∷ logs) =
    ap (λ (l : List ℕ). l ∷ joined_from (suc number) logs []) (append-nil log) ∙ ap (λ (more : List (List ℕ)). log ∷ more) (joined_none (suc number) logs)

-- a frame of a verifier before these adds nothing to their logs
joined_other : (number : ℕ) (logs : List (List ℕ)) (frame : FrameOf) (frames : List FrameOf) → frame.verifier < number
    → joined_from number logs (frame ∷ frames) ≡ joined_from number logs frames
joined_other number [] frame frames before = refl
joined_other number (log ∷ logs) frame frames before =
    ap (λ (b : List ℕ). (log ++ (b ++ log_of number frames)) ∷ joined_from (suc number) logs (frame ∷ frames))
    (ap (λ (t : _). if t then frame.body else []) (ne_eqb frame.verifier number (λ same. absurd (omega (arith, same, before)))))
    ∙ ap (λ (more : List (List ℕ)). (log ++ log_of number frames) ∷ more) (joined_other (suc number) logs frame frames (omega (arith, before)))

-- a frame adds its body to its verifier's log
pub joined_frame : (number index : ℕ) (bytes : List ℕ) (logs : List (List ℕ)) (frame : FrameOf) (frames : List FrameOf) → frame.verifier ≡ number + index → frame.body ≡ bytes
    → index < length logs
    → joined_from number logs (frame ∷ frames) ≡ joined_from number (appended index bytes logs) frames
joined_frame number index bytes [] frame frames is body within = absurd (omega (arith, within))
joined_frame number zero bytes (log ∷ logs) frame frames is body within =
    ap (λ (t : _). (log ++ ((if t then frame.body else []) ++ log_of number frames)) ∷ joined_from (suc number) logs (frame ∷ frames))
    (eq-eqb frame.verifier number (omega (arith, is)))
    ∙ ap (λ (b : List ℕ). (log ++ (b ++ log_of number frames)) ∷ joined_from (suc number) logs (frame ∷ frames)) body
    ∙ ap (λ (l : List ℕ). l ∷ joined_from (suc number) logs (frame ∷ frames)) (sym (append_assoc log bytes (log_of number frames)))
    ∙ ap (λ (more : List (List ℕ)). ((log ++ bytes) ++ log_of number frames) ∷ more) (joined_other (suc number) logs frame frames (omega (arith, is)))
joined_frame number (suc index) bytes (log ∷ logs) frame frames is body within =
    ap (λ (t : _). (log ++ ((if t then frame.body else []) ++ log_of number frames)) ∷ joined_from (suc number) logs (frame ∷ frames))
    (ne_eqb frame.verifier number (λ same. absurd (omega (arith, same, is))))
    ∙ ap (λ (more : List (List ℕ)). (log ++ log_of number frames) ∷ more)
    (joined_frame (suc number) index bytes logs frame frames (omega (arith, is)) body (omega (arith, within)))

-- frames, and then more of them
pub joined_more : (number : ℕ) (logs : List (List ℕ)) (frames more : List FrameOf)
    → joined_from number logs (frames ++ more) ≡ joined_from number (joined_from number logs frames) more
joined_more number [] frames more = refl
joined_more number (log ∷ logs) frames more =
    ap (λ (bytes : List ℕ). (log ++ bytes) ∷ joined_from (suc number) logs (frames ++ more)) (flat_map-append (body_for number) frames more)
    ∙ ap (λ (bytes : List ℕ). bytes ∷ joined_from (suc number) logs (frames ++ more)) (sym (append_assoc log (log_of number frames) (log_of number more)))
    ∙ ap (λ (rest : List (List ℕ)). ((log ++ log_of number frames) ++ log_of number more) ∷ rest) (joined_more (suc number) logs frames more)

-- ---- a bundle, read header and frame by frame

-- behind a header that is known, that is the bundle's
pub ahead_header : (reading : Reading) (header : Header) (more : List ℕ) → reading.progress.header ≡ Some header → (ahead reading more).header ≡ Some header
ahead_header reading header more known =
    let p : Progress = reading.progress in
    ap (λ (h : Option Header). (meaning_at h p.offset (p.held ++ (reading.unread ++ more))).header) known

-- before anything is read
pub opening_joined : (limit : ℕ) (logs : List (List ℕ)) (reading : Reading) (more : List ℕ) → logs ≡ [] → reading ≡ opening_reading limit → logged_of more ≡ behind_at logs reading more
opening_joined limit logs reading more empty is =
    ap (λ (l : List (List ℕ)). behind_at l (opening_reading limit) more) (sym empty) ∙ ap (λ (r : Reading). behind_at logs r more) (sym is)

-- what came is joined, and the rest behind it is what was left
pub joined_next : (logs : List (List ℕ)) (next : Next) (known : Option Header) (body : List ℕ) (rest : Bundle)
    → ((header : Header) → next ≡ Head header → (known ≡ None) × (rest.header ≡ Some header))
    → ((verifier : ℕ) → next ≡ Frame verifier → (verifier < length logs) × (known ≡ None → ⊥))
    → behind known logs (next_then (Ok next) body rest) ≡ behind (header_then (Ok next) known) (logs_then next body logs) rest
joined_next logs (Head header) known body rest head frame =
    let first = head header refl in
    ap (λ (h : Option Header). behind h logs rest) first.0
    ∙ ap (λ (h : Option Header). record { header = rest.header; logs = joined_from 0 (empty_logs (log_count h)) rest.frames; bad = rest.bad }) first.1
joined_next logs (Frame verifier) None body rest head frame = absurd ((frame verifier refl).1 refl)
joined_next logs (Frame verifier) (Some header) body rest head frame =
    ap (λ (joined : List (List ℕ)). record { header = rest.header; logs = joined; bad = rest.bad })
    (joined_frame 0 verifier body logs (record { verifier = verifier; body = body }) rest.frames (omega arith) refl (frame verifier refl).0)
joined_next logs End known body rest head frame = refl

-- what holds of a value that is there
there : {A : Type 0} {P : A → Type 0} (o : Option A) → IsSomeAnd o P → (value : A) × (o ≡ Some value) × P value
there None holds = absurd holds
there (Some value) holds = (value, refl, holds)

-- the verifier of a frame that came has a log
pub verifier_there : (verifier count : ℕ) (body : List ℕ) (header known : Option Header) → header ≡ known → count ≡ log_count header
    → IsSomeAnd known (λ h. IsFrame h.verifiers (record { verifier = verifier; body = body })) → verifier < count
verifier_there verifier count body header known same counted frame =
    let first = there known frame in
    omega (arith, first.2.verifier, counted ∙ ap log_count (same ∙ first.1))

-- the header or frame that a reader came to is joined
pub reads_next : (n : ℕ) (x : Option (List ℕ)) (logs now : List (List ℕ)) (old new : Reading) (next : Next) (body : List ℕ)
    → ReadsAs n x (ahead old) (λ more. next_then (Ok next) body (ahead new more))
    → new.progress.header ≡ header_then (Ok next) old.progress.header
    → ((header : Header) → next ≡ Head header → old.progress.header ≡ None)
    → ((verifier : ℕ) → next ≡ Frame verifier → IsSomeAnd old.progress.header (λ header. IsFrame header.verifiers (record { verifier = verifier; body = body })))
    → length logs ≡ log_count old.progress.header
    → now ≡ logs_then next body logs
    → ReadsAs n x (behind_at logs old) (behind_at now new)
reads_next n x logs now old new next body reads known head frame count joined =
    ReadsAs-kept n x (behind_at logs old) (λ more. behind old.progress.header logs (next_then (Ok next) body (ahead new more))) (behind_at now new)
    (ReadsAs-map (behind old.progress.header logs) n x (ahead old) (λ more. next_then (Ok next) body (ahead new more)) reads)
    (λ more.
    joined_next logs next old.progress.header body (ahead new more)
    (λ header is. (head header is, ahead_header new header more (known ∙ ap (λ (came : Next). header_then (Ok came) old.progress.header) is)))
    (λ verifier is. let first = there old.progress.header (frame verifier is) in
    (omega (arith, first.2.verifier, count ∙ ap log_count first.1), λ none. cc))
    ∙ ap (λ (h : Option Header). behind h (logs_then next body logs) (ahead new more)) (sym known)
    ∙ ap (λ (l : List (List ℕ)). behind new.progress.header l (ahead new more)) (sym joined))

-- logs of which none is left to come
all_joined : (header : Option Header) (logs : List (List ℕ)) → length logs ≡ log_count header → joined_from 0 (logs_so_far header logs header) [] ≡ logs
all_joined None [] count = refl
all_joined None (log ∷ logs) count = absurd (omega (arith, count))
all_joined (Some header) logs count = joined_none 0 logs

-- where nothing is left that counts, what was read is what the bundle means
pub joined_end : (logs : List (List ℕ)) (reading : Reading) (x : Option (List ℕ)) (header : Option Header) (bad : Option ℕ)
    → IfSome x (λ left. ahead reading left ≡ ahead reading []) → header ≡ reading.progress.header
    → ahead reading [] ≡ record { header = reading.progress.header; frames = []; bad = bad } → length logs ≡ log_count header
    → IfSome x (λ left. record { header = header; logs = logs; bad = bad } ≡ behind_at logs reading left)
joined_end logs reading None header bad ends is rest count = tt
joined_end logs reading (Some left) header bad ends is rest count =
    let known = reading.progress.header in
    ap (λ (h : Option Header). record { header = h; logs = logs; bad = bad }) is
    ∙ ap (λ (l : List (List ℕ)). record { header = known; logs = l; bad = bad }) (sym (all_joined known logs (count ∙ ap log_count is)))
    ∙ sym (ap (behind known logs) (ends ∙ rest))

-- as many logs as the header has verifiers
pub logs_counted : {A : Type 0} (f : A → List ℕ) (items : List A) (header : Option Header) (n : ℕ) → n ≡ length items → n ≡ log_count header → length (map f items) ≡ log_count header
logs_counted f items header n len count = length-map items f ∙ sym len ∙ count

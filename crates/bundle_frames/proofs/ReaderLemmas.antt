-- The parts of a reader: what a read into the room and a split of what is unread come to.
use Rattle.std.proofs.Common.{◌≡◌, ℕ, ◌+◌, ◌≤◌, ◌<◌, ltb, Bool, true, List, [], ◌++◌, length, take, drop, Option, Some, None, IfSome, slice_range, sym, ap, subst, ◌∙◌, arith, length-append, length-drop}
use Rattle.std.specs.Prelude.{Result, Ok}
use Rattle.std.proofs.Math.Seq.{drop-append-add}
use Rattle.std.proofs.lemmas.List.{drop-drop, take-append-le, take_all}
use Rattle.std.proofs.lemmas.List.Edits.{between_none, length-between}
use Rattle.std.proofs.lemmas.Bool.{ltb-true}
use Rattle.std.proofs.lemmas.Slice.{between_from_start, between_is}
use Rattle.std.specs.Io.KnownBytes.{Consumes, IsAtEnd, Keeps}
use Rattle.fv_outside.specs.declared.failure.Failure.{Failure}
use Rattle.bundle_frames.specs.declared.coming.Next.TheVariants.{Frame}
use Rattle.bundle_frames.specs.declared.found.Found.TheVariants.{Frame as FoundFrame}
use Rattle.bundle_frames.specs.Progress.{Progress, position, rest_of}
use Rattle.bundle_frames.specs.Finds.{progress_after}
use Rattle.bundle_frames.specs.Extent.{end_behind, IsDue}
use Rattle.bundle_frames.specs.Reading.{Reading, IsSpent, HasRead, ReadsAs}
use Rattle.bundle_frames.proofs.ExtentLemmas.{due-before, end-all, no_header_due, no_frames_due}

-- ---- the room

-- behind the bytes that were taken of those that are unread
pub unread_after : (room : List ℕ) (from until n : ℕ) → slice_range room (from + n) until ≡ drop n (slice_range room from until)
unread_after room from until n =
    between_is room (from + n) until ∙ sym (drop-drop n from (take until room)) ∙ ap (drop n) (sym (between_is room from until))

pub unread_none : (room : List ℕ) (from until : ℕ) → from ≡ until → slice_range room from until ≡ []
unread_none room from until same = ap (slice_range room from) (sym same) ∙ between_none room from

pub unread_read : (room : List ℕ) (count : ℕ) → slice_range room 0 count ≡ take count room
unread_read room count = between_from_start room count

pub unread_some : (room : List ℕ) (from until : ℕ) → from < until → until ≤ length room → 0 < length (slice_range room from until)
unread_some room from until some within = omega (arith, length-between room from until within)

-- ---- a read

pub read_take : (front rest : List ℕ) (n : ℕ) → n ≡ length front → take n (front ++ rest) ≡ front
read_take front rest n is = take-append-le n front rest (omega arith) ∙ take_all n front (omega arith)

-- bytes were read, where that is answered
pub count_some : (count : ℕ) → (let more : Result Bool Failure = Ok (ltb 0 count) in more ≡ Ok true) → 0 < count
count_some count is =
    let more : ltb 0 count ≡ true = cc in
    ltb-true 0 count more

read_drop : (front rest : List ℕ) (n : ℕ) → n ≡ length front → drop n (front ++ rest) ≡ rest
read_drop front rest n is = ap (λ (k : ℕ). drop k (front ++ rest)) (let more : n ≡ length front + 0 = omega arith in more) ∙ drop-append-add front rest 0

-- so many bytes were read
pub has_read : (n : ℕ) (front : List ℕ) (x y : Option (List ℕ)) → Consumes x y front → n ≡ length front → HasRead n x y
has_read n front None y read is = tt
has_read n front (Some bytes) None read is = absurd read
has_read n front (Some bytes) (Some rest) read is =
    let size = ap length read in
    let size' = length-append front rest in
    (omega arith, sym (ap (drop n) read ∙ read_drop front rest n is))

-- where a read failed
pub has_kept : (n : ℕ) (x y : Option (List ℕ)) → Keeps x y → n ≡ 0 → HasRead n x y
has_kept n None y kept none = tt
has_kept n (Some bytes) None kept none = absurd kept
has_kept n (Some bytes) (Some rest) kept none = (omega arith, kept ∙ sym (ap (λ (k : ℕ). drop k bytes) none))

-- what was read stands before what follows
pub reads_front : {A : Type 0} (h : Progress → List ℕ → A) (p q : Progress) (n : ℕ) (front old new : List ℕ) (x y : Option (List ℕ)) → p ≡ q → Consumes x y front → n ≡ length front
    → old ≡ [] → new ≡ front → ReadsAs n x (λ more. h p (old ++ more)) (λ more. h q (new ++ more))
reads_front h p q n front old new None y same read is none all = tt
reads_front h p q n front old new (Some bytes) None same read is none all = absurd read
reads_front h p q n front old new (Some bytes) (Some rest) same read is none all = λ more.
    ap (λ (o : List ℕ). h p (o ++ (take n bytes ++ more))) none
    ∙ ap (λ (f : List ℕ). h p (f ++ more)) (ap (take n) read ∙ read_take front rest n is ∙ sym all)
    ∙ ap (λ (r : Progress). h r (new ++ more)) same

-- what is the same of two readers is ahead of both
pub same_ahead : {A : Type 0} (h : Progress → List ℕ → A) (p q : Progress) (u v : List ℕ) → p ≡ q → u ≡ v → (more : List ℕ) → h p (u ++ more) ≡ h q (v ++ more)
same_ahead h p q u v same all more = ap (λ (r : Progress). h r (u ++ more)) same ∙ ap (λ (w : List ℕ). h q (w ++ more)) all

-- what is ahead behind a split, where that is so of the piece that was split
pub split_ahead : {A : Type 0} (h : Progress → List ℕ → A) (k : A → A) (p o q : Progress) (u v piece left : List ℕ) → p ≡ o → u ≡ piece → v ≡ left
    → ((more : List ℕ) → h o (piece ++ more) ≡ k (h q (left ++ more))) → (more : List ℕ) → h p (u ++ more) ≡ k (h q (v ++ more))
split_ahead h k p o q u v piece left same all rest kept more =
    same_ahead h p o u piece same all more ∙ kept more ∙ ap (λ (w : List ℕ). k (h q (w ++ more))) (sym rest)

-- a byte was read, and reading had not ended: its end lies further on
pub end_further : (p : Progress) (at : ℕ) (front old : List ℕ) (x y : Option (List ℕ)) → IsDue p → Consumes x y front → 0 < length front → old ≡ [] → position p ≡ at
    → IfSome x (λ bytes. at < end_behind p (old ++ bytes))
end_further p at front old None y due read some none is = tt
end_further p at front old (Some bytes) None due read some none is = absurd read
end_further p at front old (Some bytes) (Some rest) due read some none is =
    let size = ap length read in
    let size' = length-append front rest in
    let before = due-before p bytes due (omega arith) in
    subst (λ (o : List ℕ). at < end_behind p (o ++ bytes)) (sym none) (omega arith)

-- and so no more is read behind it than the rest of a piece
pub end_near : (p : Progress) (at now : ℕ) (front old : List ℕ) (x y : Option (List ℕ)) → IsDue p → Consumes x y front → 0 < length front → old ≡ [] → position p ≡ at
    → now ≤ at + 65536 → IfSome x (λ bytes. now ≤ end_behind p (old ++ bytes) + 65535)
end_near p at now front old None y due read some none is piece = tt
end_near p at now front old (Some bytes) None due read some none is piece = absurd read
end_near p at now front old (Some bytes) (Some rest) due read some none is piece =
    let further = end_further p at front old (Some bytes) (Some rest) due read some none is in
    omega arith

-- ---- what was found

pub frame_same : (found came : ℕ) → Some (Frame found) ≡ Some (Frame came) → FoundFrame found ≡ FoundFrame came
frame_same found came is = cc

-- behind a frame lie the bytes of its body
pub frame_further : (old new : Progress) (front : List ℕ) (verifier : ℕ) → new ≡ progress_after old front (FoundFrame verifier) → old.offset + length new.body ≤ new.offset
frame_further old new front verifier after =
    let body = ap (λ (p : Progress). length p.body) after in
    let offset = ap (λ (p : Progress). p.offset) after in
    omega (arith, length-drop 6 (old.held ++ front), length-append old.held front)

-- ---- the end of a source

-- what holds of any bytes holds of those that are left
pub some_all : (P : List ℕ → Type 0) (x : Option (List ℕ)) → ((left : List ℕ) → P left) → IfSome x P
some_all P None holds = tt
some_all P (Some left) holds = holds left

pub ahead_at_end : (p : Progress) (unread : List ℕ) (x : Option (List ℕ)) → IsAtEnd x → IfSome x (λ left. rest_of p (unread ++ left) ≡ rest_of p (unread ++ []))
ahead_at_end p unread None ends = tt
ahead_at_end p unread (Some bytes) ends = ap (λ (left : List ℕ). rest_of p (unread ++ left)) ends

pub over_at_end : (p : Progress) (at : ℕ) (unread : List ℕ) (x : Option (List ℕ)) → IsAtEnd x → unread ≡ [] → position p ≤ at → IfSome x (λ left. end_behind p (unread ++ left) ≤ at)
over_at_end p at unread None ends none within = tt
over_at_end p at unread (Some bytes) ends none within =
    let all = end-all p in
    subst (λ (left : List ℕ). end_behind p (unread ++ left) ≤ at) (sym ends)
    (subst (λ (front : List ℕ). end_behind p (front ++ []) ≤ at) (sym none) (omega arith))

-- where nothing is unread and reading has not ended, no header and no frame is left of what was read
pub spent_due : (reading : Reading) → IsDue reading.progress → reading.unread ≡ [] → IsSpent reading
spent_due reading due none = record {
  unread = none;
  no_header = ap (λ (unread : List ℕ). (rest_of reading.progress (unread ++ [])).header) none ∙ no_header_due reading.progress due;
  no_frames = ap (λ (unread : List ℕ). (rest_of reading.progress (unread ++ [])).frames) none ∙ no_frames_due reading.progress due;
}

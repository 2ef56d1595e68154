-- Where reading ends is the same all along, and reading has not ended before it.
use Rattle.std.proofs.Common.{◌≡◌, ℕ, zero, suc, ◌+◌, ◌-◌, ◌≤◌, ◌<◌, cond, ltb, ◌&&◌, leb, Bool, true, false, List, [], ◌∷◌, ◌++◌, length, take, drop, Option, Some, None, sym, ap, subst, ◌∙◌, refl, arith, ⊎_elim, length-append, length-drop, append-nil, append_assoc}
use Rattle.std.proofs.Math.Seq.{drop-append-add}
use Rattle.std.proofs.lemmas.List.{length-take-le, take_all, drop-append-le, drop-drop}
use Rattle.std.proofs.lemmas.Bool.{and_parts, and_left, or_cases, not-true, leb-true, lt-leb, ltb-true, cases_lt, cond_both, cond-false, false≢true}
use Rattle.std.specs.Option.{option_map}
use Rattle.lamport_clocks.specs.declared.header.Header.{Header}
use Rattle.bundle_frames.specs.declared.found.Found.{Found}
use Rattle.bundle_frames.specs.declared.found.Found.TheVariants.{Nothing, Head, Frame, Bad}
use Rattle.bundle_frames.specs.Bundle.{Bundle, Frames, magic_bytes, version_in, header_bytes, header_bytes_in, header_numbers, header_in, head_bytes, head_length, is_head, frame_in, frame_bytes, frames_behind, frames_up_to, frames_from, bundle_of, bundle_behind}
use Rattle.bundle_frames.specs.Bundle as bundle
use Rattle.bundle_frames.specs.Progress.{Progress, meaning_at, rest_of, position, is_partial, is_bad, field_bytes}
use Rattle.bundle_frames.specs.Finds.{FindsIn, FindsNothing, progress_after}
use Rattle.bundle_frames.specs.Unfinished.{IsShort, IsUnfinished}
use Rattle.bundle_frames.specs.Extent.{end_in, end_behind, IsDue}
use Rattle.bundle_frames.proofs.HeaderLaws.{header_bytes-bounds, IsHeaderOf-from_header_in}
use Rattle.bundle_frames.proofs.FrontLaws.{header_bytes_in-front, head_length-front, is_head-front}
use Rattle.bundle_frames.proofs.BundleLaws.{frames_from-first}
use Rattle.bundle_frames.proofs.PartLaws.{held-rest, length-held}
use Rattle.bundle_frames.proofs.FindsLaws.{IsFrameOf-from_frame_in, rest-end, rest-found, rest-bad, is_partial-bad, field_bytes-front, is_bad-front, is_bad-after}

-- ---- where it ends

-- the fields that are bad are there
fields-there : (header : Option Header) (bytes : List ℕ) → is_bad header bytes ≡ true → field_bytes header bytes ≤ length bytes
fields-there None bytes bad = leb-true _ _ (and_parts _ _ bad).0
fields-there (Some header) bytes bad = leb-true _ _ (and_parts _ _ bad).0

some-fields : (header : Option Header) (bytes : List ℕ) → 0 < field_bytes header bytes
some-fields None bytes = let least = (header_bytes-bounds (version_in bytes)).0 in omega arith
some-fields (Some header) bytes = omega arith

-- no more is read than there is
pub end_in-within : (header : Option Header) (bad : Option ℕ) (bytes : List ℕ) → end_in header bad bytes ≤ length bytes
end_in-within header None bytes = omega arith
end_in-within header (Some at) bytes =
    cond_both (is_bad header (drop at bytes)) (at + field_bytes header (drop at bytes)) (length bytes) (λ end. end ≤ length bytes)
    (λ is. let there = fields-there header (drop at bytes) is in let some = some-fields header (drop at bytes) in omega (arith, length-drop at bytes))
    (λ is. omega arith)

-- the end lies above a number, if the bytes' end does and the end of what is bad
end_in-above : (header : Option Header) (first : ℕ) (bad : Option ℕ) (bytes : List ℕ) (n : ℕ) → n < first + length bytes
    → ((at : ℕ) → bad ≡ Some at → is_bad header (drop (at - first) bytes) ≡ true → n < first + (at - first + field_bytes header (drop (at - first) bytes)))
    → n < first + end_in header (option_map (λ at. at - first) bad) bytes
end_in-above header first None bytes n below above = below
end_in-above header first (Some at) bytes n below above =
    cond_both (is_bad header (drop (at - first) bytes)) (at - first + field_bytes header (drop (at - first) bytes)) (length bytes) (λ end. n < first + end)
    (λ is. above at refl is) (λ is. below)

cond-moved : (b : Bool) (x y x' y' first next : ℕ) → first + x ≡ next + x' → first + y ≡ next + y' → first + cond b x y ≡ next + cond b x' y'
cond-moved true x y x' y' first next here there = here
cond-moved false x y x' y' first next here there = there

-- the end is the same from a later byte on, if nothing before that is bad
pub end_in-moved : (header : Option Header) (first k : ℕ) (bad : Option ℕ) (bytes : List ℕ) → k ≤ length bytes → ((at : ℕ) → bad ≡ Some at → first + k ≤ at)
    → first + end_in header (option_map (λ at. at - first) bad) bytes ≡ first + k + end_in header (option_map (λ at. at - (first + k)) bad) (drop k bytes)
end_in-moved header first k None bytes within later = omega (arith, length-drop k bytes)
end_in-moved header first k (Some at) bytes within later =
    let behind = later at refl in
    let size = length-drop k bytes in
    let more : k + (at - (first + k)) ≡ at - first = omega arith in
    let same : drop (at - (first + k)) (drop k bytes) ≡ drop (at - first) bytes = drop-drop (at - (first + k)) k bytes ∙ ap (λ n. drop n bytes) more in
    let fields = field_bytes header (drop (at - first) bytes) in
    cond-moved (is_bad header (drop (at - first) bytes)) (at - first + fields) (length bytes) (at - (first + k) + fields) (length (drop k bytes)) first (first + k) (omega arith) (omega arith)
    ∙ ap (λ (front : List ℕ). first + k + cond (is_bad header front) (at - (first + k) + field_bytes header front) (length (drop k bytes))) (sym same)

-- ---- what is bad

frames_behind-bad : (offset : ℕ) (frame : Option bundle.Frame) (more : bundle.Frame → Frames) (at : ℕ) → ((f : bundle.Frame) → (more f).bad ≡ Some at → offset ≤ at)
    → (frames_behind offset frame more).bad ≡ Some at → offset ≤ at
frames_behind-bad offset None more at later is = let same : offset ≡ at = cc in omega arith
frames_behind-bad offset (Some frame) more at later is = later frame is

-- a frame that is bad does not begin before the first
pub frames_up_to-bad : (count verifiers offset : ℕ) (bytes : List ℕ) (at : ℕ) → (frames_up_to count verifiers offset bytes).bad ≡ Some at → offset ≤ at
unfolding frames_up_to
frames_up_to-bad zero verifiers offset bytes at is = absurd (cc)
frames_up_to-bad (suc count) verifiers offset [] at is = absurd (cc)
frames_up_to-bad (suc count) verifiers offset (byte ∷ bytes) at is =
    frames_behind-bad offset (frame_in verifiers (byte ∷ bytes)) _ at
    (λ f found. let later = frames_up_to-bad count verifiers (offset + frame_bytes f) (drop (frame_bytes f) (byte ∷ bytes)) at found in omega arith) is

-- what is bad behind a header does not begin before the progress
rest_of-bad : (p : Progress) (header : Header) (left : List ℕ) (at : ℕ) → p.header ≡ Some header → (rest_of p left).bad ≡ Some at → p.offset ≤ at
rest_of-bad p header left at known is =
    frames_up_to-bad (length (p.held ++ left)) header.verifiers p.offset (p.held ++ left) at
    (ap (λ (h : Option Header). (meaning_at h p.offset (p.held ++ left)).bad) (sym known) ∙ is)

-- ---- reading on

rest-taken : (held piece more : List ℕ) (n : ℕ) → n ≤ length piece → drop (length held + n) (held ++ (piece ++ more)) ≡ drop n piece ++ more
rest-taken held piece more n within = drop-append-add held (piece ++ more) n ∙ drop-append-le n piece more within

-- what is left where a header or a frame was found and nothing else is held yet
moved-on : (p q : Progress) (header : Header) (piece more : List ℕ) (n : ℕ) → n ≤ length piece → q.header ≡ Some header → q.held ≡ [] → q.offset ≡ p.offset + (length p.held + n)
    → (rest_of p (piece ++ more)).header ≡ (rest_of q (drop n piece ++ more)).header
    → (rest_of p (piece ++ more)).bad ≡ (rest_of q (drop n piece ++ more)).bad
    → end_behind p (piece ++ more) ≡ end_behind q (drop n piece ++ more)
moved-on p q header piece more n within known empty next same_header same_bad =
    let bytes = p.held ++ (piece ++ more) in
    let size = length-append p.held (piece ++ more) in
    let size' = length-append piece more in
    let bad = (rest_of q (drop n piece ++ more)).bad in
    ap (λ (h : Option Header). p.offset + end_in h (option_map (λ at. at - p.offset) (rest_of p (piece ++ more)).bad) bytes) same_header
    ∙ ap (λ (b : Option ℕ). p.offset + end_in (rest_of q (drop n piece ++ more)).header (option_map (λ at. at - p.offset) b) bytes) same_bad
    ∙ end_in-moved (rest_of q (drop n piece ++ more)).header p.offset (length p.held + n) bad bytes (omega arith)
    (λ at is. let later = rest_of-bad q header (drop n piece ++ more) at known is in omega arith)
    ∙ ap (λ (k : ℕ). k + end_in (rest_of q (drop n piece ++ more)).header (option_map (λ at. at - k) bad) (drop (length p.held + n) bytes)) (sym next)
    ∙ ap (λ (left : List ℕ). q.offset + end_in (rest_of q (drop n piece ++ more)).header (option_map (λ at. at - q.offset) bad) left)
    (rest-taken p.held piece more n within ∙ ap (λ (held : List ℕ). held ++ (drop n piece ++ more)) (sym empty))

-- what is left where the bytes that were taken are held
held-on : (header : Option Header) (offset : ℕ) (held body piece more : List ℕ) (n : ℕ)
    → end_behind (record { header = header; offset = offset; held = held; body = body }) (piece ++ more)
    ≡ end_behind (record { header = header; offset = offset; held = held ++ take n piece; body = [] }) (drop n piece ++ more)
held-on header offset held body piece more n =
    ap (λ (bytes : List ℕ). offset + end_in (meaning_at header offset bytes).header (option_map (λ at. at - offset) (meaning_at header offset bytes).bad) bytes)
    (sym (append_assoc held piece more) ∙ ap (λ bytes. bytes ++ more) (held-rest held piece n) ∙ append_assoc (held ++ take n piece) (drop n piece) more)

-- Whatever follows the piece, reading ends at the same offset after an answer.
pub end-kept : (header : Option Header) (offset : ℕ) (held body piece : List ℕ) (n : ℕ) (found : Found) → FindsIn header offset held piece n found → n ≤ length piece
    → (header ≡ None → offset ≡ 0) → (more : List ℕ)
    → end_behind (record { header = header; offset = offset; held = held; body = body }) (piece ++ more)
    ≡ end_behind (progress_after (record { header = header; offset = offset; held = held; body = body }) (take n piece) found) (drop n piece ++ more)
end-kept header offset held body piece n Nothing finds within start more = held-on header offset held body piece more n
end-kept header offset held body piece n (Bad at) finds within start more = held-on header offset held body piece more n
end-kept None offset held body piece n (Head found) finds within start more =
    let rest = rest-found None offset held body piece more n (Head found) finds within in
    let zero_is = start refl in
    let size = finds.size in
    moved-on (record { header = None; offset = offset; held = held; body = body }) (record { header = Some found; offset = header_bytes found.version; held = []; body = [] }) found piece more n within refl refl
    (omega arith) (ap (λ (b : Bundle). b.header) rest) (ap (λ (b : Bundle). b.bad) rest)
end-kept (Some header) offset held body piece n (Head found) finds within start more = absurd (let due = finds.due in cc)
end-kept None offset held body piece n (Frame verifier) finds within start more = absurd finds
end-kept (Some header) offset held body piece n (Frame verifier) finds within start more =
    let rest = rest-found (Some header) offset held body piece more n (Frame verifier) finds within in
    let p : Progress = record { header = Some header; offset = offset; held = held; body = body } in
    moved-on p (progress_after p (take n piece) (Frame verifier)) header piece more n within refl refl
    (omega (arith, length-take-le n piece within)) (ap (λ (b : Bundle). b.header) rest) (ap (λ (b : Bundle). b.bad) rest)

-- reading has not ended where nothing bad was found
pub due-after : (header : Option Header) (offset : ℕ) (held body piece : List ℕ) (n : ℕ) (found : Found) → FindsIn header offset held piece n found
    → (header ≡ None → offset ≡ 0) → ((at : ℕ) → found ≡ Bad at → ⊥)
    → IsDue (progress_after (record { header = header; offset = offset; held = held; body = body }) (take n piece) found)
due-after header offset held body piece n Nothing finds start other =
    let all : take n piece ≡ piece = take_all n piece (let all = finds.all in omega arith) in
    record { partial = ap (λ bytes. is_partial header (held ++ bytes)) all ∙ finds.partial; at_start = start }
due-after header offset held body piece n (Head found) finds start other = record { partial = refl; at_start = λ none. absurd (cc) }
due-after None offset held body piece n (Frame verifier) finds start other = absurd finds
due-after (Some header) offset held body piece n (Frame verifier) finds start other = record { partial = refl; at_start = λ none. absurd (cc) }
due-after header offset held body piece n (Bad at) finds start other = absurd (other at refl)

-- behind what is bad reading has ended, whatever follows
pub end-bad : (header : Option Header) (offset : ℕ) (held body piece : List ℕ) (n : ℕ) (found : Found) (at : ℕ) → FindsIn header offset held piece n found → n ≤ length piece
    → (header ≡ None → offset ≡ 0) → found ≡ Bad at → (more : List ℕ)
    → (let q = progress_after (record { header = header; offset = offset; held = held; body = body }) (take n piece) found in end_behind q more ≡ position q)
end-bad header offset held body piece n Nothing at finds within start is more = absurd (cc)
end-bad header offset held body piece n (Head found) at finds within start is more = absurd (cc)
end-bad header offset held body piece n (Frame verifier) at finds within start is more = absurd (cc)
end-bad header offset held body piece n (Bad at') at finds within start is more =
    let now = held ++ take n piece in
    let bad = is_bad-after header held piece n finds.1 within in
    let rest = rest-bad header offset now more bad start in
    let none : offset - offset ≡ 0 = omega arith in
    let here : is_bad header (drop (offset - offset) (now ++ more)) ≡ true = ap (λ k. is_bad header (drop k (now ++ more))) none ∙ is_bad-front header now more bad in
    let size = length-held held piece n within in
    let there = fields-there header now bad in
    let fields : field_bytes header (drop (offset - offset) (now ++ more)) ≡ length held + n =
    ap (λ k. field_bytes header (drop k (now ++ more))) none ∙ field_bytes-front header now more there
    ∙ sym (finds.1.size ∙ ap (field_bytes header) (held-rest held piece n) ∙ field_bytes-front header now (drop n piece) there) in
    ap (λ (b : Bundle). offset + end_in b.header (option_map (λ at. at - offset) b.bad) (now ++ more)) rest
    ∙ ap (λ (b : Bool). offset + cond b (offset - offset + field_bytes header (drop (offset - offset) (now ++ more))) (length (now ++ more))) here
    ∙ omega arith

-- where no byte is left reading has ended
pub end-all : (p : Progress) → end_behind p [] ≤ position p
end-all p =
    let rest = rest_of p [] in
    let within = end_in-within rest.header (option_map (λ at. at - p.offset) rest.bad) (p.held ++ []) in
    let size = ap length (append-nil p.held) in
    omega arith

-- ---- before the end

-- bytes that are no whole header are none, whatever follows
partial-front : (held left : List ℕ) → length held < header_bytes_in held → length held < header_bytes_in (held ++ left)
partial-front held left short =
    ⊎_elim (λ less. let least = (header_bytes-bounds (version_in (held ++ left))).0 in omega arith)
    (λ there. let same = header_bytes_in-front held left there in omega arith) (cases_lt (length held) magic_bytes)

header-due : (header : Option Header) (first : ℕ) (bytes : List ℕ) (n : ℕ) → header_in bytes ≡ header → first ≡ 0 → n < header_bytes_in bytes → n < length bytes
    → first + n < first + end_in (bundle_behind header bytes).header (option_map (λ at. at - first) (bundle_behind header bytes).bad) bytes
header-due None first bytes n is start short below =
    end_in-above None first (Some 0) bytes (first + n) (omega arith)
    (λ at same bad. let none : at - first ≡ 0 = cc in let here = ap (λ k. header_bytes_in (drop k bytes)) none in omega arith)
header-due (Some header) first bytes n is start short below =
    let size = (IsHeaderOf-from_header_in bytes header is).size in
    let rest = drop (header_bytes header.version) bytes in
    end_in-above (Some header) first (frames_from header.verifiers (header_bytes header.version) rest).bad bytes (first + n) (omega arith)
    (λ at same bad. let later = frames_up_to-bad (length rest) header.verifiers (header_bytes header.version) rest at same in omega arith)

-- a head that is not whole, or is good, with less than its body
frame-part : (header : Header) (held : List ℕ) → is_partial (Some header) held ≡ true → head_bytes ≤ length held → (is_head header.verifiers held ≡ true) × (length held < head_bytes + head_length held)
frame-part header held partial long =
    ⊎_elim (λ short. let less : length held < head_bytes = ltb-true _ _ short in absurd (omega arith))
    (λ part. let parts = and_parts _ _ part in (parts.0, ltb-true _ _ parts.1))
    (or_cases (ltb (length held) head_bytes) (is_head header.verifiers held && ltb (length held) (head_bytes + head_length held)) partial)

frame-due : (header : Header) (offset : ℕ) (held left : List ℕ) (frame : Option bundle.Frame) (more : bundle.Frame → Frames) → is_partial (Some header) held ≡ true → 0 < length left
    → frame_in header.verifiers (held ++ left) ≡ frame
    → ((f : bundle.Frame) (at : ℕ) → (more f).bad ≡ Some at → offset + frame_bytes f ≤ at)
    → offset + length held < offset + end_in (Some header) (option_map (λ at. at - offset) (frames_behind offset frame more).bad) (held ++ left)
frame-due header offset held left None more partial some is later =
    let bytes = held ++ left in
    let size = length-append held left in
    end_in-above (Some header) offset (Some offset) bytes (offset + length held) (omega arith)
    (λ at same bad.
    let at_is : offset ≡ at = cc in
    let none : at - offset ≡ 0 = omega arith in
    let here : is_bad (Some header) bytes ≡ true = ap (λ k. is_bad (Some header) (drop k bytes)) (sym none) ∙ bad in
    ⊎_elim (λ short. omega arith)
    (λ long. absurd (false≢true (sym (not-true _ (and_parts _ _ here).1) ∙ (is_head-front header.verifiers held left long ∙ (frame-part header held partial long).0))))
    (cases_lt (length held) head_bytes))
frame-due header offset held left (Some frame) more partial some is later =
    let bytes = held ++ left in
    let size = length-append held left in
    end_in-above (Some header) offset (more frame).bad bytes (offset + length held) (omega arith)
    (λ at found bad.
    let behind = later frame at found in
    ⊎_elim (λ short. omega arith)
    (λ long.
    let part = (frame-part header held partial long).1 in
    let same = head_length-front held left long in
    let facts = IsFrameOf-from_frame_in header.verifiers bytes frame is in
    let there = facts.there in
    let body = ap length facts.body in
    let rest = length-drop head_bytes bytes in
    let body_is = length-take-le (head_length bytes) (drop head_bytes bytes) (omega arith) in
    omega arith)
    (cases_lt (length held) head_bytes))

due-parts : (header : Option Header) (offset : ℕ) (held body left : List ℕ) → is_partial header held ≡ true → (header ≡ None → offset ≡ 0) → 0 < length left
    → offset + length held < end_behind (record { header = header; offset = offset; held = held; body = body }) left
due-parts None offset held body left partial start some =
    let size = length-append held left in
    header-due (header_in (held ++ left)) offset (held ++ left) (length held) refl (start refl) (partial-front held left (ltb-true _ _ partial)) (omega arith)
due-parts (Some header) offset held body left partial start some =
    let bytes = held ++ left in
    let size = length-append held left in
    let more : bundle.Frame → Frames = λ f. frames_from header.verifiers (offset + frame_bytes f) (drop (frame_bytes f) bytes) in
    let Below : Frames → Type 0 = λ frames. offset + length held < offset + end_in (Some header) (option_map (λ at. at - offset) frames.bad) bytes in
    subst Below (sym (frames_from-first header.verifiers offset bytes (omega arith)))
    (frame-due header offset held left (frame_in header.verifiers bytes) more partial some refl
    (λ f at is. frames_up_to-bad (length (drop (frame_bytes f) bytes)) header.verifiers (offset + frame_bytes f) (drop (frame_bytes f) bytes) at is))

-- While reading has not ended, and a byte is left, its end lies behind what was taken.
pub due-before : (p : Progress) (left : List ℕ) → IsDue p → 0 < length left → position p < end_behind p left
due-before p left due some = due-parts p.header p.offset p.held p.body left due.partial due.at_start some

-- ---- a piece that was fed

-- after an answer, reading ends where it did
pub extent_fed : (old new : Progress) (piece : List ℕ) (n : ℕ) (found : Found) → IsDue old → FindsIn old.header old.offset old.held piece n found → n ≤ length piece
    → new ≡ progress_after old (take n piece) found
    → (more : List ℕ) → end_behind old (piece ++ more) ≡ end_behind new (drop n piece ++ more)
extent_fed old new piece n found due finds within after more =
    end-kept old.header old.offset old.held old.body piece n found finds within due.at_start more ∙ ap (λ (q : Progress). end_behind q (drop n piece ++ more)) (sym after)

-- and where something bad was found, there it ends, whatever follows
pub over_fed : (old new : Progress) (piece : List ℕ) (n : ℕ) (found : Found) (at : ℕ) → IsDue old → FindsIn old.header old.offset old.held piece n found → n ≤ length piece
    → new ≡ progress_after old (take n piece) found → found ≡ Bad at
    → (more : List ℕ) → end_behind new more ≡ position new
over_fed old new piece n found at due finds within after is more =
    subst (λ (q : Progress). end_behind q more ≡ position q) (sym after) (end-bad old.header old.offset old.held old.body piece n found at finds within due.at_start is more)

-- reading has not ended after what was found, unless that is bad
pub due_fed : (old new : Progress) (piece : List ℕ) (n : ℕ) (found : Found) → IsDue old → FindsIn old.header old.offset old.held piece n found
    → new ≡ progress_after old (take n piece) found → ((at : ℕ) → found ≡ Bad at → ⊥) → IsDue new
due_fed old new piece n found due finds after other =
    subst IsDue (sym after) (due-after old.header old.offset old.held old.body piece n found finds due.at_start other)

-- and what is bad is read no further
pub due_good : (p : Progress) → IsDue p → is_bad p.header p.held ≡ true → ⊥
due_good p due bad = false≢true (sym (is_partial-bad p.header p.held bad) ∙ due.partial)

-- ---- what is not whole

some-same : {A : Type 0} (x y : A) → Some x ≡ Some y → x ≡ y
some-same x y is = cc

-- a part of a header or a frame is not whole
unfinished-partial : (header : Option Header) (held : List ℕ) → is_partial header held ≡ true → IsUnfinished header held
unfinished-partial None held partial =
    let short : length held < header_bytes_in held = ltb-true _ _ partial in
    record {
      short_header = λ _. omega arith;
      no_header = λ _. cond-false _ _ _ (and_left (leb (header_bytes_in held) (length held)) _ (lt-leb _ _ short));
      short_frame = λ h is. absurd (cc);
    }
unfinished-partial (Some header) held partial =
    record {
      short_header = λ is. absurd (cc);
      no_header = λ is. absurd (cc);
      short_frame = λ h is.
          subst (λ (known : Header). IsShort known held) (some-same header h is)
          (record { head = λ more. (frame-part header held partial (omega arith)).0; body = λ more. (frame-part header held partial (omega arith)).1 });
    }

-- nor is what was held with a piece that was taken whole
pub unfinished-nothing : (header : Option Header) (held piece : List ℕ) (n : ℕ) → FindsNothing header held piece n → IsUnfinished header (held ++ take n piece)
unfinished-nothing header held piece n finds =
    subst (λ (front : List ℕ). IsUnfinished header (held ++ front)) (sym (take_all n piece (omega (arith, finds.all)))) (unfinished-partial header (held ++ piece) finds.partial)

-- while reading has not ended, no header and no frame is left in the bytes that were taken
pub no_header_due : (p : Progress) → IsDue p → (rest_of p []).header ≡ p.header
no_header_due p due =
    ap (λ (b : Bundle). b.header) (rest-end p.header p.offset p.held (unfinished-partial p.header p.held due.partial) due.at_start)

pub no_frames_due : (p : Progress) → IsDue p → (rest_of p []).frames ≡ []
no_frames_due p due =
    ap (λ (b : Bundle). b.frames) (rest-end p.header p.offset p.held (unfinished-partial p.header p.held due.partial) due.at_start)

-- What was taken of a source into a buffer, and what its bytes tell of the seal that the source begins with.
use Rattle.std.proofs.Common.{◌≡◌, ◌≢◌, ℕ, ◌+◌, ◌-◌, ◌<◌, ◌≤◌, List, [], ◌∷◌, ◌++◌, length, take, Option, Some, None, Ok, Err, IfSome, ◌*◌, ⊎_elim, refl, sym, ◌∙◌, ap, subst, arith, append_assoc, append-nil, length-append}
use Rattle.std.proofs.lemmas.List.{take-take, length-take-le}
use Rattle.std.proofs.lemmas.Slice.{take-put_mid}
use Rattle.std.proofs.Math.Seq.{take-append-add, take-append_seam}
use Rattle.std.proofs.lemmas.Bool.{cases_lt}
use Rattle.std.specs.Io.KnownBytes.{Consumes, IsAtEnd, Keeps}
use borrow.Rule.Slice.PartMut.{put_mid}
use Rattle.fv_outside.specs.Consumed.{TookAtMost, TookJust, most_behind}
use Rattle.record_hash.specs.Functions.{DigestFunctions}
use Rattle.record_text.specs.declared.reader.TextFault.TheVariants.{Malformed, Truncated}
use Rattle.record_text.specs.Fields.{KeepsOn}
use Rattle.seals.specs.Seal.{seal_at, seal_text, tag_bytes, IsGoodSeal}
use Rattle.seals.specs.State.{Seal}
use Rattle.seals.specs.Answer.{IsUntagged}
use Rattle.check_core.specs.Resuming.{HasNoSeal, SpellsSeal}

-- ---- a room that is filled

-- what was read behind so many bytes of a room
pub read_behind : (at size count : ℕ) (room more : List ℕ) → at ≤ length room → count ≤ length more
    → take (at + count) (put_mid at size room more) ≡ take at room ++ take count more
read_behind at size count room more within some =
    let front = length-take-le at room within in
    sym (take-take (at + count) (at + length more) (put_mid at size room more) (omega arith))
    ∙ ap (take (at + count)) (take-put_mid at size room more (at + length more) refl within)
    ∙ ap (λ (k : ℕ). take (k + count) (take at room ++ more)) (sym front)
    ∙ take-append-add (take at room) more count

-- ---- what was taken

-- nothing was taken
pub Consumes-none : (x : Option (List ℕ)) → Consumes x x []
Consumes-none None = tt
Consumes-none (Some bytes) = refl

-- one piece, and another behind it
pub Consumes-then : (x y z : Option (List ℕ)) (front more : List ℕ) → Consumes x y front → Consumes y z more → Consumes x z (front ++ more)
Consumes-then None y z front more first second = tt
Consumes-then (Some bytes) None z front more first second = absurd first
Consumes-then (Some bytes) (Some rest) None front more first second = absurd second
Consumes-then (Some bytes) (Some rest) (Some left) front more first second =
    first ∙ ap (λ (r : List ℕ). front ++ r) second ∙ sym (append_assoc front more left)

pub took_at_most : (most : ℕ) (x y : Option (List ℕ)) (front : List ℕ) → Consumes x y front → length front ≤ most → TookAtMost most x y
took_at_most most None y front read within = tt
took_at_most most (Some bytes) None front read within = absurd read
took_at_most most (Some bytes) (Some rest) front read within = omega (arith, ap length read, length-append front rest)

-- nothing more was taken, where a read failed
pub took_kept : (most : ℕ) (x y z : Option (List ℕ)) (front : List ℕ) → Consumes x y front → Keeps y z → length front ≤ most → TookAtMost most x z
took_kept most None y z front read kept within = tt
took_kept most (Some bytes) None z front read kept within = absurd read
took_kept most (Some bytes) (Some rest) None front read kept within = absurd kept
took_kept most (Some bytes) (Some rest) (Some left) front read kept within =
    omega (arith, ap length read, length-append front rest, ap length kept)

pub took_none : (most : ℕ) (x : Option (List ℕ)) → TookAtMost most x x
took_none most None = tt
took_none most (Some bytes) = omega arith

pub took_within : (few most : ℕ) (x y : Option (List ℕ)) → few ≤ most → TookAtMost few x y → TookAtMost most x y
took_within few most None y below took = tt
took_within few most (Some bytes) None below took = absurd took
took_within few most (Some bytes) (Some rest) below took = omega (arith, took)

-- so many bytes, and then no more than so many
pub took_then : (most : ℕ) (x y z : Option (List ℕ)) (front : List ℕ) (more : ℕ) → Consumes x y front → TookAtMost more y z
    → length front + more ≤ most → TookAtMost most x z
took_then most None y z front more read took within = tt
took_then most (Some bytes) None z front more read took within = absurd read
took_then most (Some bytes) (Some rest) None front more read took within = absurd took
took_then most (Some bytes) (Some rest) (Some left) front more read took within =
    omega (arith, ap length read, length-append front rest, took)

-- so many bytes, and then one
pub took_one : (count : ℕ) (x y z : Option (List ℕ)) (front : List ℕ) → Consumes x y front → TookJust 1 y z → length front ≡ count
    → TookJust (count + 1) x z
took_one count None y z front read took is = tt
took_one count (Some bytes) None z front read took is = absurd read
took_one count (Some bytes) (Some rest) None front read took is = absurd took
took_one count (Some bytes) (Some rest) (Some left) front read took is = omega (arith, ap length read, length-append front rest, took)

pub took_past : (count : ℕ) (x y : Option (List ℕ)) → TookJust count x y → TookAtMost count x y
took_past count None y took = tt
took_past count (Some bytes) None took = absurd took
took_past count (Some bytes) (Some rest) took = omega (arith, took)

-- ---- what the bytes that were taken tell of all

-- they are no seal
pub bad_front : KeepsOn seal_at → (x y : Option (List ℕ)) (front : List ℕ) → Consumes x y front → seal_at front ≡ Err Malformed → IfSome x HasNoSeal
bad_front keeps None y front read bad = tt
bad_front keeps (Some bytes) None front read bad = absurd read
bad_front keeps (Some bytes) (Some rest) front read bad = subst HasNoSeal (sym read) (Malformed, keeps.malformed front rest bad)

-- they end where a seal doesn't
pub cut_front : (x y : Option (List ℕ)) (front : List ℕ) → Consumes x y front → IsAtEnd y → seal_at front ≡ Err Truncated → IfSome x HasNoSeal
cut_front None y front read end cut = tt
cut_front (Some bytes) None front read end cut = absurd read
cut_front (Some bytes) (Some rest) front read end cut =
    subst HasNoSeal (sym (append-nil front) ∙ ap (λ (r : List ℕ). front ++ r) (sym end) ∙ sym read) (Truncated, cut)

-- their tag is another
pub untagged_front : (functions : DigestFunctions) → ((bytes more : List ℕ) → IsUntagged functions bytes → IsUntagged functions (bytes ++ more))
    → (x y : Option (List ℕ)) (front : List ℕ) → Consumes x y front → IsUntagged functions front → IfSome x (IsUntagged functions)
untagged_front functions keeps None y front read other = tt
untagged_front functions keeps (Some bytes) None front read other = absurd read
untagged_front functions keeps (Some bytes) (Some rest) front read other = subst (IsUntagged functions) (sym read) (keeps front rest other)

-- ---- what was read is too short to be a seal

-- the bytes may be a seal only if that is longer than so many
abbrev pub IsCut : ℕ → Option (List ℕ) → Type 0
IsCut until x = IfSome x (λ bytes. (count : ℕ) → SpellsSeal count bytes → until < count)

-- at first
pub cut-none : (x : Option (List ℕ)) → IsCut 0 x
cut-none None = tt
cut-none (Some bytes) = λ count spelled. omega (arith, spelled.counted)

-- what begins with a seal is read as one
no_seal_in : ((seal : Seal) (tag rest : List ℕ) → IsGoodSeal seal → length tag ≡ tag_bytes → seal_at (seal_text seal ++ tag ++ rest) ≡ Ok ((seal, tag), rest))
    → (front rest : List ℕ) (count : ℕ) → SpellsSeal count (front ++ rest) → count ≤ length front → seal_at front ≡ Err Truncated → ⊥
no_seal_in read front rest count spelled within cut =
    let text = seal_text spelled.seal in
    let tag = spelled.tag in
    let behind = length front - count in
    let size : length (text ++ tag) ≡ count = omega (arith, length-append text tag, spelled.counted, spelled.long) in
    let long : length front ≡ length (text ++ tag) + behind = omega (arith, size, within) in
    let is : front ≡ text ++ tag ++ take behind spelled.more =
    sym (take-append_seam front rest)
    ∙ ap (take (length front)) spelled.spelled
    ∙ ap (λ (k : ℕ). take k (text ++ tag ++ spelled.more)) long
    ∙ take-append-add (text ++ tag) spelled.more behind in
    let found = read spelled.seal tag (take behind spelled.more) spelled.good spelled.long in
    let both = sym (ap seal_at is ∙ found) ∙ cut in
    cc (both)

-- where more was read that isn't one either
pub cut-more : ((seal : Seal) (tag rest : List ℕ) → IsGoodSeal seal → length tag ≡ tag_bytes → seal_at (seal_text seal ++ tag ++ rest) ≡ Ok ((seal, tag), rest))
    → (until : ℕ) (x y : Option (List ℕ)) (front : List ℕ) → Consumes x y front → length front ≡ until → seal_at front ≡ Err Truncated → IsCut until x
cut-more read until None y front took size cut = tt
cut-more read until (Some bytes) None front took size cut = absurd took
cut-more read until (Some bytes) (Some rest) front took size cut = λ count spelled.
    ⊎_elim (λ less. less)
    (λ more. absurd (no_seal_in read front rest count (subst (SpellsSeal count) took spelled) (omega (arith, more, size)) cut))
    (cases_lt until count)

-- so no more was taken than the rest of one read, and as many bytes as a seal has
pub near_by : (until size : ℕ) (x y : Option (List ℕ)) → IsCut until x → TookAtMost size x y → size ≤ 2 * until + 65536
    → IfSome x (λ bytes. (count : ℕ) → SpellsSeal count bytes → TookAtMost (count + (count + most_behind)) x y)
near_by until size None y cut took half = tt
near_by until size (Some bytes) y cut took half = λ count spelled.
    let less = cut count spelled in
    took_within size (count + (count + 65535)) (Some bytes) y (omega (arith, less, half)) took

-- and within a seal no more than that has
pub short_by : (until size : ℕ) (x y : Option (List ℕ)) → IsCut until x → TookAtMost size x y → size ≤ until + 1
    → IfSome x (λ bytes. (count : ℕ) → SpellsSeal count bytes → TookAtMost count x y)
short_by until size None y cut took half = tt
short_by until size (Some bytes) y cut took half = λ count spelled.
    let less = cut count spelled in
    took_within size count (Some bytes) y (omega (arith, less, half)) took

-- what stands in a buffer whose whole room was written
pub whole_room : (size : ℕ) (room rest : List ℕ) → length room ≡ size → take size (room ++ rest) ≡ room
whole_room size room rest is = ap (λ (k : ℕ). take k (room ++ rest)) (sym is) ∙ take-append_seam room rest

-- a source that is at its end and gave nothing was there before
pub at_end_before : (x y : Option (List ℕ)) → IsAtEnd y → TookAtMost 0 x y → IsAtEnd x
at_end_before None y end took = tt
at_end_before (Some bytes) None end took = absurd took
at_end_before (Some []) (Some rest) end took = refl
at_end_before (Some (byte ∷ bytes)) (Some rest) end took = absurd (omega (arith, took, ap length end))

-- Reading on: what was read in steps, and what it means.
use Rattle.std.proofs.Common.{◌≡◌, ℕ, ◌+◌, ◌-◌, ◌≤◌, ◌<◌, List, ◌++◌, length, take, drop, Option, Some, None, IfSome, sym, ap, subst, ◌∙◌, refl, arith, ⊎_elim, length-drop, append_assoc}
use Rattle.std.proofs.Math.Seq.{take-add}
use Rattle.std.proofs.lemmas.List.{drop-drop, take-append-drop}
use Rattle.std.proofs.lemmas.Bool.{cases_lt}
use Rattle.std.specs.Option.{option_map}
use Rattle.lamport_clocks.specs.declared.header.Header.{Header}
use Rattle.fv_outside.specs.Consumed.{StopsAtEnd, TookAtMost, TookJust, TookToEnd, most_behind}
use Rattle.fv_outside.specs.declared.failure.Failure.{Failure}
use Rattle.fv_outside.specs.declared.failure.Failure.TheVariants.{Memory, ReadFault, InputLimit, VaultFault, WriteFault}
use Rattle.bundle_frames.specs.Bundle.{bundle_of}
use Rattle.bundle_frames.specs.Extent.{end_in, reading_end, IsDue}
use Rattle.bundle_frames.specs.Reading.{opening_reading, end_ahead, HasRead, ReadsAs}

-- ---- how much was read

pub HasRead-none : (n : ℕ) (x : Option (List ℕ)) → n ≡ 0 → HasRead n x x
HasRead-none n None none = tt
HasRead-none n (Some bytes) none = (omega arith, sym (ap (λ (k : ℕ). drop k bytes) none))

pub HasRead-then : (a b n : ℕ) (x y z : Option (List ℕ)) → HasRead a x y → HasRead b y z → n ≡ a + b → HasRead n x z
HasRead-then a b n None y z first second sum = tt
HasRead-then a b n (Some bytes) None z first second sum = absurd first
HasRead-then a b n (Some bytes) (Some rest) None first second sum = absurd second
HasRead-then a b n (Some bytes) (Some rest) (Some more) first second sum =
    let size = ap length first.1 in
    let size' = length-drop a bytes in
    (omega (arith, first.0, second.0), second.1 ∙ ap (drop b) first.1 ∙ drop-drop b a bytes ∙ ap (λ (k : ℕ). drop k bytes) (sym sum))

pub TookJust-from_read : (n : ℕ) (x y : Option (List ℕ)) → HasRead n x y → TookJust n x y
TookJust-from_read n None y read = tt
TookJust-from_read n (Some bytes) None read = absurd read
TookJust-from_read n (Some bytes) (Some rest) read = omega (arith, read.0, ap length read.1, length-drop n bytes)

pub TookAtMost-from_read : (n most : ℕ) (x y : Option (List ℕ)) → HasRead n x y → n ≤ most → TookAtMost most x y
TookAtMost-from_read n most None y read below = tt
TookAtMost-from_read n most (Some bytes) None read below = absurd read
TookAtMost-from_read n most (Some bytes) (Some rest) read below = omega (arith, read.0, ap length read.1, length-drop n bytes)

-- ---- what it means

-- where nothing was read
pub ReadsAs-none : {A : Type 0} (n : ℕ) (x : Option (List ℕ)) (f g : List ℕ → A) → n ≡ 0 → ((more : List ℕ) → f more ≡ g more) → ReadsAs n x f g
ReadsAs-none n None f g none same = tt
ReadsAs-none n (Some bytes) f g none same = λ more. ap (λ (k : ℕ). f (take k bytes ++ more)) none ∙ same more

-- one step after another
pub ReadsAs-then : {A : Type 0} (a b n : ℕ) (x y : Option (List ℕ)) (f g h : List ℕ → A) → HasRead a x y → ReadsAs a x f g → ReadsAs b y g h → n ≡ a + b → ReadsAs n x f h
ReadsAs-then a b n None y f g h read first second sum = tt
ReadsAs-then a b n (Some bytes) None f g h read first second sum = absurd read
ReadsAs-then a b n (Some bytes) (Some rest) f g h read first second sum = λ more.
    ap (λ (k : ℕ). f (take k bytes ++ more)) sum
    ∙ ap (λ (front : List ℕ). f (front ++ more)) (take-add a b bytes)
    ∙ ap f (append_assoc (take a bytes) (take b (drop a bytes)) more)
    ∙ first (take b (drop a bytes) ++ more)
    ∙ ap (λ (left : List ℕ). g (take b left ++ more)) (sym read.1)
    ∙ second more

-- a step that reads nothing
pub ReadsAs-kept : {A : Type 0} (n : ℕ) (x : Option (List ℕ)) (f g h : List ℕ → A) → ReadsAs n x f g → ((more : List ℕ) → g more ≡ h more) → ReadsAs n x f h
ReadsAs-kept n None f g h reads same = tt
ReadsAs-kept n (Some bytes) f g h reads same = λ more. reads more ∙ same more

-- what follows from what it means
pub ReadsAs-map : {A B : Type 0} (k : A → B) (n : ℕ) (x : Option (List ℕ)) (f g : List ℕ → A) → ReadsAs n x f g → ReadsAs n x (λ bytes. k (f bytes)) (λ more. k (g more))
ReadsAs-map k n None f g reads = tt
ReadsAs-map k n (Some bytes) f g reads = λ more. ap k (reads more)

-- what holds of the bytes that are left holds of all
pub ReadsAs-back : {A : Type 0} (P : A → Type 0) (n : ℕ) (x y : Option (List ℕ)) (f g : List ℕ → A) → HasRead n x y → ReadsAs n x f g
    → IfSome y (λ rest. P (g rest)) → IfSome x (λ bytes. P (f bytes))
ReadsAs-back P n None y f g read reads holds = tt
ReadsAs-back P n (Some bytes) None f g read reads holds = absurd read
ReadsAs-back P n (Some bytes) (Some rest) f g read reads holds =
    subst P (sym (reads rest) ∙ ap f (ap (λ (left : List ℕ). take n bytes ++ left) read.1 ∙ take-append-drop n bytes)) holds

-- ---- where reading ends

pub start-end : (header : Option Header) (bad : Option ℕ) (bytes : List ℕ) → end_in header bad bytes ≡ 0 + end_in header (option_map (λ at. at - 0) bad) bytes
start-end header None bytes = omega arith
start-end header (Some at) bytes =
    let same : at ≡ at - 0 = omega arith in
    let whole : (end : ℕ) → end ≡ 0 + end = λ end. omega arith in
    ap (λ (at' : ℕ). end_in header (Some at') bytes) same ∙ whole (end_in header (Some (at - 0)) bytes)

-- before anything is read
pub end_opening : (limit : ℕ) (bytes : List ℕ) → reading_end bytes ≡ end_ahead (opening_reading limit) bytes
end_opening limit bytes = start-end (bundle_of bytes).header (bundle_of bytes).bad bytes

pub due_opening : (limit : ℕ) → IsDue (opening_reading limit).progress
due_opening limit = record { partial = refl; at_start = λ none. refl }

-- what was read in two steps lies as near behind the end as the last step's does
pub near-then : (a b c d n : ℕ) (x y : Option (List ℕ)) (f g : List ℕ → ℕ) → HasRead n x y → ReadsAs n x f g → b ≤ c → d ≡ c
    → (a < b → IfSome x (λ bytes. b ≤ f bytes + most_behind)) → (b < c → IfSome y (λ bytes. c ≤ g bytes + most_behind))
    → a < d → IfSome x (λ bytes. d ≤ f bytes + most_behind)
near-then a b c d n x y f g read reads rises same first second more =
    ⊎_elim (λ less. ReadsAs-back (λ end. d ≤ end + most_behind) n x y f g read reads
    (subst (λ (k : ℕ). IfSome y (λ bytes. k ≤ g bytes + most_behind)) (sym same) (second less)))
    (λ none. let is : b ≡ d = omega arith in
    subst (λ (k : ℕ). IfSome x (λ bytes. k ≤ f bytes + most_behind)) is (first (omega arith)))
    (cases_lt b c)

-- however reading stops, no more was taken behind the end than the rest of one piece
pub stops_near : (n : ℕ) (x y : Option (List ℕ)) (f : List ℕ → ℕ) → HasRead n x y → (0 < n → IfSome x (λ bytes. n ≤ f bytes + most_behind)) → StopsAtEnd f x y
stops_near n None y f read near = tt
stops_near n (Some bytes) None f read near = absurd read
stops_near n (Some bytes) (Some rest) f read near =
    let size = ap length read.1 in
    let size' = length-drop n bytes in
    ⊎_elim (λ some. omega (arith, near some, read.0)) (λ none. omega arith) (cases_lt 0 n)

past_near : (limit : ℕ) (x : Option (List ℕ)) (f : List ℕ → ℕ) → IfSome x (λ bytes. limit < f bytes) → IfSome x (λ bytes. limit + 1 ≤ f bytes + most_behind)
past_near limit None f behind = tt
past_near limit (Some bytes) f behind = omega arith

-- the same where a reader stopped
pub stops_stopped : (stop : Failure) (n limit : ℕ) (x y : Option (List ℕ)) (f : List ℕ → ℕ) → ((stop ≡ InputLimit → ⊥) → HasRead n x y) → (stop ≡ InputLimit → HasRead (limit + 1) x y)
    → (0 < n → IfSome x (λ bytes. n ≤ f bytes + most_behind)) → (stop ≡ InputLimit → IfSome x (λ bytes. limit < f bytes)) → StopsAtEnd f x y
stops_stopped Memory n limit x y f read past near behind = stops_near n x y f (read (λ is. cc)) near
stops_stopped ReadFault n limit x y f read past near behind = stops_near n x y f (read (λ is. cc)) near
stops_stopped InputLimit n limit x y f read past near behind = stops_near (limit + 1) x y f (past refl) (λ some. past_near limit x f (behind refl))
stops_stopped VaultFault n limit x y f read past near behind = stops_near n x y f (read (λ is. cc)) near
stops_stopped WriteFault n limit x y f read past near behind = stops_near n x y f (read (λ is. cc)) near

-- and where the end lies within what was taken, all up to it was
pub took_to_end : (n : ℕ) (x y : Option (List ℕ)) (f g : List ℕ → ℕ) → HasRead n x y → ReadsAs n x f g → IfSome y (λ left. g left ≤ n) → TookToEnd f x y
took_to_end n None y f g read reads over = tt
took_to_end n (Some bytes) None f g read reads over = absurd read
took_to_end n (Some bytes) (Some rest) f g read reads over =
    let within = ReadsAs-back (λ end. end ≤ n) n (Some bytes) (Some rest) f g read reads over in
    omega (arith, within, read.0, ap length read.1, length-drop n bytes)

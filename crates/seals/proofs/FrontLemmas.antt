-- Seals as they are read: verifier by verifier, and the tag behind them.
use Rattle.std.proofs.Common.{◌≡◌, ℕ, suc, ◌+◌, ◌-◌, ◌<◌, ◌≤◌, Bool, true, false, cond, ltb, List, [], ◌∷◌, ◌++◌, length, take, drop, Some, Result, Ok, Err, refl, sym, ap, subst, ◌∙◌, append-nil, length-append, length-drop, arith}
use Rattle.std.specs.Prelude.{IsErrAnd}
use Rattle.std.proofs.lemmas.Bool.{le-ltb, lt-ltb}
use Rattle.std.proofs.lemmas.List.{drop_at}
use Rattle.lamport_clocks.specs.declared.header.Header.{Header}
use Rattle.record_hash.specs.Functions.{DigestFunctions}
use Rattle.record_text.specs.declared.reader.TextFault.{TextFault}
use Rattle.record_text.specs.declared.reader.TextFault.TheVariants.{Malformed, Truncated}
use Rattle.record_text.specs.Fields.{Parsed, ◌>>=◌, ranged}
use Rattle.record_text.specs.Reading.{run_at as bytes_at}
use Rattle.record_text.proofs.FieldLaws.{AreBytes}
use Rattle.seals.specs.declared.fault.Fault.{Fault}
use Rattle.seals.specs.declared.fault.Fault.TheVariants.{Text, Memory}
use Rattle.seals.specs.declared.state.SealedState.{SealedState}
use Rattle.seals.specs.State.{KeptRun, Seal}
use Rattle.seals.specs.Kept.{seal_in}
use Rattle.seals.specs.Run.{run_at}
use Rattle.seals.specs.Seal.{runs_at, untagged_at, tag_bytes, seal_at}
use Rattle.seals.specs.Front.{front_of}
use Rattle.seals.specs.Answer.{Reads, tagged_front, IsFront}
use Rattle.seals.proofs.RowLaws.{behind, behind-next}
use Rattle.seals.proofs.SealLaws.{untagged_left}

-- where a first reader stops with a fault and all stops with the same, a reader that takes memory stops so
pub stopped : {A B C D : Type 0} (seen : B → A) (all_seen : D → C) (fault : Fault) (left all_left : List ℕ) (first : Parsed A) (all : Parsed C) → ((f : TextFault) → first ≡ Err f → all ≡ Err f)
    → (let r : Result B Fault = Err fault in Reads seen r left first) → (let r : Result D Fault = Err fault in Reads all_seen r all_left all)
stopped seen all_seen (Text f) left all_left first all stops is = stops f is
stopped seen all_seen Memory left all_left first all stops is = tt

-- the same of a fault that is handed on
pub handed_on : {A B C D : Type 0} (seen : B → A) (all_seen : D → C) (result : Result D Fault) (fault : Fault) (left all_left : List ℕ) (first : Parsed A) (all : Parsed C) → ((f : TextFault) → first ≡ Err f → all ≡ Err f)
    → IsErrAnd result (λ e. e ≡ fault) → (let r : Result B Fault = Err fault in Reads seen r left first) → Reads all_seen result all_left all
handed_on seen all_seen (Ok made) fault left all_left first all stops is first_is = absurd is
handed_on {A} {B} {C} {D} seen all_seen (Err e) fault left all_left first all stops is first_is =
    subst (λ (x : Fault). let r : Result D Fault = Err x in Reads all_seen r all_left all) (sym is) (stopped {B = B} {D = D} seen all_seen fault left all_left first all stops first_is)

-- ---- verifiers

run-fault : (header : Header) (certified taken number count : ℕ) (bytes : List ℕ) (fault : TextFault) → run_at header certified taken number bytes ≡ Err fault → runs_at header certified taken number (suc count) bytes ≡ Err fault
unfolding runs_at
run-fault header certified taken number count bytes fault is =
    ap (λ (r : Parsed KeptRun). r >>= λ run. runs_at header certified taken (suc number) count run.1 >>= λ more. Ok (run.0 ∷ more.0, more.1)) is

run-next : (header : Header) (certified taken number count : ℕ) (bytes : List ℕ) (run : KeptRun) (rest : List ℕ) → run_at header certified taken number bytes ≡ Ok (run, rest)
    → runs_at header certified taken number (suc count) bytes ≡ (runs_at header certified taken (suc number) count rest >>= λ more. Ok (run ∷ more.0, more.1))
unfolding runs_at
run-next header certified taken number count bytes run rest is =
    ap (λ (r : Parsed KeptRun). r >>= λ run. runs_at header certified taken (suc number) count run.1 >>= λ more. Ok (run.0 ∷ more.0, more.1)) is

no_runs : (header : Header) (certified taken number : ℕ) (left : List ℕ) → runs_at header certified taken number 0 left ≡ Ok ([], left)
unfolding runs_at
no_runs header certified taken number left = refl

-- what the verifiers are read as, where these were read and these bytes are left
pub record AreSoFar (header : Header) (certified taken count : ℕ) (start : List ℕ) (runs : List KeptRun) (place : ℕ) (left : List ℕ) : Type 0 where
  pub all : runs_at header certified taken 0 count start ≡ behind runs (runs_at header certified taken place (count - place) left)

nothing_behind : (parsed : Parsed (List KeptRun)) → parsed ≡ behind [] parsed
nothing_behind (Ok found) = refl
nothing_behind (Err fault) = refl

pub runs-start : (header : Header) (certified taken count : ℕ) (start : List ℕ) (runs : List KeptRun) → runs ≡ [] → AreSoFar header certified taken count start runs 0 start
runs-start header certified taken count start runs none =
    let empty : List KeptRun = [] in
    let whole : count ≡ count - 0 = omega arith in
    subst (λ (xs : List KeptRun). AreSoFar header certified taken count start xs 0 start) {x = empty} (sym none)
    (record { all = nothing_behind (runs_at header certified taken 0 count start) ∙ ap (λ (n : ℕ). behind empty (runs_at header certified taken 0 n start)) whole })

pub runs-fault : (header : Header) (certified taken count : ℕ) (start : List ℕ) (runs : List KeptRun) (place : ℕ) (left : List ℕ) (fault : TextFault) → AreSoFar header certified taken count start runs place left → place < count
    → run_at header certified taken place left ≡ Err fault → runs_at header certified taken 0 count start ≡ Err fault
runs-fault header certified taken count start runs place left fault so_far within is =
    let more : count - place ≡ suc (count - (place + 1)) = omega arith in
    so_far.all ∙ (ap (λ (n : ℕ). behind runs (runs_at header certified taken place n left)) more
    ∙ ap (behind runs) (run-fault header certified taken place (count - (place + 1)) left fault is))

pub runs-next : (header : Header) (certified taken count : ℕ) (start : List ℕ) (runs : List KeptRun) (place : ℕ) (left : List ℕ) (run : KeptRun) (rest : List ℕ) (all : List KeptRun) → AreSoFar header certified taken count start runs place left → place < count
    → run_at header certified taken place left ≡ Ok (run, rest) → all ≡ runs ++ run ∷ [] → AreSoFar header certified taken count start all (place + 1) rest
runs-next header certified taken count start runs place left run rest all so_far within is grown =
    let more : count - place ≡ suc (count - (place + 1)) = omega arith in
    let one : suc place ≡ place + 1 = omega arith in
    let further : AreSoFar header certified taken count start (runs ++ run ∷ []) (place + 1) rest = record {
      all = so_far.all ∙ (ap (λ (n : ℕ). behind runs (runs_at header certified taken place n left)) more
          ∙ (ap (behind runs) (run-next header certified taken place (count - (place + 1)) left run rest is)
          ∙ (behind-next runs run (runs_at header certified taken (suc place) (count - (place + 1)) rest)
          ∙ ap (λ (n : ℕ). behind (runs ++ run ∷ []) (runs_at header certified taken n (count - (place + 1)) rest)) one)));
    } in
    subst (λ (xs : List KeptRun). AreSoFar header certified taken count start xs (place + 1) rest) (sym grown) further

pub runs-end : (header : Header) (certified taken count : ℕ) (start : List ℕ) (runs : List KeptRun) (place : ℕ) (left : List ℕ) → AreSoFar header certified taken count start runs place left → count ≤ place
    → runs_at header certified taken 0 count start ≡ Ok (runs, left)
runs-end header certified taken count start runs place left so_far all =
    let over : count - place ≡ 0 = omega arith in
    so_far.all ∙ (ap (λ (n : ℕ). behind runs (runs_at header certified taken place n left)) over
    ∙ (ap (behind runs) (no_runs header certified taken place left) ∙ ap (λ (xs : List KeptRun). Ok (xs, left)) (append-nil runs)))

-- ---- the tag

untagged-fault : (bytes : List ℕ) (fault : TextFault) → untagged_at bytes ≡ Err fault → seal_at bytes ≡ Err fault
unfolding seal_at
untagged-fault bytes fault is = ap (λ (r : Parsed Seal). r >>= λ seal. bytes_at tag_bytes seal.1 >>= λ tag. Ok ((seal.0, tag.0), tag.1)) is

-- a fault says what it does of the bytes so far
pub front_fault : (functions : DigestFunctions) (bytes left : List ℕ) (fault : Fault) → (let r : Result SealedState Fault = Err fault in Reads seal_in r left (untagged_at bytes)) → IsFront functions bytes (front_of fault)
front_fault functions bytes left (Text Truncated) is = untagged-fault bytes Truncated is
front_fault functions bytes left (Text Malformed) is = untagged-fault bytes Malformed is
front_fault functions bytes left Memory is = tt

behind_untagged : (bytes rest : List ℕ) (seal : Seal) → untagged_at bytes ≡ Ok (seal, rest) → seal_at bytes ≡ (bytes_at tag_bytes rest >>= λ tag. Ok ((seal, tag.0), tag.1))
unfolding seal_at
behind_untagged bytes rest seal is = ap (λ (r : Parsed Seal). r >>= λ seal. bytes_at tag_bytes seal.1 >>= λ tag. Ok ((seal.0, tag.0), tag.1)) is

pub tag_cut : (bytes rest : List ℕ) (seal : Seal) (left : ℕ) → untagged_at bytes ≡ Ok (seal, rest) → left ≡ length rest → left < tag_bytes → seal_at bytes ≡ Err Truncated
tag_cut bytes rest seal left is len short =
    let there : ltb (length rest) tag_bytes ≡ true = lt-ltb _ _ (omega (arith, len)) in
    behind_untagged bytes rest seal is
    ∙ ap (λ (b : Bool). cond b (Err Truncated) (ranged (Some (take tag_bytes rest)) (drop tag_bytes rest)) >>= λ tag. Ok ((seal, tag.0), tag.1)) there

-- what stands before the tag and behind that, and the seal that it makes
pub record IsSealBefore (bytes text behind : List ℕ) (seal : Seal) : Type 0 where
  pub read : seal_at bytes ≡ Ok ((seal, take tag_bytes behind), drop tag_bytes behind)
  pub front : tagged_front bytes (drop tag_bytes behind) ≡ text
  pub counted : length text + tag_bytes + length (drop tag_bytes behind) ≡ length bytes

pub seal_before : (bytes rest text behind : List ℕ) (seal : Seal) (left : ℕ) → AreBytes bytes → untagged_at bytes ≡ Ok (seal, rest) → left ≡ length rest → tag_bytes ≤ left
    → text ≡ take (length bytes - left) bytes → behind ≡ drop (length bytes - left) bytes → length text ≡ length bytes - left → IsSealBefore bytes text behind seal
seal_before bytes rest text behind seal left fits is len long front back text_len =
    let there : ltb (length rest) tag_bytes ≡ false = le-ltb _ _ (omega (arith, len)) in
    let left_of = untagged_left bytes seal rest fits is in
    let all : length bytes ≡ length left_of.0 + length rest = ap length left_of.1 ∙ length-append left_of.0 rest in
    let rest_is : behind ≡ rest = back ∙ (ap (drop (length bytes - left)) left_of.1 ∙ drop_at left_of.0 rest (length bytes - left) (omega (arith, all, len))) in
    let read : seal_at bytes ≡ Ok ((seal, take tag_bytes rest), drop tag_bytes rest) =
    behind_untagged bytes rest seal is
    ∙ ap (λ (b : Bool). cond b (Err Truncated) (ranged (Some (take tag_bytes rest)) (drop tag_bytes rest)) >>= λ tag. Ok ((seal, tag.0), tag.1)) there in
    let count : length bytes - (length (drop tag_bytes behind) + tag_bytes) ≡ length bytes - left = omega (arith, length-drop tag_bytes behind, ap length rest_is, len) in record {
      read = subst (λ (xs : List ℕ). seal_at bytes ≡ Ok ((seal, take tag_bytes xs), drop tag_bytes xs)) (sym rest_is) read;
      front = ap (λ (n : ℕ). take n bytes) count ∙ sym front;
      counted = omega (arith, text_len, length-drop tag_bytes behind, ap length rest_is, len, all);
    }

-- what is left of bytes is no more than there were
pub left_fits : (bytes rest : List ℕ) (seal : Seal) (left : ℕ) → AreBytes bytes → untagged_at bytes ≡ Ok (seal, rest) → left ≡ length rest → left ≤ length bytes
left_fits bytes rest seal left fits is len =
    let left_of = untagged_left bytes seal rest fits is in
    omega (arith, len, ap length left_of.1, length-append left_of.0 rest)

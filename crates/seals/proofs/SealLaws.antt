-- Seals are read as they are spelled.
use Rattle.std.proofs.Common.{◌≡◌, ℕ, zero, suc, ◌+◌, ◌-◌, ◌^◌, ◌<◌, List, [], ◌∷◌, ◌++◌, length, take, Some, Ok, Err, refl, sym, ap, subst, ◌∙◌, append_assoc, append-nil, length-append, arith}
use Rattle.std.specs.Prelude.{IsTrue}
use Rattle.std.specs.Int.{w32, w64, to_be_bytes}
use Rattle.std.specs.List.{flat_map}
use Rattle.std.proofs.lemmas.Bool.{leb-true, le-leb, eqb-true}
use Rattle.std.proofs.lemmas.List.{take_at, take-append-le}
use Rattle.lamport_clocks.specs.declared.header.Header.{Header}
use Rattle.record_hash.specs.Functions.{DigestFunctions}
use Rattle.receipts.specs.Receipts.{tagged}
use Rattle.record_text.specs.declared.reader.TextFault.TheVariants.{Truncated}
use Rattle.record_text.specs.Fields.{Parsed, ◌>>=◌, KeepsOn}
use Rattle.record_text.specs.Reading.{run_at as bytes_at, u32_at, u64_at}
use Rattle.record_text.proofs.FieldLaws.{AreBytes, Begins, Begins-then, bind_ok, Ok-is}
use Rattle.record_text.proofs.KeepsOnLaws.{keeps_on-nothing, keeps_on-then, keeps_on-made, keeps_on-run as keeps_on-bytes, keeps_on-u32, front_is_truncated, keeps_on-u64}
use Rattle.bundle_frames.specs.Bundle.{header_text}
use Rattle.seals.specs.Combined.{then_at, if_passing, at_most, exactly}
use Rattle.seals.specs.State.{KeptRun, Seal}
use Rattle.seals.specs.Run.{run_at, run_text}
use Rattle.seals.specs.Seal.{magic_number, most_taken, HeadFields, head_at, runs_at, seal_with, runs_behind, untagged_at, tag_bytes, seal_at, seal_text, AreGoodRuns, IsGoodSeal}
use Rattle.seals.specs.declared.state.SealedState.{SealedState}
use Rattle.seals.specs.Kept.{seal_in}
use Rattle.seals.specs.Answer.{tagged_front, IsWhole, IsUntagged}
use Rattle.seals.proofs.CodecLaws.{IsCodec, codec-then, IsPicked, codec-pick, codec-tested, keeps_on-both, keeps_on-pick}
use Rattle.seals.proofs.FieldCodecs.{codec-u32, codec-u64, codec-bytes}
use Rattle.seals.proofs.HeaderLaws.{IsGoodHeader, codec-header, keeps_on-header}
use Rattle.seals.proofs.RunLaws.{codec-run, keeps_on-run}

-- ---- the head

abbrev fields_text : HeadFields → List ℕ
fields_text f = to_be_bytes w32 f.0 ++ (to_be_bytes w64 f.1.0 ++ (to_be_bytes w64 f.1.1.0 ++ (header_text f.1.1.1.0 ++ to_be_bytes w32 f.1.1.1.1)))

abbrev AreGoodHeads : HeadFields → Type 0
AreGoodHeads f =
    (IsTrue (exactly magic_number f.0) × (f.0 < 2 ^ 32)) × ((f.1.0 < 2 ^ 64) × ((IsTrue (at_most most_taken f.1.1.0) × (f.1.1.0 < 2 ^ 64)) × (IsGoodHeader f.1.1.1.0 × (f.1.1.1.1 < 2 ^ 32))))

codec-head : IsCodec head_at fields_text AreGoodHeads
unfolding head_at
codec-head =
    codec-then _ _ _ _ (λ magic f. to_be_bytes w64 f.0 ++ (to_be_bytes w64 f.1.0 ++ (header_text f.1.1.0 ++ to_be_bytes w32 f.1.1.1)))
    (λ magic f. (f.0 < 2 ^ 64) × ((IsTrue (at_most most_taken f.1.0) × (f.1.0 < 2 ^ 64)) × (IsGoodHeader f.1.1.0 × (f.1.1.1 < 2 ^ 32)))) (codec-tested (exactly magic_number) u32_at (to_be_bytes w32) (λ n. n < 2 ^ 32) codec-u32) (λ magic good.
    codec-then _ _ _ _ (λ counter f. to_be_bytes w64 f.0 ++ (header_text f.1.0 ++ to_be_bytes w32 f.1.1)) (λ counter f. (IsTrue (at_most most_taken f.0) × (f.0 < 2 ^ 64)) × (IsGoodHeader f.1.0 × (f.1.1 < 2 ^ 32))) codec-u64 (λ counter small.
    codec-then _ _ _ _ (λ taken f. header_text f.0 ++ to_be_bytes w32 f.1) (λ taken f. IsGoodHeader f.0 × (f.1 < 2 ^ 32)) (codec-tested (at_most most_taken) u64_at (to_be_bytes w64) (λ n. n < 2 ^ 64) codec-u64) (λ taken few.
    codec-then _ _ _ _ (λ header certified. to_be_bytes w32 certified) (λ header certified. certified < 2 ^ 32) codec-header (λ header ranges. codec-u32))))

keeps_on-head : KeepsOn head_at
unfolding head_at
keeps_on-head =
    keeps_on-both _ _ (keeps_on-pick (if_passing (exactly magic_number)) u32_at keeps_on-u32) (λ magic. keeps_on-both _ _ keeps_on-u64 (λ counter.
    keeps_on-both _ _ (keeps_on-pick (if_passing (at_most most_taken)) u64_at keeps_on-u64) (λ taken. keeps_on-both _ _ keeps_on-header (λ header. keeps_on-u32))))

-- ---- the verifiers

abbrev AreRuns : Header → ℕ → ℕ → ℕ → ℕ → List KeptRun → Type 0
AreRuns header certified taken number count runs = (length runs ≡ count) × AreGoodRuns header certified taken number runs

runs_begin : (header : Header) (certified taken number count : ℕ) (bytes : List ℕ) (runs : List KeptRun) (rest : List ℕ) → AreBytes bytes → runs_at header certified taken number count bytes ≡ Ok (runs, rest)
    → Begins bytes (flat_map run_text runs) rest × AreRuns header certified taken number count runs
unfolding runs_at
runs_begin header certified taken number zero bytes runs rest fits e =
    let none : List KeptRun = [] in
    subst (λ (y : List KeptRun × List ℕ). Begins bytes (flat_map run_text y.0) y.1 × AreRuns header certified taken number 0 y.0) (Ok-is (none, bytes) (runs, rest) e)
    (record { parts = refl; rest_fits = fits }, (refl, tt))
runs_begin header certified taken number (suc count) bytes runs rest fits e =
    let a = bind_ok (run_at header certified taken number bytes) (λ run. runs_at header certified taken (suc number) count run.1 >>= λ more. Ok (run.0 ∷ more.0, more.1)) (runs, rest) e in
    let b = bind_ok (runs_at header certified taken (suc number) count a.0.1) (λ more. Ok (a.0.0 ∷ more.0, more.1)) (runs, rest) a.2 in
    let front = (codec-run header certified taken number).begins bytes a.0.0 a.0.1 fits a.1 in
    let back = runs_begin header certified taken (suc number) count a.0.1 b.0.0 b.0.1 front.0.rest_fits b.1 in
    let made : List KeptRun = a.0.0 ∷ b.0.0 in
    let long : length made ≡ suc count = omega (arith, back.1.0) in
    let good : AreRuns header certified taken number (suc count) made = (long, (front.1, back.1.1)) in
    subst (λ (y : List KeptRun × List ℕ). Begins bytes (flat_map run_text y.0) y.1 × AreRuns header certified taken number (suc count) y.0) {x = (made, b.0.1)} (Ok-is (made, b.0.1) (runs, rest) b.2)
    (Begins-then bytes (run_text a.0.0) a.0.1 (flat_map run_text b.0.0) b.0.1 front.0 back.0, good)

runs_again : (header : Header) (certified taken number count : ℕ) (runs : List KeptRun) (rest : List ℕ) → AreRuns header certified taken number count runs → runs_at header certified taken number count (flat_map run_text runs ++ rest) ≡ Ok (runs, rest)
unfolding runs_at
runs_again header certified taken number zero [] rest good = refl
runs_again header certified taken number zero (run ∷ runs) rest good = absurd (omega (arith, good.0))
runs_again header certified taken number (suc count) [] rest good = absurd (omega (arith, good.0))
runs_again header certified taken number (suc count) (run ∷ runs) rest good =
    let long : length runs ≡ count = omega (arith, good.0) in
    ap (λ (bytes : List ℕ). runs_at header certified taken number (suc count) bytes) (append_assoc (run_text run) (flat_map run_text runs) rest)
    ∙ (ap (λ (r : Parsed KeptRun). r >>= λ run. runs_at header certified taken (suc number) count run.1 >>= λ more. Ok (run.0 ∷ more.0, more.1)) ((codec-run header certified taken number).again run (flat_map run_text runs ++ rest) good.1.0)
    ∙ ap (λ (r : Parsed (List KeptRun)). r >>= λ more. Ok (run ∷ more.0, more.1)) (runs_again header certified taken (suc number) count runs rest (long, good.1.1)))

codec-runs : (header : Header) (certified taken number count : ℕ) → IsCodec (runs_at header certified taken number count) (λ runs. flat_map run_text runs) (AreRuns header certified taken number count)
codec-runs header certified taken number count = record {
  begins = runs_begin header certified taken number count;
  again = runs_again header certified taken number count;
}

keeps_on-runs : (header : Header) (certified taken number count : ℕ) → KeepsOn (runs_at header certified taken number count)
unfolding runs_at
keeps_on-runs header certified taken number zero = keeps_on-nothing []
keeps_on-runs header certified taken number (suc count) =
    keeps_on-then (run_at header certified taken number) (λ run bytes. runs_at header certified taken (suc number) count bytes >>= λ more. Ok (run ∷ more.0, more.1)) (keeps_on-run header certified taken number)
    (λ run. keeps_on-made (runs_at header certified taken (suc number) count) (λ more. run ∷ more) (keeps_on-runs header certified taken (suc number) count))

-- ---- a seal without its tag

abbrev head_of : Seal → HeadFields
head_of seal = (magic_number, (seal.counter, (seal.taken, (seal.header, seal.certified))))

abbrev AreGoodFields : HeadFields × List KeptRun → Type 0
AreGoodFields f = AreGoodHeads f.0 × AreRuns f.0.1.1.1.0 f.0.1.1.1.1 f.0.1.1.0 0 f.0.1.1.1.0.verifiers f.1

picked-seal : IsPicked (λ f. Some (seal_with f.0 f.1)) (λ seal. (head_of seal, seal.runs)) AreGoodFields IsGoodSeal
picked-seal = record {
  back = λ f seal good e.
      let is : seal_with f.0 f.1 ≡ seal = cc (e) in
      let magic : f.0.0 ≡ magic_number = eqb-true _ _ good.0.0.0 in
      let P : Seal → Type 0 = λ x. ((head_of x, x.runs) ≡ f) × IsGoodSeal x in
      subst P {x = seal_with f.0 f.1} is (
        ap (λ (n : ℕ). ((n, f.0.1), f.1)) (sym magic),
        record {
          counter = good.0.1.0;
          taken = leb-true _ _ good.0.1.1.0.0;
          header = good.0.1.1.1.0.ranges;
          first = good.0.1.1.1.0.first;
          certified = good.0.1.1.1.1;
          verifiers = good.1.0;
          runs = good.1.1;
        },
      );
  again = λ seal good.
      let small : magic_number < 2 ^ 32 = omega arith in
      let few : seal.taken < 2 ^ 64 = omega (arith, good.taken) in
      (refl, (((refl, small), (good.counter, ((le-leb _ _ good.taken, few), (record { ranges = good.header; first = good.first }, good.certified)))), (good.verifiers, good.runs)));
}

codec-untagged : IsCodec untagged_at seal_text IsGoodSeal
unfolding untagged_at
codec-untagged =
    codec-pick (λ f. Some (seal_with f.0 f.1)) (λ seal. (head_of seal, seal.runs)) (then_at head_at runs_behind) (λ f. fields_text f.0 ++ flat_map run_text f.1) AreGoodFields IsGoodSeal picked-seal
    (codec-then _ _ _ _ (λ f runs. flat_map run_text runs) (λ f runs. AreRuns f.1.1.1.0 f.1.1.1.1 f.1.1.0 0 f.1.1.1.0.verifiers runs) codec-head (λ f good. codec-runs f.1.1.1.0 f.1.1.1.1 f.1.1.0 0 f.1.1.1.0.verifiers))

keeps_on-untagged : KeepsOn untagged_at
unfolding untagged_at
keeps_on-untagged =
    keeps_on-pick (λ f. Some (seal_with f.0 f.1)) (then_at head_at runs_behind) (keeps_on-both head_at runs_behind keeps_on-head (λ f. keeps_on-runs f.1.1.1.0 f.1.1.1.1 f.1.1.0 0 f.1.1.1.0.verifiers))

-- the bytes before those that are left
pub untagged_left : (bytes : List ℕ) (seal : Seal) (rest : List ℕ) → AreBytes bytes → untagged_at bytes ≡ Ok (seal, rest) → (text : List ℕ) × (bytes ≡ text ++ rest)
untagged_left bytes seal rest fits e = (seal_text seal, (codec-untagged.begins bytes seal rest fits e).0.parts)

-- ---- a seal

codec-seal : IsCodec seal_at (λ f. seal_text f.0 ++ f.1) (λ f. IsGoodSeal f.0 × (length f.1 ≡ tag_bytes))
unfolding seal_at
codec-seal = codec-then _ _ _ _ (λ seal tag. tag) (λ seal tag. length tag ≡ tag_bytes) codec-untagged (λ seal good. codec-bytes tag_bytes)

pub keeps_on-seal : KeepsOn seal_at
unfolding seal_at
keeps_on-seal = keeps_on-both untagged_at (λ seal. bytes_at tag_bytes) keeps_on-untagged (λ seal. keeps_on-bytes tag_bytes)

-- what is good is read back, with any tag and whatever follows
pub seal_back : (seal : Seal) (tag rest : List ℕ) → IsGoodSeal seal → length tag ≡ tag_bytes → seal_at (seal_text seal ++ tag ++ rest) ≡ Ok ((seal, tag), rest)
seal_back seal tag rest good len = codec-seal.again (seal, tag) rest (good, len)

-- what is read is spelled so and good
pub seal_spelled : (bytes : List ℕ) (seal : Seal) (tag rest : List ℕ) → AreBytes bytes → seal_at bytes ≡ Ok ((seal, tag), rest) → (bytes ≡ seal_text seal ++ tag ++ rest) × IsGoodSeal seal × (length tag ≡ tag_bytes)
seal_spelled bytes seal tag rest fits e =
    let f = codec-seal.begins bytes (seal, tag) rest fits e in
    (f.0.parts, f.1.0, f.1.1)

-- the text of a seal is what stands before its tag
pub seal_front : (bytes : List ℕ) (seal : Seal) (tag rest : List ℕ) → AreBytes bytes → seal_at bytes ≡ Ok ((seal, tag), rest) → tagged_front bytes rest ≡ seal_text seal
seal_front bytes seal tag rest fits e =
    let f = seal_spelled bytes seal tag rest fits e in
    let text = seal_text seal in
    let whole : bytes ≡ seal_text seal ++ (tag ++ rest) = f.0 ∙ append_assoc (seal_text seal) tag rest in
    let len : length (seal_text seal) ≡ length bytes - (length rest + tag_bytes) = omega (arith, ap length whole, length-append (seal_text seal) (tag ++ rest), length-append tag rest, f.2) in
    ap (λ (xs : List ℕ). take (length bytes - (length rest + tag_bytes)) xs) whole ∙ take_at (seal_text seal) (tag ++ rest) (length bytes - (length rest + tag_bytes)) len

-- a text that is cut short leaves it open
pub seal_cut : (seal : Seal) (tag front : List ℕ) (c : ℕ) (more : List ℕ) → IsGoodSeal seal → length tag ≡ tag_bytes → seal_text seal ++ tag ≡ front ++ c ∷ more → seal_at front ≡ Err Truncated
seal_cut seal tag front c more good len is =
    front_is_truncated seal_at front c more (seal, tag) keeps_on-seal (ap seal_at (sym (append-nil (seal_text seal ++ tag) ∙ is)) ∙ seal_back seal tag [] good len)

-- what is written of a state is read as it, with its tag
pub seal_written : (functions : DigestFunctions) (state : SealedState) (rest : List ℕ) → IsGoodSeal (seal_in state) → length (functions.tag (seal_text (seal_in state))) ≡ tag_bytes
    → IsWhole functions (tagged functions (seal_text (seal_in state)) ++ rest) state (length (tagged functions (seal_text (seal_in state))))
seal_written functions state rest good len =
    let count : length (seal_text (seal_in state)) ≡ length (seal_text (seal_in state) ++ functions.tag (seal_text (seal_in state)) ++ rest) - (length rest + tag_bytes) =
    omega (arith, length-append (seal_text (seal_in state) ++ functions.tag (seal_text (seal_in state))) rest, length-append (seal_text (seal_in state)) (functions.tag (seal_text (seal_in state))), len) in
    let front : tagged_front (seal_text (seal_in state) ++ functions.tag (seal_text (seal_in state)) ++ rest) rest ≡ seal_text (seal_in state) =
    ap (λ (xs : List ℕ). take (length (seal_text (seal_in state) ++ functions.tag (seal_text (seal_in state)) ++ rest) - (length rest + tag_bytes)) xs) (append_assoc (seal_text (seal_in state)) (functions.tag (seal_text (seal_in state))) rest)
    ∙ take_at (seal_text (seal_in state)) (functions.tag (seal_text (seal_in state)) ++ rest) _ count in record {
      tag = functions.tag (seal_text (seal_in state));
      rest = rest;
      read = seal_back (seal_in state) (functions.tag (seal_text (seal_in state))) rest good len;
      tagged = ap functions.tag front;
      counted = sym (length-append (seal_text (seal_in state) ++ functions.tag (seal_text (seal_in state))) rest);
    }

-- a whole seal is the text of what it keeps and that text's tag
pub whole_tagged : (functions : DigestFunctions) (bytes : List ℕ) (state : SealedState) (count : ℕ) → AreBytes bytes → IsWhole functions bytes state count → (take count bytes ≡ tagged functions (seal_text (seal_in state))) × IsGoodSeal (seal_in state)
whole_tagged functions bytes state count fits whole =
    let spelled = seal_spelled bytes (seal_in state) whole.tag whole.rest fits whole.read in
    let front = seal_front bytes (seal_in state) whole.tag whole.rest fits whole.read in
    let tag : whole.tag ≡ functions.tag (seal_text (seal_in state)) = sym whole.tagged ∙ ap functions.tag front in
    let len : length (seal_text (seal_in state) ++ whole.tag) ≡ count = omega (arith, ap length spelled.0, length-append (seal_text (seal_in state) ++ whole.tag) whole.rest, whole.counted) in
    (ap (take count) spelled.0 ∙ (take_at (seal_text (seal_in state) ++ whole.tag) whole.rest count len ∙ ap (λ (t : List ℕ). seal_text (seal_in state) ++ t) tag), spelled.1)

-- ---- bytes begin with one seal

pub one_seal : (functions : DigestFunctions) (bytes : List ℕ) (state other : SealedState) (count size : ℕ) → IsWhole functions bytes state count → IsWhole functions bytes other size
    → (seal_in state ≡ seal_in other) × (count ≡ size)
one_seal functions bytes state other count size whole again =
    let same = Ok-is ((seal_in state, whole.tag), whole.rest) ((seal_in other, again.tag), again.rest) (sym whole.read ∙ again.read) in
    (ap (λ (f : (Seal × List ℕ) × List ℕ). f.0.0) same, omega (arith, whole.counted, again.counted, ap (λ (f : (Seal × List ℕ) × List ℕ). length f.1) same))

pub one_tag : (functions : DigestFunctions) (bytes : List ℕ) (state : SealedState) (count : ℕ) → IsWhole functions bytes state count → IsUntagged functions bytes → ⊥
one_tag functions bytes state count whole untagged =
    let same = Ok-is ((seal_in state, whole.tag), whole.rest) ((untagged.seal, untagged.tag), untagged.rest) (sym whole.read ∙ untagged.read) in
    untagged.other
    (ap (λ (f : (Seal × List ℕ) × List ℕ). functions.tag (tagged_front bytes f.1)) (sym same) ∙ (whole.tagged ∙ ap (λ (f : (Seal × List ℕ) × List ℕ). f.0.1) same))

-- ---- more bytes behind a seal

tagged_front-more : (bytes more rest : List ℕ) → tagged_front (bytes ++ more) (rest ++ more) ≡ tagged_front bytes rest
tagged_front-more bytes more rest =
    let count : length (bytes ++ more) - (length (rest ++ more) + tag_bytes) ≡ length bytes - (length rest + tag_bytes) = omega (arith, length-append bytes more, length-append rest more) in
    ap (λ (n : ℕ). take n (bytes ++ more)) count ∙ take-append-le (length bytes - (length rest + tag_bytes)) bytes more (omega arith)

pub whole_more : (functions : DigestFunctions) (bytes more : List ℕ) (state : SealedState) (count : ℕ) → IsWhole functions bytes state count → IsWhole functions (bytes ++ more) state count
whole_more functions bytes more state count whole = record {
  tag = whole.tag;
  rest = whole.rest ++ more;
  read = keeps_on-seal.found bytes more (seal_in state, whole.tag) whole.rest whole.read;
  tagged = ap functions.tag (tagged_front-more bytes more whole.rest) ∙ whole.tagged;
  counted = omega (arith, whole.counted, length-append whole.rest more, length-append bytes more);
}

pub untagged_more : (functions : DigestFunctions) (bytes more : List ℕ) → IsUntagged functions bytes → IsUntagged functions (bytes ++ more)
untagged_more functions bytes more untagged = record {
  seal = untagged.seal;
  tag = untagged.tag;
  rest = untagged.rest ++ more;
  read = keeps_on-seal.found bytes more (untagged.seal, untagged.tag) untagged.rest untagged.read;
  other = λ is. untagged.other (ap functions.tag (sym (tagged_front-more bytes more untagged.rest)) ∙ is);
}
